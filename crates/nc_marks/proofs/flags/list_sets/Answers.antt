use Rattle.std.proofs.Common.{◌∙◌, ◌||◌, ℕ, List, take, get_or, ap, sym}
use Rattle.std.proofs.lemmas.List.Folds.{list_any_more}
use Rattle.nc_marks.specs.Sets.{has, has_at, in_some}
use Rattle.nc_marks.proofs.SetLemmas.{lists-more}
use Rattle.nc_marks.proofs.flags.list_sets.Goals as goal

pub nodes-preserved : goal.nodes-preserved
nodes-preserved c =
    let t = c.args.sets.now in
    let places = c.args.places.now in
    lists-more _ _ _ _ _ _ _
    (λ e. list_any_more (λ p. has_at t (get_or places p.0 0) e) c.args.nodes.now c.nodes.node-index _ c.nodes-test.true
    ∙ ap (λ (set : List ℕ). in_some t places (take c.nodes.node-index c.args.nodes.now) e || has set e) (sym (c.deref.ensures.value ∙ c.in_ok-list.ensures)))
    c.nodes.invariant c.in_ok-list_set.ensures
