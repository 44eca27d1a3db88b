use Rattle.std.proofs.Common.{◌≡◌, ◌<◌, ◌||◌, ◌∙◌, ℕ, List, Bool, true, sym, ap, subst}
use Rattle.std.specs.List.{list_any}
use Rattle.nc_types.proofs.Truth.{or_false}
use Rattle.nc_marks.specs.Reach.{is_leaf_of}
use Rattle.nc_marks.specs.Sets.{flag}
use Rattle.nc_suite.specs.Dead.{HasNode}
use Rattle.nc_suite.proofs.DeadLemmas.{misses-same, node-found}
use Rattle.nc_suite.proofs.unmet.dead.Goals as goal

pub returns : goal.returns
returns g c =
    let n = c.args.graph.now in
    let same : (e : ℕ) → e < c.args.elements → flag c.deref.result.now e ≡ list_any (is_leaf_of e) n.kinds
    = λ e lt. ap (λ (fs : List Bool). flag fs e) c.deref.ensures.value
    ∙ c.flag_elements.ensures.flags e (subst (λ k. e < k) (sym c.in_ok-flags.ensures.len) lt)
    ∙ ap (λ b. list_any (is_leaf_of e) n.kinds || b) (c.in_ok-flags.ensures.lowered e) ∙ or_false (list_any (is_leaf_of e) n.kinds) in
    misses-same (λ e. flag c.deref.result.now e ≡ true) (HasNode n) c.args.elements _
    (λ e lt. let found = node-found n c.flag_elements.ensures.graph e in (λ h. found.0 (sym (same e lt) ∙ h), λ h. same e lt ∙ found.1 h)) c.in_ok-dead.ensures
