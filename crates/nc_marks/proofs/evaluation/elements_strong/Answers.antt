use Rattle.std.proofs.Common.{◌≡◌, ◌<◌, ◌∙◌, ap, subst, sym, slice_index_or}
use Rattle.nc_marks.specs.Sets.{in_some}
use Rattle.nc_marks.proofs.StrongLemmas.{tested-strong}
use Rattle.nc_marks.proofs.evaluation.elements_strong.Goals as goal

pub returns-clause-strong : goal.returns-clause-strong
returns-clause-strong g c = λ e lt.
    let wide : c.places_of.new.sets.width ≡ c.args.elements = c.in_ok-places.ensures.width ∙ ap (λ t. t.width) c.in_ok-sets.ensures in
    c.in_ok-strong.ensures.strong e (subst (λ m. e < m) (sym wide) lt)
    ∙ ap (λ ps. in_some c.places_of.new.sets ps c.args.tested.now e) c.deref.ensures.value
    ∙ tested-strong c.args.graph.now c.places_of.new.sets c.in_ok-places.places.items c.args.tested.now e (subst (λ m. e < m) (sym wide) lt)
    (λ k d h. c.in_ok-places.ensures.strong (slice_index_or c.args.tested.now k d).0 (c.requires.tested k d h))
