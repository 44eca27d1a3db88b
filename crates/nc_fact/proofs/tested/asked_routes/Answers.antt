use Rattle.std.proofs.Common.{◌≡◌, ◌+◌, ◌++◌, ◌∷◌, [], Vec, Bool, true, false, cond, sym, ap, ◌∙◌}
use Rattle.std.specs.Global.{Global}
use Rattle.std.proofs.lemmas.List.{append-nil}
use Rattle.nc_fact.specs.declared.fact.Fact.{Fact}
use Rattle.nc_fact.specs.declared.fact.Fact.TheVariants.{Chosen}
use Rattle.nc_fact.specs.Facts.{holds}
use Rattle.nc_fact.proofs.ByPlace.{facts_below, one_more}
use Rattle.nc_fact.proofs.tested.asked_routes.Goals as goal
use Rattle.nc_fact.proofs.tested.asked_routes.Goals.{then-holds+in_ok-push, else-holds}

pub places-preserved : goal.places-preserved
places-preserved c =
    let has : Fact → Bool = holds c.args.state.now in
    let make = Chosen c.args.router c.args.prefix in
    let step : (b : Bool) → has (make c.places.place) ≡ b → c.places.facts.items ++ cond b (make c.places.place ∷ []) [] ≡ facts_below has make (c.places.place + 1) =
    λ b is. one_more has make c.places.place b c.places.facts.items is c.places.invariant in
    elim c.if-holds.branch [
      | then-holds+in_ok-push w ↦ ap (λ (v : Vec Fact Global). v.items) w.facts-is ∙ w.in_ok-push.ensures.items ∙ step true (sym c.holds.ensures ∙ w.if-holds.true)
      | else-holds w ↦ ap (λ (v : Vec Fact Global). v.items) w.facts-is ∙ sym (append-nil c.places.facts.items) ∙ step false (sym c.holds.ensures ∙ w.if-holds.false)
    ]
