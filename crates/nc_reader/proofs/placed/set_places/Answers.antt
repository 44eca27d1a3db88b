use Rattle.std.proofs.Common.{◌<◌, ◌≤◌, ℕ, List, Vec, Global, length, set, get_or, ap, ◌∙◌, arith}
use Rattle.std.proofs.lemmas.List.{take_all, get_or_default}
use Rattle.nc_reader.specs.Configuration.{with_places}
use Rattle.nc_reader.proofs.PlacedLemmas.{placed_more, placed_past}
use Rattle.nc_reader.proofs.placed.set_places.Goals as goal
use Rattle.nc_reader.proofs.placed.set_places.Goals.{then-index-len, else-index-len}

pub places-preserved : goal.places-preserved
places-preserved g c =
    let ks = c.args.places.now in
    let i = c.places.index in
    let things = c.places.things.items in
    elim c.if-index-len.branch [
      | then-index-len w ↦
          let within : i < length things = omega (arith, w.if-index-len.true, c.len.ensures, c.places.things.ok.0) in
          let x = w.index_mut-thing.result.now in
          ap (λ (v : Vec g.row.T.Denot Global). v.items) w.things-is ∙ ap (set things i) w.set_place.ensures
          ∙ placed_more g.T.Placed.placed i ks c.args.things.now.items things (get_or ks i 0) x c.places-test.true within (get_or_default ks i 0 (get_or ks i 0) c.places-test.true) w.index_mut-thing.ensures.value c.places.invariant
      | else-index-len w ↦
          let over : length things ≤ i = omega (arith, w.if-index-len.false, c.len.ensures, c.places.things.ok.0) in
          ap (λ (v : Vec g.row.T.Denot Global). v.items) w.things-is ∙ placed_past g.T.Placed.placed i ks c.args.things.now.items things over c.places.invariant
    ]

pub returns : goal.returns
returns g c = c.places.invariant ∙ ap (λ (ks : List ℕ). with_places g.T.Placed.placed ks c.args.things.now.items) (take_all c.places.index c.args.places.now c.places-test.false)
