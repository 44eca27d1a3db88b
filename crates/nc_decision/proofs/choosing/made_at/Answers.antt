use Rattle.std.proofs.Common.{◌≡◌, ◌++◌, ◌+◌, ◌<◌, ◌≤◌, [], ◌∷◌, Some, length, drop, get_or, refl, ap, ◌∙◌, arith}
use Rattle.std.specs.Global.{Vec}
use Rattle.std.specs.List.{filter_map, slice_get}
use Rattle.std.proofs.lemmas.Option.{slice_get_past, slice_get_read}
use Rattle.nc_tables.specs.declared.bgp.Chosen.{Chosen}
use Rattle.nc_decision.proofs.Picking.{picks_one, picks_none}
use Rattle.nc_decision.proofs.choosing.made_at.Goals as goal
use Rattle.nc_decision.proofs.choosing.made_at.Goals.{then-place-candidates+in_ok-entry+in_ok-push, else-place-candidates}

pub places-preserved : goal.places-preserved
places-preserved c =
    let places = c.args.places.now in
    let i = c.places.place-index in
    let place = get_or places i 0 in
    let items = c.args.candidates.now in
    let made = c.places.made.items in
    let lt : i < length places = omega arith in
    let total = filter_map (slice_get items) places in
    elim c.if-place-candidates.branch [
      | then-place-candidates+in_ok-entry+in_ok-push w ↦
          let x = w.index-candidates-place.result in
          let within : place < length items = omega (arith, w.if-place-candidates.true) in
          let at : slice_get items place ≡ Some x = slice_get_read items (length items) place x refl within w.index-candidates-place.is in
          let pushed : c.if-place-candidates.made.items ≡ made ++ x ∷ [] = ap (λ (v : Vec Chosen). v.items) w.made-is ∙ w.in_ok-push.ensures.items ∙ ap (λ (y : Chosen). made ++ y ∷ []) w.in_ok-entry.ensures in
          picks_one places i lt items made total c.places.invariant x c.if-place-candidates.made.items at pushed
      | else-place-candidates w ↦
          let past : length items ≤ place = omega (arith, w.if-place-candidates.false) in
          ap (λ (v : Vec Chosen). v.items ++ filter_map (slice_get items) (drop (i + 1) places)) w.made-is
          ∙ picks_none places i lt items made total c.places.invariant (slice_get_past items place past)
    ]
