use Rattle.std.proofs.Common.{◌≡◌, ◌+◌, ◌++◌, ◌∷◌, [], List, map, take, ap, sym, ◌∙◌}
use Rattle.std.specs.List.{filter_map, flat_map}
use Rattle.std.specs.Prelude.{Option}
use Rattle.std.proofs.lemmas.List.{map_push, take_more}
use Rattle.nc_types.specs.Faults.{lowest}
use Rattle.nc_types.specs.declared.fault.Fault.{Fault}
use Rattle.nc_read_filter.specs.declared.filters.OddLine.{OddLine}
use Rattle.nc_reader.specs.declared.things.Part.{Part as PartRead}
use Rattle.nc_reader.specs.Configuration.{applied_by, odd_in, odd_fault}
use Rattle.nc_reader.specs.Parts.{part_view}
use Rattle.nc_reader.specs.Things.{Part}
use Rattle.nc_reader.proofs.OddLemmas.{parts-more}
use Rattle.nc_reader.proofs.odd.note_odd.Goals as goal

pub parts-preserved : goal.parts-preserved
parts-preserved c = λ fs same.
    let parts : List PartRead = c.args.parts.now in
    let k = c.parts.part-index in
    let item : PartRead = c.part-item.result in
    let fault : OddLine → Option Fault = odd_fault (filter_map applied_by (map part_view parts)) in
    let more : map part_view (take (k + 1) parts) ≡ map part_view (take k parts) ++ part_view item ∷ [] =
    ap (map part_view) (take_more parts k item c.parts-test.true ∙ ap (λ (p : PartRead). take k parts ++ p ∷ []) (sym c.part-item.is)) ∙ map_push part_view (take k parts) item in
    c.in_ok-least.ensures (fs ++ filter_map fault (flat_map odd_in (map part_view (take k parts)))) (c.parts.invariant fs same)
    ∙ parts-more fault odd_in fs (map part_view (take k parts)) (part_view item) ∙ ap (λ (ps : List Part). lowest (fs ++ filter_map fault (flat_map odd_in ps))) (sym more)
