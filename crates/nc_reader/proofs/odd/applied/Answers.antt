use Rattle.std.proofs.Common.{◌+◌, ◌<◌, ◌||◌, List, map, drop, length, ap, sym, ◌∙◌, arith}
use Rattle.std.specs.List.{filter_map, list_any}
use Rattle.std.specs.Str.{bytes_eq}
use Rattle.nc_types.proofs.Walks.{drop_view}
use Rattle.nc_reader.specs.Configuration.{applied_by}
use Rattle.nc_reader.specs.Parts.{part_view}
use Rattle.nc_reader.specs.Things.{Part}
use Rattle.nc_reader.proofs.OddLemmas.{applied-more}
use Rattle.nc_reader.proofs.odd.applied.Goals as goal

pub parts-preserved : goal.parts-preserved
parts-preserved c = λ q.
    let items = c.args.parts.now in
    let item = c.part-item.result in
    let within : c.parts.part-index < length items = omega arith in
    let rest : List Part = drop (c.parts.part-index + 1) (map part_view items) in
    applied-more q (applied_by (part_view item)) c.parts.names.keys c.add_applied.new.names.keys (filter_map applied_by rest) (c.in_ok-add_applied.ensures q)
    ∙ ap (λ (ps : List Part). list_any (bytes_eq q) c.parts.names.keys || list_any (bytes_eq q) (filter_map applied_by ps)) (sym (drop_view part_view items c.parts.part-index item c.part-item.is within))
    ∙ c.parts.invariant q
