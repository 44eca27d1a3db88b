use Rattle.std.proofs.Common.{◌≤◌, [], ◌++◌, length, map, sym, ap, ◌∙◌, arith}
use Rattle.std.specs.Option.{option_map_or}
use Rattle.std.proofs.lemmas.List.{append-nil, length-map}
use Rattle.std.proofs.lemmas.Option.{slice_get_past}
use Rattle.nc_trace.specs.Views.{alternative_view}
use Rattle.nc_rules_route.specs.Parents.{way_parents}
use Rattle.nc_rules_route.proofs.paths.push_step.Goals as goal

pub returns-in-None-clause-ok : goal.returns-in-None-clause-ok
returns-in-None-clause-ok c =
    let ways = c.args.ways.now in
    let past : length ways ≤ c.args.place = c.in-None.ensures.lookup.3 in
    let behind : length (map alternative_view ways) ≤ c.args.place = omega (arith, past, length-map ways alternative_view) in
    sym (append-nil c.args.into.now.items)
    ∙ ap (λ o. c.args.into.now.items ++ option_map_or (way_parents c.args.state.now c.args.trip.packet c.args.router c.args.trip.addr c.args.trip.hops) o []) (sym (slice_get_past (map alternative_view ways) c.args.place behind))
