use Rattle.nc_tables.specs.Rounds.{bgp_row_view}
use Rattle.std.proofs.Common.{map}
use Rattle.nc_tables.proofs.Spread.{rows_are}
use Rattle.nc_tables.proofs.router_rows.RouterRows.of.Goals as goal

pub returns-clause-valid : goal.returns-clause-valid
returns-clause-valid c =
    let s = c.args.spread in
    let placed = c.requires.0 in
    rows_are (map bgp_row_view s.own.now) s.standing.now s.prefixes.now s.places.now placed.ordered placed.valid placed.count c.requires.1.own c.requires.1.few
