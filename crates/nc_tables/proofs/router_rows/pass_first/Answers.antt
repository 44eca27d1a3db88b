use Rattle.std.proofs.Common.{map, length}
use Rattle.nc_tables.specs.Rounds.{bgp_row_view}
use Rattle.nc_tables.proofs.OwnRows.{above_first, passed_rows, placed_behind, within_behind}
use Rattle.nc_tables.proofs.router_rows.pass_first.Goals as goal

pub returns-clause-some : goal.returns-clause-some
returns-clause-some c =
    let s = c.args.spread.now in
    let ps = c.in_ok-prefix.prefixes.now in
    let above = above_first s.prefixes.now s.places.now _ ps _ _ c.in_ok-prefix.ensures.cases.0 c.in_ok-place.ensures.cases.0 c.requires.0 in
    passed_rows s.prefixes.now s.places.now _ ps _ _ c.in_ok-prefix.ensures.cases.0 c.in_ok-place.ensures.cases.0
    (map bgp_row_view s.own.now) (map bgp_row_view c.own_behind-spread.result.now) s.standing.now c.held_of-held.result.now c.held_of-held.ensures (c.own_behind-spread.ensures.same ps above)

pub returns-clause-spread : goal.returns-clause-spread
returns-clause-spread c =
    let s = c.args.spread.now in
    let placed = placed_behind s.prefixes.now s.places.now _ _ _ _ c.in_ok-prefix.ensures.cases.0 c.in_ok-place.ensures.cases.0 c.requires.0 in
    let within = within_behind s.prefixes.now s.places.now _ _ _ _ c.in_ok-prefix.ensures.cases.0 c.in_ok-place.ensures.cases.0 (length s.standing.now) c.requires.1.within in
    (placed, record { own = c.own_behind-spread.ensures.valid; few = c.requires.1.few; within = within })
