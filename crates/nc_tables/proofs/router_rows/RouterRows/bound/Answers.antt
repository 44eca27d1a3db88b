use Rattle.std.proofs.Common.{◌≤◌, List, length, map, subst}
use Rattle.nc_tables.specs.Rounds.{BgpRowView, bgp_row_view}
use Rattle.nc_tables.proofs.Spread.{most_rows}
use Rattle.nc_tables.proofs.router_rows.RouterRows.bound.Goals as goal

pub returns : goal.returns
returns c =
    let s = c.self.inside.spread in
    subst (λ (rows : List BgpRowView). length rows ≤ length s.prefixes.now) c.self.view_is (most_rows (map bgp_row_view s.own.now) s.standing.now s.prefixes.now s.places.now c.self.invariant.0.count)
