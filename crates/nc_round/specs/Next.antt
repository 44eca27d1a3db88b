-- One more round of a network.
use Rattle.std.specs.Prelude.{List, length, map}
use Rattle.std.specs.List.{filter_map, range_with_len}
use Rattle.nc_types.specs.Cidr.{Cidr}
use Rattle.nc_types.specs.Config.{ConfigView}
use Rattle.nc_tables.specs.declared.base.BaseRow.{BaseRow}
use Rattle.nc_tables.specs.declared.bgp.SessionRow.{SessionRow}
use Rattle.nc_tables.specs.Rounds.{BgpRowView, round, row_at}
use Rattle.nc_message.specs.declared.inputs.RoutingInputs.{RoutingInputs}

-- the table after one more round
abbrev pub next : RoutingInputs → List (List BgpRowView) → List (List BgpRowView)
next i table = round i.network.now i.base.now i.sessions.now table

-- a round of which the rows of these prefixes alone are kept
abbrev pub round_of : List Cidr → List ConfigView → List (List BaseRow) → List (List SessionRow) → List (List BgpRowView) → List (List BgpRowView)
round_of prefixes routers tables sessions table = map (λ router. filter_map (row_at routers tables sessions table router) prefixes) (range_with_len 0 (length routers))

abbrev pub next_of : List Cidr → RoutingInputs → List (List BgpRowView) → List (List BgpRowView)
next_of prefixes i table = round_of prefixes i.network.now i.base.now i.sessions.now table
