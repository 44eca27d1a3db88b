-- What the peer of a session has chosen.
use Rattle.std.specs.Prelude.{List, Option}
use Rattle.std.specs.Option.{option_and_then}
use Rattle.nc_types.specs.Cidr.{Cidr}
use Rattle.nc_tables.specs.declared.bgp.Chosen.{Chosen}
use Rattle.nc_tables.specs.declared.bgp.SessionRow.{SessionRow}
use Rattle.nc_tables.specs.Rounds.{BgpRowView, best_at}

-- the best candidate of a prefix that the peer has chosen, if there is a session
abbrev pub best_over : List (List BgpRowView) → Cidr → Option SessionRow → Option Chosen
best_over table prefix o = option_and_then (λ s. best_at table s.peer.0 prefix) o
