use Rattle.std.proofs.Common.{◌≡◌, length}
use Rattle.nc_tables.specs.SpreadView.{rows_in, IsSpread}
use Rattle.nc_tables.proofs.router_rows.RouterRows.next_row.Given as goal

-- nothing is chosen of the prefixes so far
abbrev pub invariant-prefixes : goal.invariant-prefixes
invariant-prefixes l = (rows_in l.self-inside.spread ≡ rows_in l.initial.self-inside.spread) × IsSpread l.self-inside.spread

abbrev pub decreases-prefixes : goal.decreases-prefixes
decreases-prefixes l = length l.self-inside.spread.prefixes.now
