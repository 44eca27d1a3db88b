use Rattle.std.proofs.Common.{◌≡◌, ◌++◌, drop}
use Rattle.nc_tables.specs.Base.{connected_from}
use Rattle.nc_base_rib.proofs.candidates.connected.Given as goal

-- the rows so far and those of the interfaces that are left are all rows
abbrev pub invariant-interfaces : goal.invariant-interfaces
invariant-interfaces l = l.rows.items ++ connected_from l.place (drop l.place l.interfaces) ≡ connected_from 0 l.interfaces
