use Rattle.std.proofs.Common.{◌≡◌, ◌++◌, drop}
use Rattle.nc_tables.specs.Base.{statics_from}
use Rattle.nc_base_rib.proofs.statics.add_statics.Given as goal

-- the rows so far and those of the routes that are left are all rows
abbrev pub invariant-statics : goal.invariant-statics
invariant-statics l = l.rows.items ++ statics_from l.interfaces l.place (drop l.place l.statics) ≡ l.fn.rows.items ++ statics_from l.interfaces 0 l.statics
