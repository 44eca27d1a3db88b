use Rattle.std.proofs.Common.{◌≡◌, ◌++◌, map}
use Rattle.std.specs.List.{range_with_len}
use Rattle.nc_main_rib.specs.Sides.{learnt_row}
use Rattle.nc_main_rib.proofs.rows.add_learnt.Given as goal

abbrev pub invariant-chosen : goal.invariant-chosen
invariant-chosen l = l.main.items ≡ l.fn.main.items ++ map (learnt_row l.prefix l.distance) (range_with_len 0 l.place)
