use Rattle.nc_tables.proofs.SideBySide.{ends_in_order, side_by_side}
use Rattle.nc_tables.proofs.longest.rows_with.Goals as goal

pub returns-clause-rows : goal.returns-clause-rows
returns-clause-rows g c =
    side_by_side g.R.HasPrefix.prefix_of c.args.prefix c.args.rows.now c.first_place-from.result c.place_behind-to.result c.first_place-from.ensures.bound c.place_behind-to.ensures.bound c.first_place-from.ensures.parts c.place_behind-to.ensures.parts

pub returns-clause-ordered : goal.returns-clause-ordered
returns-clause-ordered g c =
    ends_in_order g.R.HasPrefix.prefix_of c.args.prefix c.args.rows.now c.first_place-from.result c.place_behind-to.result c.first_place-from.ensures.bound c.place_behind-to.ensures.bound c.first_place-from.ensures.parts c.place_behind-to.ensures.parts
