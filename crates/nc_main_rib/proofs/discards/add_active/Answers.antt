use Rattle.std.proofs.Common.{[], slice_index_or, sym, ◌∙◌}
use Rattle.nc_main_rib.specs.Sides.{place_by}
use Rattle.nc_main_rib.proofs.Activity.{put_active, put_none}
use Rattle.nc_main_rib.proofs.discards.add_active.Goals as goal

pub returns-then-has_longer : goal.returns-then-has_longer
returns-then-has_longer c p =
    c.in_ok-insert.ensures.updates.0 p
    ∙ put_active (slice_index_or c.args.table.now c.args.router.0 []) c.args.aggregate.now p c.args.place (place_by c.args.places.now p) (sym c.has_longer.ensures ∙ c.if-has_longer.true)

pub returns : goal.returns
returns c p = put_none (slice_index_or c.args.table.now c.args.router.0 []) c.args.aggregate.now p c.args.place (place_by c.args.places.now p) (sym c.has_longer.ensures ∙ c.if-has_longer.false)
