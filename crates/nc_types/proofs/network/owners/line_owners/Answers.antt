use Rattle.std.proofs.Common.{map}
use Rattle.nc_types.specs.Config.{config_view}
use Rattle.nc_types.proofs.Owning.{view_at, all_push}
use Rattle.nc_types.proofs.network.owners.line_owners.Goals as goal

pub routers-preserved : goal.routers-preserved
routers-preserved c =
    let here = view_at c.args.routers.now c.routers.config-index c.config-item.result c.routers-test.true c.config-item.is in
    rw c.in_ok-push.ensures.items (all_push (map config_view c.args.routers.now) c.routers.config-index (config_view c.config-item.result) c.routers.owners.items c.in_ok-owners_in.field-0 c.routers.invariant here c.in_ok-owners_in.ensures)
