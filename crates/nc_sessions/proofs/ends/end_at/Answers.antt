use Rattle.std.proofs.Common.{sym}
use Rattle.nc_types.specs.Config.{config_view}
use Rattle.nc_sessions.proofs.Few.{few_ifaces}
use Rattle.nc_sessions.proofs.ends.end_at.Goals as goal

pub returns-clause-few : goal.returns-clause-few
returns-clause-few c =
    few_ifaces c.args.network.now c.in_ok-config.ensures.valid c.in_ok-config.ensures.count c.args.router.0 (config_view c.in_ok-config.config.now) (sym c.in_ok-config.ensures.config)
