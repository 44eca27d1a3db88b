use Rattle.std.proofs.Common.{◌<◌, ◌^◌, List, length, sym, subst}
use Rattle.nc_types.specs.Config.{config_view}
use Rattle.nc_types.specs.declared.config.Neighbor.{Neighbor}
use Rattle.nc_sessions.proofs.Few.{few_neighbors}
use Rattle.nc_sessions.proofs.ends.statements.Goals as goal

pub returns-in-Some-clause-few : goal.returns-in-Some-clause-few
returns-in-Some-clause-few c =
    subst (λ (ns : List Neighbor). length ns < 2 ^ 32) (sym c.neighbors_of.ensures)
    (few_neighbors c.args.network.now c.in-Some.ensures.valid c.in-Some.ensures.count c.args.router.0 (config_view c.in-Some.config.now) (sym c.in-Some.ensures.config))
