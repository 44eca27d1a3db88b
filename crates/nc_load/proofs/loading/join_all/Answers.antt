use Rattle.std.proofs.Common.{rules, ◌∙◌}
use Rattle.nc_load.proofs.Joined.{all_formed, settled_routers}
use Rattle.nc_load.proofs.loading.join_all.Goals as goal

pub join-requires-clause-formed : goal.join-requires-clause-formed
join-requires-clause-formed c = all_formed c.args.configs.items c.requires.read

pub returns-in-Ok-settle_network-clause-joined : goal.returns-in-Ok-settle_network-clause-joined
returns-in-Ok-settle_network-clause-joined c names =
    (search rules, settled_routers c.args.rounds _ _ c.in-Ok-settle_network.ensures.settled ∙ c.in-Ok.ensures.network)
