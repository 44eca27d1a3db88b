use Rattle.nc_rules.proofs.flows.KnownFlow.turn_to.Goals as goal

pub returns-then-ne-clause-known : goal.returns-then-ne-clause-known
returns-then-ne-clause-known c = c.clear.ensures.flow c.args.state.now c.args.from.0 c.args.to.0 c.network-state.ensures.state c.requires.tables
