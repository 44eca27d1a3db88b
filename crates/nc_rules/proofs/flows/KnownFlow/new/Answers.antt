use Rattle.nc_rules.proofs.flows.KnownFlow.new.Goals as goal

pub returns : goal.returns
returns c = c.new.ensures.flow c.args.state.now 0 0 c.network-state.ensures.state
