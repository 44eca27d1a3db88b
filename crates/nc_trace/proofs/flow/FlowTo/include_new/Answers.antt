use Rattle.nc_trace.proofs.flow.FlowTo.include_new.Goals as goal

pub returns-in-Err-clause-flow : goal.returns-in-Err-clause-flow
returns-in-Err-clause-flow c = c.clear.ensures.flow c.args.state.now c.args.from.0 c.args.to.0 c.network-state.ensures.state c.find.ensures.tables
