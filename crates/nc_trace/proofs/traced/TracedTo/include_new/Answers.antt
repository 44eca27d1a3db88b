use Rattle.nc_trace.proofs.traced.TracedTo.include_new.Goals as goal

pub returns-in-Err-clause-traced : goal.returns-in-Err-clause-traced
returns-in-Err-clause-traced c = c.clear.ensures.traced c.args.state.now c.args.addr.0 c.network-state.ensures.state
