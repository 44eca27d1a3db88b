use Rattle.std.proofs.Common.{◌∙◌}
use Rattle.nc_trace.proofs.Taking.{flow_step}
use Rattle.nc_trace.proofs.arriving.flow_step_at.Goals as goal

pub returns : goal.returns
returns c = c.step_by.ensures ∙ flow_step c.args.state.now c.args.from c.args.to.0 c.args.router.0 c.args.place c.args.hops
