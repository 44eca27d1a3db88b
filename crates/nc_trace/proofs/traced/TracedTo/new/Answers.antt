use Rattle.std.proofs.Common.{ap}
use Rattle.std.specs.Option.{is_some}
use Rattle.nc_trace.proofs.Tracing.{nothing_included}
use Rattle.nc_trace.proofs.traced.TracedTo.new.Goals as goal

pub returns-clause-traced : goal.returns-clause-traced
returns-clause-traced c s addr is = nothing_included s addr c.new.result c.new.ensures is c.new-2.result.items c.new-3.result.items c.new-2.ensures.items c.new-3.ensures.items

pub returns-clause-none : goal.returns-clause-none
returns-clause-none c router = ap is_some (c.new.ensures router)
