use Rattle.std.proofs.Common.{ap}
use Rattle.std.specs.Option.{is_some}
use Rattle.nc_trace.proofs.Tracing.{nothing_included}
use Rattle.nc_trace.proofs.traced.TracedTo.clear.Goals as goal

pub returns-clause-traced : goal.returns-clause-traced
returns-clause-traced c s addr is = nothing_included s addr c.clear.new.self c.clear.ensures is c.clear-2.new.self.items c.clear-3.new.self.items c.clear-2.ensures.items c.clear-3.ensures.items

pub returns-clause-none : goal.returns-clause-none
returns-clause-none c router = ap is_some (c.clear.ensures router)
