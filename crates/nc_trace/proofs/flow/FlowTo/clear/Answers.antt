use Rattle.std.proofs.Common.{ap}
use Rattle.std.specs.Option.{is_some}
use Rattle.nc_trace.specs.declared.packet.By.TheVariants.{Filtered}
use Rattle.nc_trace.specs.Packets.{between}
use Rattle.nc_trace.proofs.Beyond.{none_there}
use Rattle.nc_trace.proofs.Tracing.{never_fewest, none_found}
use Rattle.nc_trace.proofs.flow.FlowTo.clear.Goals as goal

pub returns-clause-flow : goal.returns-clause-flow
returns-clause-flow c s from to is tables = record {
  found = none_found s to c.clear.new.self c.clear.ensures (between from to);
  none = λ router past. none_there s is router past to;
  fewest = never_fewest s to c.clear.new.self c.clear.ensures (Filtered (record { 0 = from })) c.clear-2.new.self.items c.clear-2.ensures.items;
  tables = tables;
}

pub returns-clause-none : goal.returns-clause-none
returns-clause-none c router = ap is_some (c.clear.ensures router)
