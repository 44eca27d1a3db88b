use Rattle.std.proofs.Common.{ap}
use Rattle.nc_types.specs.declared.addr.Addr.{Addr}
use Rattle.nc_trace.specs.declared.packet.By.TheVariants.{Filtered}
use Rattle.nc_trace.proofs.Beyond.{none_there}
use Rattle.nc_trace.proofs.Tracing.{counted}
use Rattle.nc_trace.proofs.flow.FlowTo.count.Goals as goal

pub returns-clause-flow : goal.returns-clause-flow
returns-clause-flow c =
    let s = c.args.state.now in
    let asked = c.asked_of-asked.result in
    let is = c.asked_of-asked.ensures in
    record {
      found = c.requires.found;
      none = λ router past. none_there s c.network-state.ensures.state router past c.args.to.0;
      fewest = counted s asked.state.now (Filtered c.args.from) asked.by c.args.to.0 asked.addr.0 c.args.self.now.found c.count_hops.new.fewest.items is.state is.by (ap (λ (a : Addr). a.0) is.addr) c.in_ok-count_hops.ensures;
      tables = c.requires.tables;
    }
