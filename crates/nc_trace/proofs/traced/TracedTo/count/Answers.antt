use Rattle.std.proofs.Common.{refl, sym, ap, subst}
use Rattle.nc_types.specs.declared.addr.Addr.{Addr}
use Rattle.nc_trace.specs.declared.packet.By.TheVariants.{SomeWay, EachWay}
use Rattle.nc_trace.specs.Found.{IsFoundTo}
use Rattle.nc_trace.specs.Packets.{anywhere}
use Rattle.nc_trace.specs.Traced.{Traced}
use Rattle.nc_trace.proofs.Beyond.{none_there}
use Rattle.nc_trace.proofs.Tracing.{counted}
use Rattle.nc_trace.proofs.traced.TracedTo.count.Goals as goal

pub returns-clause-traced : goal.returns-clause-traced
returns-clause-traced c =
    let s = c.args.state.now in
    let asked = c.asked_of-asked.result in
    let is = c.asked_of-asked.ensures in
    let addr = ap (λ (a : Addr). a.0) is.addr in
    let found = c.self.inside.found in
    record {
      found = subst (λ (t : Traced). IsFoundTo s (anywhere c.args.addr.0) t.found) (sym c.self.view_is) c.requires;
      none = λ router past. none_there s c.network-state.ensures.state router past c.args.addr.0;
      some = counted s asked.state.now SomeWay asked.by c.args.addr.0 asked.addr.0 found c.count_hops.new.fewest.items is.state is.by addr c.in_ok-count_hops.ensures;
      each = counted s asked.state.now EachWay EachWay c.args.addr.0 asked.addr.0 found c.count_hops-2.new.fewest.items is.state refl addr c.in_ok-count_hops-2.ensures;
    }
