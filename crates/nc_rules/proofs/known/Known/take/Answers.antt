use Rattle.std.proofs.Common.{sym}
use Rattle.std.specs.HashMap.{get}
use Rattle.std.specs.Prelude.{nat_eq}
use Rattle.nc_types.specs.declared.addr.Addr.{Addr}
use Rattle.nc_trace.specs.Traced.{IsTracedTo}
use Rattle.nc_rules.proofs.Keeping.{kept_without}
use Rattle.nc_rules.proofs.known.Known.take.Goals as goal

pub returns-in-Some-clause-traced : goal.returns-in-Some-clause-traced
returns-in-Some-clause-traced c = c.requires c.args.addr c.in-Some.past (sym c.in-Some.ensures.value)

pub returns-in-Some-clause-others : goal.returns-in-Some-clause-others
returns-in-Some-clause-others c =
    kept_without (λ addr past. IsTracedTo c.args.state.now addr past.traced) (get (λ (a b : Addr). nat_eq a.0 b.0) c.args.self.now.others) (get (λ (a b : Addr). nat_eq a.0 b.0) c.remove.new.self) c.args.addr c.requires
    c.in-Some.ensures.updates.0

pub returns-in-None-clause-traced : goal.returns-in-None-clause-traced
returns-in-None-clause-traced c = c.new.ensures.traced c.args.state.now c.args.addr.0 c.network-state.ensures.state

pub returns-in-None-clause-others : goal.returns-in-None-clause-others
returns-in-None-clause-others c =
    kept_without (λ addr past. IsTracedTo c.args.state.now addr past.traced) (get (λ (a b : Addr). nat_eq a.0 b.0) c.args.self.now.others) (get (λ (a b : Addr). nat_eq a.0 b.0) c.remove.new.self) c.args.addr c.requires
    c.in-None.ensures.updates.0
