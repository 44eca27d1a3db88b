use Rattle.std.proofs.Common.{sym, subst}
use Rattle.nc_types.specs.declared.addr.Addr.{Addr}
use Rattle.nc_trace.specs.Flow.{IsFlowTo}
use Rattle.nc_rules.proofs.flows.KnownFlow.parents.Goals as goal

pub returns-clause-known : goal.returns-clause-known
returns-clause-known c =
    let s = c.args.state.now in
    let known = c.include.new.self in
    let flowing = c.flow_parents.new.flowing in
    subst (λ (a : Addr). IsFlowTo s a.0 known.to.0 flowing) (sym c.include.ensures.from)
    (subst (λ (a : Addr). IsFlowTo s c.args.start.1.0 a.0 flowing) (sym c.include.ensures.to) (c.flow_parents.ensures.flow c.args.start c.requires.start))
