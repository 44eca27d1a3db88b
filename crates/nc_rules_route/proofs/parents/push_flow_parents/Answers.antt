use Rattle.std.proofs.Common.{◌≡◌, ◌++◌, List, MatchOption, OnOk, subst}
use Rattle.nc_types.specs.declared.addr.Addr.{Addr}
use Rattle.nc_types.specs.declared.config.RouterId.{RouterId}
use Rattle.nc_trace.specs.Flow.{IsFlowTo, IsFlowIncluded}
use Rattle.nc_fact.specs.declared.fact.Fact.{Fact}
use Rattle.nc_rules_route.specs.Parents.{flow_start}
use Rattle.nc_rules_route.proofs.Steps.{no_other_flow, step_taken}
use Rattle.nc_rules_route.proofs.parents.push_flow_parents.Goals as goal

pub unreachable-requires : goal.unreachable-requires
unreachable-requires c =
    let is = c.in_default in
    let known = λ (start : RouterId × Addr × Addr). IsFlowTo c.args.state.now start.1.0 start.2.0 c.args.flowing.now × IsFlowIncluded c.args.state.now c.args.flowing.now start.0.0 in
    no_other_flow known c.args.fact.now c.requires.flow is.not-Pass is.not-FlowStep is.not-Flow

pub returns-in-FlowStep-clause-ok : goal.returns-in-FlowStep-clause-ok
returns-in-FlowStep-clause-ok c =
    let s = c.args.state.now in
    let step = c.in-FlowStep in
    let known = λ (start : RouterId × Addr × Addr). IsFlowTo s start.1.0 start.2.0 c.args.flowing.now × IsFlowIncluded s c.args.flowing.now start.0.0 in
    let included = subst (λ (f : Fact). MatchOption (flow_start f) ⊥ known) step.is c.requires.flow in
    let are = c.ways.ensures s step.from.0 step.to.0 included.0 included.1 in
    subst (λ (ps : List Fact). OnOk c.push_step.result (c.push_step.new.into.items ≡ c.args.into.now.items ++ ps))
    (step_taken s c.args.fact.now step.hops step.router step.from step.to step.way c.ways.result.now step.is c.requires.holds are) c.push_step.ensures.ok
