use Rattle.nc_types.specs.declared.addr.Addr.{Addr}
use Rattle.nc_types.specs.declared.config.RouterId.{RouterId}
use Rattle.nc_trace.specs.Traced.{IsIncluded, IsTracedTo}
use Rattle.nc_rules_route.proofs.Steps.{no_other}
use Rattle.nc_rules_route.proofs.parents.push_path_parents.Goals as goal

pub unreachable-requires : goal.unreachable-requires
unreachable-requires c =
    let is = c.in_default in
    let known = λ (start : RouterId × Addr). IsTracedTo c.args.state.now start.1.0 c.args.traced.now × IsIncluded c.args.state.now c.args.traced.now start.0.0 in
    no_other known c.args.fact.now c.requires.traced is.not-Step is.not-Trace is.not-AllStep is.not-AllTrace
