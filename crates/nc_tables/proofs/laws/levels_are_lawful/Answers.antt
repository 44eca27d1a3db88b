use Rattle.nc_tables.proofs.ByLevels.{reach_same, trace_same, all_trace_same}
use Rattle.nc_tables.proofs.laws.levels_are_lawful.Goals as goal

pub returns-clause-reach : goal.returns-clause-reach
returns-clause-reach c routers tables hops router addr lt = reach_same routers tables hops router addr lt

pub returns-clause-trace : goal.returns-clause-trace
returns-clause-trace c routers tables table mains hops router addr lt = trace_same routers tables table mains hops router addr lt

pub returns-clause-all_trace : goal.returns-clause-all_trace
returns-clause-all_trace c routers tables table mains hops router addr lt = all_trace_same routers tables table mains hops router addr lt
