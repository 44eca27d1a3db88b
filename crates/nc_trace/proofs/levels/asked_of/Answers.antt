use Rattle.nc_trace.proofs.Beyond.{none_there}
use Rattle.nc_trace.proofs.levels.asked_of.Goals as goal

pub returns-clause-asked : goal.returns-clause-asked
returns-clause-asked c = record {
  owner = c.owner_of.ensures;
  none = λ router past. none_there c.args.state.now c.network-valid.ensures.state router past c.args.addr.0;
}
