use Rattle.nc_network.proofs.Undefined.{lists-found}
use Rattle.nc_network.proofs.references.check_lists.Goals as goal

pub returns : goal.returns
returns c =
    lists-found c.args.kind c.args.router c.args.config.now c.in_ok-names.names.keys c.deref.result.now c.args.found c.check_clauses-found.result c.deref.ensures.value c.in_ok-names.ensures c.check_clauses-found.ensures
