use Rattle.nc_network.proofs.Undefined.{interfaces-none, interfaces-some}
use Rattle.nc_network.proofs.references.check_interfaces.Goals as goal

pub returns-in-None : goal.returns-in-None
returns-in-None c =
    interfaces-none c.args.router c.args.config.now c.in_ok-names.names.keys c.deref.result.now c.deref-2.result.now c.args.found c.check_statics-found.result c.deref.ensures.value c.deref-2.ensures.value c.in-None.is c.in_ok-names.ensures c.check_statics-found.ensures

pub returns : goal.returns
returns c =
    interfaces-some c.args.router c.args.config.now c.in-Some.process c.in_ok-names.names.keys c.deref.result.now c.deref-2.result.now c.deref-in-Some.result.now c.args.found c.check_statics-found.result c.check_sources.result
    c.deref.ensures.value c.deref-2.ensures.value c.deref-in-Some.ensures.value c.in-Some.is c.in_ok-names.ensures c.check_statics-found.ensures c.check_sources.ensures
