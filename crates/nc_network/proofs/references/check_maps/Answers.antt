use Rattle.nc_network.proofs.Undefined.{maps-some}
use Rattle.nc_network.proofs.references.check_maps.Goals as goal

pub returns : goal.returns
returns c =
    maps-some c.args.router c.args.config.now c.in-Some.process c.in_ok-names.names.keys c.deref.result.now c.deref-in-Some.result.now c.deref-in-Some-2.result.now c.args.found c.check_in-found.result c.check_out.result
    c.deref.ensures.value c.deref-in-Some.ensures.value c.deref-in-Some-2.ensures.value c.in-Some.is c.in_ok-names.ensures c.check_in-found.ensures c.check_out.ensures
