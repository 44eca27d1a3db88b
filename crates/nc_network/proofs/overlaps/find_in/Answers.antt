use Rattle.std.specs.List.{filter_map}
use Rattle.nc_network.specs.Steps.{used_of}
use Rattle.nc_network.proofs.OverlapTotals.{router-found}
use Rattle.nc_network.proofs.overlaps.find_in.Goals as goal

pub returns : goal.returns
returns c =
    router-found c.args.router c.args.interfaces.now c.args.found c.in_ok-found.found c.find_all-found.result c.in_ok-found.ensures.found
    (c.find_all-found.ensures (filter_map (used_of c.args.router) c.args.interfaces.now) c.in_ok-found.ensures.heads c.in_ok-found.ensures.cidrs (c.least_length-least.ensures c.args.router))
