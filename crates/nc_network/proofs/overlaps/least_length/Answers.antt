use Rattle.std.proofs.Common.{◌<◌, length, arith}
use Rattle.nc_network.proofs.OverlapLemmas.{are_long}
use Rattle.nc_network.proofs.overlaps.least_length.Goals as goal

pub returns : goal.returns
returns c = λ router. are_long c.interfaces.least router c.args.interfaces.now (λ k d lt. c.interfaces.invariant k d (let within : k < c.interfaces.interface-index = omega arith in within))
