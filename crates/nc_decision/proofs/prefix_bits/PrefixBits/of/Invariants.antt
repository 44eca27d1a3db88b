use Rattle.std.proofs.Common.{◌≡◌, take}
use Rattle.nc_types.specs.Cidr.{Cidr}
use Rattle.nc_decision.specs.PrefixBits.{has_alike, has_bit}
use Rattle.nc_decision.proofs.prefix_bits.PrefixBits.of.Given as goal

abbrev pub invariant-networks : goal.invariant-networks
invariant-networks l = (p : Cidr) → has_bit l.bits p ≡ has_alike p (take l.network-index l.networks)
