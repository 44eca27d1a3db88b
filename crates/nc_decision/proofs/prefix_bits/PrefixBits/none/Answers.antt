use Rattle.std.proofs.Common.{◌==◌, ap}
use Rattle.std.proofs.lemmas.Nat.Bits.{bit_at-zero}
use Rattle.nc_decision.specs.PrefixBits.{has_bit, number_of}
use Rattle.nc_decision.proofs.prefix_bits.PrefixBits.none.Goals as goal

pub returns : goal.returns
unfolding has_bit
returns c p = ap (λ x. x == 1) (bit_at-zero (number_of p))
