use Rattle.std.proofs.Common.{◌==◌, ◌||◌, ap, ◌∙◌}
use Rattle.nc_decision.specs.PrefixBits.{has_bit, number_of}
use Rattle.nc_decision.proofs.PrefixBits.{bit_set}
use Rattle.nc_decision.proofs.prefix_bits.PrefixBits.with.Goals as goal

pub returns : goal.returns
unfolding has_bit
returns c p = bit_set c.args.self.word c.number_of-bit.result (number_of p) c.number_of-bit.ensures.few ∙ ap (λ k. k == number_of p || has_bit c.args.self p) c.number_of-bit.ensures.number
