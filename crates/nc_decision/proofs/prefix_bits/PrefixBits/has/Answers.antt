use Rattle.std.proofs.Common.{◌==◌, ap, ◌∙◌}
use Rattle.std.specs.Int.{bit_at}
use Rattle.std.proofs.lemmas.Nat.Bits.{shr_and_one}
use Rattle.nc_decision.specs.PrefixBits.{has_bit}
use Rattle.nc_decision.proofs.prefix_bits.PrefixBits.has.Goals as goal

pub returns : goal.returns
unfolding has_bit
returns c = ap (λ x. x == 1) (shr_and_one c.args.self.word c.number_of.result ∙ ap (bit_at c.args.self.word) c.number_of.ensures.number)
