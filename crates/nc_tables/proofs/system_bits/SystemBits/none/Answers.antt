use Rattle.std.proofs.Common.{◌==◌, ◌/◌, ◌%◌, ap, ◌∙◌, arith}
use Rattle.std.specs.Int.{bit_at}
use Rattle.std.proofs.lemmas.List.{get_or-replicate}
use Rattle.std.proofs.lemmas.Nat.Bits.{bit_at-zero}
use Rattle.nc_tables.specs.SystemBits.{has_bit}
use Rattle.nc_tables.proofs.system_bits.SystemBits.none.Goals as goal

pub returns : goal.returns
unfolding has_bit
returns c n = ap (λ x. bit_at x (n % 64) == 1) (get_or-replicate 4 (n / 64 % 4) 0 0 (omega arith)) ∙ ap (λ x. x == 1) (bit_at-zero (n % 64))
