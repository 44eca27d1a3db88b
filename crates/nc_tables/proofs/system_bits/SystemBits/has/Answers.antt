use Rattle.std.proofs.Common.{◌==◌, ◌/◌, ◌%◌, ap, get_or}
use Rattle.std.proofs.lemmas.Nat.Bits.{shr_and_one}
use Rattle.nc_tables.specs.SystemBits.{has_bit}
use Rattle.nc_tables.proofs.system_bits.SystemBits.has.Goals as goal

pub returns : goal.returns
unfolding has_bit
returns c = ap (λ x. x == 1) (shr_and_one (get_or c.args.self.now.words (c.args.number / 64 % 4) 0) (c.args.number % 64))
