use Rattle.std.proofs.Common.{arith}
use Rattle.nc_tables.specs.SystemBits.{has_bit}
use Rattle.nc_tables.proofs.Remainders.{bit_set}
use Rattle.nc_tables.proofs.system_bits.SystemBits.with.Goals as goal

pub returns : goal.returns
unfolding has_bit
returns c n = bit_set c.args.self.words c.args.number (omega arith) n
