use Rattle.std.proofs.Common.{arith}
use Rattle.nc_tables.proofs.Nested.{shared_alike, shared_most}
use Rattle.nc_tables.proofs.longest.shared_bits.Goals as goal

pub returns-clause-alike : goal.returns-clause-alike
returns-clause-alike c = shared_alike c.args.a.0 c.args.b.0 (omega arith) (omega arith)

pub returns-clause-most : goal.returns-clause-most
returns-clause-most c = shared_most c.args.a.0 c.args.b.0 (omega arith) (omega arith)
