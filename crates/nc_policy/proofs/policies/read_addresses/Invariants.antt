use Rattle.std.proofs.Common.{◌<◌, ℕ, get_or}
use Rattle.nc_types.specs.Cidr.{Cidr}
use Rattle.nc_policy.proofs.policies.read_addresses.Given as goal

-- the addresses so far have 32 bits
abbrev pub invariant-prefixes : goal.invariant-prefixes
invariant-prefixes l = (k : ℕ) (d : Cidr) → k < l.prefix-index → (get_or l.prefixes k d).base < 4294967296
