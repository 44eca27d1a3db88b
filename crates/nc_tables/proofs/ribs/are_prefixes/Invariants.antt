use Rattle.std.proofs.Common.{◌<◌, ℕ, get_or}
use Rattle.nc_types.specs.Cidr.{Cidr, IsCidr}
use Rattle.nc_tables.proofs.ribs.are_prefixes.Given as goal

abbrev pub invariant-prefixes : goal.invariant-prefixes
invariant-prefixes l = (k : ℕ) (d : Cidr) → k < l.prefix-index → IsCidr (get_or l.prefixes k d).base (get_or l.prefixes k d).len
