use Rattle.std.proofs.Common.{◌≡◌, ◌&&◌, ℕ, Some, None, if◌then◌else◌, nat_lt}
use Rattle.std.specs.Option.{option_or}
use Rattle.nc_types.specs.Cidr.{Cidr}
use Rattle.nc_policy.specs.Indexes.{is_at}
use Rattle.nc_policy.specs.Seen.{spot_in}
use Rattle.nc_policy.proofs.index.put.Given as goal

-- the lengths so far are added
abbrev pub invariant-lengths : goal.invariant-lengths
invariant-lengths l = (q : Cidr) (n : ℕ) → spot_in l.items.items q n ≡ option_or (spot_in l.fn.items.items q n) (if nat_lt n l.len && is_at q n l.entry then Some l.place else None)
