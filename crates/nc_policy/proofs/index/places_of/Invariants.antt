use Rattle.std.proofs.Common.{◌≡◌, ◌<◌, ℕ, drop}
use Rattle.std.specs.Prelude.{position}
use Rattle.std.specs.List.{position_from}
use Rattle.std.specs.Option.{option_or}
use Rattle.nc_types.specs.Cidr.{Cidr}
use Rattle.nc_policy.specs.Indexes.{is_at}
use Rattle.nc_policy.specs.Seen.{spot_in}
use Rattle.nc_policy.proofs.index.places_of.Given as goal

-- the first entry so far, or else that of those that are left, is the first of all
abbrev pub invariant-entries : goal.invariant-entries
invariant-entries l = (q : Cidr) (n : ℕ) → n < 33 → option_or (spot_in l.items.items q n) (position_from (is_at q n) l.place (drop l.place l.entries)) ≡ position (is_at q n) l.entries
