use Rattle.std.proofs.Common.{◌≡◌, ◌<◌, ℕ, Some, false, nat_eq, get_or}
use Rattle.std.specs.Prelude.{slice_get}
use Rattle.nc_policy.specs.declared.askers.Asker.{Asker}
use Rattle.nc_policy.proofs.askers.Askers.are_beyond.Given as goal

-- the table has none of the communities so far
abbrev pub invariant-communities : goal.invariant-communities
invariant-communities l = (k : ℕ) (a : Asker) (i d : ℕ) → slice_get l.self k ≡ Some a → i < l.community-index → nat_eq a.community (get_or l.communities i d) ≡ false
