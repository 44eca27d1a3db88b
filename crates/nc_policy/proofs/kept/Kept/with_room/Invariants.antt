use Rattle.std.proofs.Common.{◌≡◌, ℕ, Option, Some, None}
use Rattle.std.specs.Prelude.{slice_get}
use Rattle.nc_policy.proofs.kept.Kept.with_room.Given as goal

-- there are no numbers yet
abbrev pub invariant-maps : goal.invariant-maps
invariant-maps l = (k : ℕ) (x : Option _) → slice_get l.asked.items k ≡ Some x → x ≡ None
