use Rattle.std.proofs.Common.{◌≡◌, ◌≤◌, ◌<◌, ℕ, List, Some, length, slice_get}
use Rattle.nc_tables.specs.declared.bgp.Chosen.{Chosen}
use Rattle.nc_tables.proofs.ribs.has_chosen_inside.Given as goal

-- nothing is chosen of the prefixes behind the outer one so far
abbrev pub invariant-prefixes : goal.invariant-prefixes
invariant-prefixes l = (k : ℕ) (cs : List Chosen) → l.first ≤ k → k < l.number → slice_get l.choices k ≡ Some cs → length cs ≡ 0
