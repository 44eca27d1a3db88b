use Rattle.std.proofs.Common.{◌≡◌, ◌≤◌, ◌+◌, ℕ, List, Some, length, map}
use Rattle.std.specs.Prelude.{slice_get}
use Rattle.nc_policy.specs.Indexes.{place_from}
use Rattle.nc_policy.specs.Seen.{place_named}
use Rattle.nc_policy.proofs.names.NameIndex.new.Given as goal

-- the names from a place on are put, and what stands there knows the next one of its name
abbrev pub invariant-items : goal.invariant-items
invariant-items g l = record {
  within : l.place ≤ length l.items;
  count : length l.next.items ≡ length l.items;
  first : (q : List ℕ) → place_named l.first q ≡ place_from q l.place (map g.T.Named.name_of l.items);
  behind : (k : ℕ) (name : List ℕ) → l.place ≤ k → slice_get (map g.T.Named.name_of l.items) k ≡ Some name → slice_get l.next.items k ≡ Some (place_from name (k + 1) (map g.T.Named.name_of l.items));
}

abbrev pub decreases-items : goal.decreases-items
decreases-items g l = l.place
