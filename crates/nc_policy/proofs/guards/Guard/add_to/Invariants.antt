use Rattle.std.proofs.Common.{◌≡◌, ◌<◌, ℕ, List, All, Some, false, get_or}
use Rattle.std.specs.Prelude.{slice_get}
use Rattle.nc_types.specs.Communities.{has}
use Rattle.nc_policy.specs.declared.askers.Asker.{Asker}
use Rattle.nc_policy.specs.Kept.{is_asked_by}
use Rattle.nc_policy.proofs.guards.Guard.add_to.Given as goal

-- the clause stands among the others by the numbers so far
abbrev pub invariant-numbers : goal.invariant-numbers
invariant-numbers l = record {
  kept : (j : ℕ) (held : List ℕ) → is_asked_by l.askers.items j held ≡ false → is_asked_by l.initial.askers.items j held ≡ false;
  own :
      (names : List (List ℕ)) (name : List ℕ) → slice_get names l.place ≡ Some name → All (λ (a : Asker). slice_get names a.place ≡ Some name) l.initial.askers.items
      → All (λ (a : Asker). slice_get names a.place ≡ Some name) l.askers.items;
  added : (i d : ℕ) → i < l.number-index → (held : List ℕ) → is_asked_by l.askers.items l.place held ≡ false → has (get_or l.self.numbers.items i d) held ≡ false;
}
