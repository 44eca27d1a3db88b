-- Without which communities no clause that asks for communities matches.
use Rattle.std.specs.Prelude.{◌≡◌, ℕ, Bool, true, ◌&&◌, not, List, Some, None, slice_get}
use Rattle.std.specs.List.{list_any}
use Rattle.nc_types.specs.Communities.{has}
use Rattle.nc_types.specs.Config.{ClauseView, ConfigView}
use Rattle.nc_tables.specs.Policy.{community_place, met}
use Rattle.nc_policy.specs.declared.guards.Guard.{Guard}

-- communities have none of a guard's numbers, where it is sound
abbrev pub is_unheld : Guard → List ℕ → Bool
is_unheld g held = g.sound && not (list_any (λ n. has n held) g.numbers.items)

-- communities that have none of the numbers of a clause aren't matched by it
pub record AreGuards (c : ConfigView) (guards : List Guard) : Type 0 where
  pub each : (k : ℕ) (clause : ClauseView) (g : Guard) → slice_get c.clauses k ≡ Some clause → slice_get guards k ≡ Some g → (held : List ℕ) → is_unheld g held ≡ true → met (community_place c held) clause.community_lists ≡ None
