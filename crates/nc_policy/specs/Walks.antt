-- A walk over the clauses of a map.
use Rattle.std.specs.Prelude.{◌≡◌, ℕ, Bool, true, false, ◌&&◌, List, drop, Option, Some, None, IfSome, slice_get}
use Rattle.std.specs.List.{filter}
use Rattle.std.specs.Option.{option_map_or}
use Rattle.std.specs.Str.{bytes_eq}
use Rattle.nc_types.specs.Config.{ClauseView, ConfigView}
use Rattle.nc_tables.specs.declared.bgp.Route.{Route}
use Rattle.nc_tables.specs.Policy.{Placed, placed_from, least, is_matching}
use Rattle.nc_policy.specs.Views.{is_lower}

-- the one that decides of the clauses from the next one of a map on
abbrev pub rest_of : (Placed → Bool) → List ClauseView → Option ℕ → Option Placed
rest_of test all next = option_map_or (λ (place : ℕ). least (filter test (placed_from place (drop place all)))) next None

-- a clause of a map that passes
abbrev pub of_map : List ℕ → (Placed → Bool) → Placed → Bool
of_map name matches k = bytes_eq name k.clause.map_name && matches k

-- the best clause so far is one of a map
abbrev pub IsOfMap : List ℕ → Option Placed → Type 0
IsOfMap name best = IfSome best (λ b. bytes_eq name b.clause.map_name ≡ true)

-- a clause at a place, if it matches a route, has no lower number than the best one so far
abbrev pub IsBeaten : ConfigView → Route → Option Placed → ℕ → Type 0
IsBeaten c r best place = (k : ClauseView) → slice_get c.clauses place ≡ Some k → is_matching c r k ≡ true → is_lower k best ≡ false
