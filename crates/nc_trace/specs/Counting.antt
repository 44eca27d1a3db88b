-- Numbers of routers whose ways were found: hops over which a packet arrives.
use Rattle.std.specs.Prelude.{◌≡◌, ℕ, ◌≤◌, true, nat_le, List, Some}
use Rattle.nc_types.specs.declared.TheConstants.{HOP_LIMIT}
use Rattle.nc_tables.specs.State.{StateView}
use Rattle.nc_underlay.specs.Distances.{fewest_of, is_earlier}
use Rattle.nc_trace.specs.declared.packet.By.{By}
use Rattle.nc_trace.specs.Found.{FoundWays}
use Rattle.nc_trace.specs.Levels.{step}

module _ (s : StateView) (by : By) (addr : ℕ) (found : FoundWays) where
  -- from where a number says that a packet arrives, the ways lead to numbers that say so over fewer hops
  abbrev pub AreBacked : List ℕ → Type 0
  AreBacked fewest = (router hops : ℕ) → hops ≤ HOP_LIMIT → nat_le (fewest_of fewest router) hops ≡ true → step s by addr (Some found) (is_earlier fewest hops) router ≡ true

  -- where the ways of a router do, its number says so
  abbrev pub IsLeast : List ℕ → ℕ → Type 0
  IsLeast fewest router = (hops : ℕ) → hops ≤ HOP_LIMIT → step s by addr (Some found) (is_earlier fewest hops) router ≡ true → nat_le (fewest_of fewest router) hops ≡ true

  abbrev pub AreLeast : List ℕ → Type 0
  AreLeast fewest = (router : ℕ) → IsLeast fewest router
