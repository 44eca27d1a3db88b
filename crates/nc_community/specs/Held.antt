-- The communities of a route, told as two sets.
use Rattle.std.specs.Prelude.{ℕ, ◌≤◌, List, length}
use Rattle.std.specs.List.Sorted.{IsStrictlyIncreasing}
use Rattle.nc_types.specs.Communities.{put_all}
use Rattle.nc_types.specs.declared.TheConstants.{COMMUNITY_LIMIT}

-- two sets that have together no more members than a route carries
pub record AreHeld (numbers added : List ℕ) : Type 0 where
  pub ascends : IsStrictlyIncreasing numbers
  pub added_ascends : IsStrictlyIncreasing added
  pub few : length (put_all numbers added) ≤ COMMUNITY_LIMIT
