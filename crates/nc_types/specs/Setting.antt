-- What the statements on communities say of a route.
use Rattle.std.specs.Prelude.{ℕ, List, position, Option, Some, None, if◌then◌else◌}
use Rattle.nc_types.specs.Communities.{put_all, holds_all}
use Rattle.nc_types.specs.declared.communities.CommunityEntry.{CommunityEntry}
use Rattle.nc_types.specs.declared.communities.SetCommunity.{SetCommunity}

-- the entry of a community list that decides on a route with these communities, by its place: the first whose members it has all
abbrev pub deciding_community : List ℕ → List CommunityEntry → Option ℕ
deciding_community held entries = position (λ e. holds_all held e.members) entries

-- what `set community` leaves of the communities of a route
abbrev pub set_all : Option SetCommunity → List ℕ → List ℕ
set_all None held = held
set_all (Some set) held = if set.additive then put_all held set.values else set.values
