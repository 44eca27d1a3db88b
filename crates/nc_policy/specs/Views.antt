-- A candidate and a verdict of the code as those of the definition.
use Rattle.std.specs.Prelude.{◌≡◌, ℕ, ◌<◌, Bool, true, nat_lt, List, [], length, map, Option, Some, position, slice_get}
use Rattle.std.specs.Option.{option_map_or}
use Rattle.std.specs.Str.{bytes_eq}
use Rattle.nc_types.specs.Cidr.{Cidr}
use Rattle.nc_types.specs.declared.config.OriginCode.TheVariants.{Igp}
use Rattle.nc_types.specs.Config.{ClauseView, CommunityListView, ConfigView, PrefixListView, clause_view}
use Rattle.nc_tables.specs.declared.bgp.Route.{Route}
use Rattle.nc_tables.specs.Policy as policy
use Rattle.nc_policy.specs.declared.clauses.Candidate.{Candidate}
use Rattle.nc_policy.specs.declared.route_map.Verdict.{Verdict}
use Rattle.nc_policy.specs.declared.route_map.Verdict.TheVariants.{Deny, Permit}

-- the place of the prefix list of a name, and of the community list
abbrev pub place_of : List ℕ → List PrefixListView → Option ℕ
place_of name lists = position (λ l. bytes_eq name l.name) lists

abbrev pub named_list : ConfigView → List ℕ → Option ℕ
named_list c name = place_of name c.lists

abbrev pub community_place_of : List ℕ → List CommunityListView → Option ℕ
community_place_of name lists = position (λ l. bytes_eq name l.name) lists

abbrev pub named_community_list : ConfigView → List ℕ → Option ℕ
named_community_list c name = community_place_of name c.community_lists

-- the names of the maps of a router's clauses
abbrev pub map_names : ConfigView → List (List ℕ)
map_names c = map (λ k. k.map_name) c.clauses

-- a route of which its prefix and its communities are known, all that clauses ask of one
abbrev pub asked : Cidr → List ℕ → Route
asked prefix held =
    record { prefix = prefix; path = []; next_hop = record { 0 = 0 }; preference = 0; metric = 0; origin = Igp; communities = held }

-- a clause with its place
abbrev pub candidate_view : Candidate → policy.Placed
candidate_view k = record { place = k.place; clause = clause_view k.clause.now }

-- a clause of a router that matches a route, and the entries by which it does
pub record IsCandidate (c : ConfigView) (r : Route) (k : Candidate) : Type 0 where
  pub within : k.place < length c.clauses
  pub own : slice_get c.clauses k.place ≡ Some (clause_view k.clause.now)
  pub names : Some k.names ≡ policy.names_of c r (clause_view k.clause.now)

-- a clause has a lower number than another one, or there is no other
abbrev pub is_lower : ClauseView → Option policy.Placed → Bool
is_lower k other = option_map_or (λ o. nat_lt k.number o.clause.number) other true

-- what is made of a route
abbrev pub verdict_view : Verdict → policy.Verdict
verdict_view Deny = policy.Deny
verdict_view (Permit route clause entry community) = policy.Permit route clause (record { entry = entry; community = community })
