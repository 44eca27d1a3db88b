-- What a route map makes of a route.
use Rattle.std.specs.Prelude.{ℕ, ◌+◌, Bool, false, ◌&&◌, ◌||◌, nat_lt, nat_le, List, [], ◌∷◌, ◌++◌, length, Option, Some, None, is_some, option_and_then, position, slice_get, unwrap_or, if◌then◌else◌}
use Rattle.std.specs.List.{filter}
use Rattle.std.specs.Option.{option_map, option_map_or, option_or}
use Rattle.std.specs.Str.{bytes_eq}
use Rattle.nc_types.specs.declared.TheConstants.{PATH_LIMIT, COMMUNITY_LIMIT}
use Rattle.nc_types.specs.Cidr.{Cidr}
use Rattle.nc_types.specs.Communities.{holds_all}
use Rattle.nc_types.specs.Setting.{set_all}
use Rattle.nc_types.specs.Config.{ConfigView, ClauseView}
use Rattle.nc_types.specs.declared.communities.CommunityEntry.{CommunityEntry}
use Rattle.nc_types.specs.declared.config.ListEntry.{ListEntry}
use Rattle.nc_types.specs.declared.config.Reference.{Reference}
use Rattle.nc_tables.specs.declared.bgp.Route.{Route}
use Rattle.nc_tables.specs.declared.policy.Place.{Place}
use Rattle.nc_tables.specs.declared.policy.Names.{Names}
use Rattle.nc_tables.specs.Base.{covers}

-- ---- lists

-- an entry of a prefix list is of a prefix whose first bits are its own and whose length lies between its two lengths
abbrev pub is_of : Cidr → ListEntry → Bool
is_of p e = covers e.prefix p.base && (nat_le e.low p.len && nat_le p.len e.high)

-- one of a community list is of the communities among which all its members are
abbrev pub is_held : List ℕ → CommunityEntry → Bool
is_held held e = holds_all held e.members

-- the entry that decides, by its place: the first that is of what is asked
abbrev pub deciding_entry : {E : Type 0} → (E → Bool) → List E → Option ℕ
deciding_entry is_asked entries = position is_asked entries

-- the entry by which a list permits: the one that decides, where it permits; without one the list denies
abbrev pub permitting_entry : {E : Type 0} → (E → Bool) → (E → Bool) → List E → Option ℕ
permitting_entry is_asked permits entries =
    option_and_then (λ k. if option_map_or permits (slice_get entries k) false then Some k else None) (deciding_entry is_asked entries)

abbrev pub permitting_prefix : Cidr → List ListEntry → Option ℕ
permitting_prefix p entries = permitting_entry (is_of p) (λ e. e.permit) entries

abbrev pub permitting_community : List ℕ → List CommunityEntry → Option ℕ
permitting_community held entries = permitting_entry (is_held held) (λ e. e.permit) entries

-- ---- clauses

-- the entry by which the list of a name permits, with the list's place among those of its kind
abbrev pub place_in : {L : Type 0} → (L → Bool) → (L → Option ℕ) → List L → Option Place
place_in is_named permits lists =
    option_and_then (λ k. option_map (λ i. record { list = k; entry = i }) (option_and_then permits (slice_get lists k))) (position is_named lists)

-- the entry by which the list that a reference names permits a prefix, and communities
abbrev pub prefix_place : ConfigView → Cidr → Reference → Option Place
prefix_place c p r = place_in (λ l. bytes_eq r.name l.name) (λ l. permitting_prefix p l.entries) c.lists

abbrev pub community_place : ConfigView → List ℕ → Reference → Option Place
community_place c held r = place_in (λ l. bytes_eq r.name l.name) (λ l. permitting_community held l.entries) c.community_lists

-- that of the first reference, in order of mention, whose list permits
abbrev pub first_place : (Reference → Option Place) → List Reference → Option Place
first_place place [] = None
first_place place (r ∷ rs) = option_or (place r) (first_place place rs)

-- a clause that names no list of a kind asks for nothing; else one of them has to permit
abbrev pub met : (Reference → Option Place) → List Reference → Option (Option Place)
met place [] = Some None
met place (r ∷ rs) = option_map (λ p. Some p) (first_place place (r ∷ rs))

-- the entries by which a clause matches a route, where it does: as to its prefix and as to its communities
abbrev pub names_of : ConfigView → Route → ClauseView → Option Names
names_of c r k =
    option_and_then (λ entry. option_map (λ community. record { entry = entry; community = community }) (met (community_place c r.communities) k.community_lists))
    (met (prefix_place c r.prefix) k.lists)

abbrev pub is_matching : ConfigView → Route → ClauseView → Bool
is_matching c r k = is_some (names_of c r k)

-- a clause with its place among a router's clauses
pub record Placed : Type 0 where
  pub place : ℕ
  pub clause : ClauseView

abbrev pub placed_from : ℕ → List ClauseView → List Placed
placed_from place [] = []
placed_from place (k ∷ ks) = record { place = place; clause = k } ∷ placed_from (place + 1) ks

-- the clause of the least number
abbrev pub least : List Placed → Option Placed
least [] = None
least (k ∷ ks) = Some (option_map_or (λ other. if nat_lt other.clause.number k.clause.number then other else k) (least ks) k)

-- the matching clause of a map with the least number
abbrev pub deciding : ConfigView → List ℕ → Route → Option Placed
deciding c name r = least (filter (λ k. bytes_eq name k.clause.map_name && is_matching c r k.clause) (placed_from 0 c.clauses))

-- ---- verdicts

pub data Verdict : Type 0 where
  Deny : Verdict
  -- the route as it goes on, the place of the deciding clause, and the entries by which it matched
  Permit : Route → ℕ → Names → Verdict

-- a route with what a clause sets
abbrev pub set_by : ClauseView → Route → Route
set_by k r =
    record r {
      path = k.prepend ++ r.path;
      preference = unwrap_or k.preference r.preference;
      metric = unwrap_or k.metric r.metric;
      origin = unwrap_or k.origin r.origin;
      communities = set_all k.communities r.communities;
    }

-- a path of more numbers than the limit: the route is dropped
abbrev pub is_long : Route → Bool
is_long r = nat_lt PATH_LIMIT (length r.path)

-- the same for more communities than a route carries
abbrev pub is_over : Route → Bool
is_over r = is_long r || nat_lt COMMUNITY_LIMIT (length r.communities)

-- the verdict of a clause that matches by these entries
abbrev pub verdict_by : Route → Placed → Names → Verdict
verdict_by r k names =
    if k.clause.permit then (if is_over (set_by k.clause r) then Deny else Permit (set_by k.clause r) k.place names) else Deny

-- what a router's map of this name makes of a route: the deciding clause permits it and sets, or it is denied
unfoldable pub verdict : ConfigView → List ℕ → Route → Verdict
verdict c name r = option_map_or (λ k. option_map_or (verdict_by r k) (names_of c r k.clause) Deny) (deciding c name r) Deny
