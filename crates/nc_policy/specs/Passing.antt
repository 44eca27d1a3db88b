-- What the map of a statement makes of a route, from what the code tells of it without the route.
use Rattle.std.specs.Prelude.{ℕ, List, [], ◌++◌, Option, Some, None, option_and_then, position, unwrap_or}
use Rattle.std.specs.Str.{bytes_eq}
use Rattle.nc_types.specs.Config.{ConfigView}
use Rattle.nc_types.specs.declared.config.Reference.{Reference}
use Rattle.nc_types.specs.declared.config.OriginCode.{OriginCode}
use Rattle.nc_types.specs.Setting.{set_all}
use Rattle.nc_tables.specs.declared.bgp.Route.{Route}
use Rattle.nc_tables.specs.declared.policy.Names.{Names}
use Rattle.nc_tables.specs.Rounds.{Passed, unnamed}
use Rattle.nc_policy.specs.declared.passing.Passing.{Passing}
use Rattle.nc_policy.specs.declared.passing.Passing.TheVariants.{Unchanged, By}

-- where the map of a statement stands, if it has one and its router has clauses of that name: the place of the first of them
abbrev pub map_place : ConfigView → Option Reference → Option ℕ
map_place c m = option_and_then (λ reference. position (λ k. bytes_eq reference.name k.map_name) c.clauses) m

-- what goes before the path, and what becomes of the rest
abbrev pub prepended_by : Passing → List ℕ
prepended_by Unchanged = []
prepended_by (By k) = k.clause.now.prepend.items

abbrev pub preference_by : Passing → ℕ → ℕ
preference_by Unchanged before = before
preference_by (By k) before = unwrap_or k.clause.now.preference before

abbrev pub metric_by : Passing → ℕ → ℕ
metric_by Unchanged before = before
metric_by (By k) before = unwrap_or k.clause.now.metric before

abbrev pub origin_by : Passing → OriginCode → OriginCode
origin_by Unchanged before = before
origin_by (By k) before = unwrap_or k.clause.now.origin before

abbrev pub communities_by : Passing → List ℕ → List ℕ
communities_by Unchanged held = held
communities_by (By k) held = set_all k.clause.now.communities held

-- the place of the clause that decided, and the entries by which it matched
abbrev pub clause_by : Passing → Option ℕ
clause_by Unchanged = None
clause_by (By k) = Some k.place

abbrev pub names_by : Passing → Names
names_by Unchanged = unnamed
names_by (By k) = k.names

-- the route as it goes on
abbrev pub route_by : Passing → Route → Route
route_by p r =
    record r {
      path = prepended_by p ++ r.path;
      preference = preference_by p r.preference;
      metric = metric_by p r.metric;
      origin = origin_by p r.origin;
      communities = communities_by p r.communities;
    }

abbrev pub passing_view : Route → Passing → Passed
passing_view r p = record { route = route_by p r; clause = clause_by p; names = names_by p }
