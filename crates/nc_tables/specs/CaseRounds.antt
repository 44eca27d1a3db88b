-- Rounds: what routers begin, nested aggregates of which one holds back what is inside it, and the rounds after which nothing changes.
use Rattle.std.specs.Prelude.{◌≡◌, ℕ, Bool, true, false, List, [], ◌∷◌, ◌++◌, map, Option, Some, None, refl}
use Rattle.std.specs.Option.{option_map}
use Rattle.nc_types.specs.Cidr.{Cidr}
use Rattle.nc_types.specs.Config.{ConfigView}
use Rattle.nc_types.specs.declared.config.OriginCode.TheVariants.{Igp, Incomplete}
use Rattle.nc_tables.specs.declared.bgp.Route.{Route}
use Rattle.nc_tables.specs.declared.bgp.Chosen.{Chosen}
use Rattle.nc_tables.specs.declared.bgp.BgpFrom.{BgpFrom}
use Rattle.nc_tables.specs.declared.bgp.BgpFrom.TheVariants.{Origin, Aggregate, Entry}
use Rattle.nc_tables.specs.declared.bgp.MainRow.{MainRow}
use Rattle.nc_tables.specs.declared.bgp.MainFrom.{MainFrom}
use Rattle.nc_tables.specs.declared.bgp.MainFrom.TheVariants.{Base, Bgp, Discard}
use Rattle.nc_tables.specs.Base.{base_table, base_tables}
use Rattle.nc_tables.specs.Longest.{longest}
use Rattle.nc_tables.specs.Reach.{reaches}
use Rattle.nc_tables.specs.Policy.{verdict}
use Rattle.nc_tables.specs.Choice.{choose, preference_cmp}
use Rattle.nc_tables.specs.Rounds.{BgpRowView, after, message_at, accepted_at, is_active, prefixes, no_routes}
use Rattle.nc_tables.specs.Main.{main_table}
use Rattle.nc_tables.specs.State.{state_at}
use Rattle.nc_tables.specs.Settling.{settled, settled_from, settled_table, same_candidate, same_row, same_table}
use Rattle.nc_tables.specs.Cases.{address, prefix, interface, neighbor, process, router, candidate, sessions_in, state}
use Rattle.nc_tables.specs.CaseRoutes.{pair, dispute}

-- ---- nested aggregates

abbrev pub main : Cidr → ℕ → MainFrom → MainRow
main p distance from = record { prefix = p; distance = distance; from = from }

-- The first router has a row for one of its three networks. Of its aggregates nothing is inside one, and the outer one
-- of the two others holds back what is inside it. The third router has no process.
abbrev pub nested : List ConfigView
nested =
    router (interface [] (address 10 0 12 1) (prefix 10 0 12 0 30) ∷ interface [] (address 10 1 0 1) (prefix 10 1 0 0 24) ∷ []) []
    (Some (record (process 65001 1 (neighbor (address 10 0 12 2) 65002 None None ∷ []) (prefix 10 9 0 0 24 ∷ prefix 10 1 0 0 25 ∷ prefix 10 1 0 0 24 ∷ []) []) {
      aggregates =
          record { prefix = prefix 10 9 0 0 16; summary_only = false; element = 0 } ∷ record { prefix = prefix 10 1 0 0 16; summary_only = false; element = 0 }
          ∷ record { prefix = prefix 10 0 0 0 8; summary_only = true; element = 0 } ∷ [];
    })) [] []
    ∷ router (interface [] (address 10 0 12 2) (prefix 10 0 12 0 30) ∷ []) []
    (Some (process 65002 1 (neighbor (address 10 0 12 3) 65003 None None ∷ neighbor (address 10 0 12 1) 65001 None None ∷ []) [] [])) [] []
    ∷ router (interface [] (address 172 16 0 1) (prefix 172 16 0 0 24) ∷ []) [] None [] []
    ∷ []

-- what the first router begins of a prefix, and what the second learns of the outer aggregate
abbrev pub own : Cidr → BgpFrom → BgpRowView
own p from =
    record {
      prefix = p;
      chosen = record {
        route = record { prefix = p; path = []; next_hop = record { 0 = 0 }; preference = 100; metric = 0; origin = Igp; communities = [] };
        from = from;
        internal = false;
        sender_id = record { 0 = 0 };
        sender = record { 0 = 0 };
      } ∷ [];
    }

abbrev pub outer_learnt : BgpRowView
outer_learnt =
    record {
      prefix = prefix 10 0 0 0 8;
      chosen = record {
        route = record { prefix = prefix 10 0 0 0 8; path = 65001 ∷ []; next_hop = record { 0 = address 10 0 12 1 }; preference = 100; metric = 0; origin = Igp; communities = [] };
        from = Entry 1;
        internal = false;
        sender_id = record { 0 = address 10 1 0 1 };
        sender = record { 0 = address 10 0 12 1 };
      } ∷ [];
    }

-- all prefixes that a router begins, each once, in order
pub nested_prefixes : prefixes (nested ++ nested) ≡ prefix 10 0 0 0 8 ∷ prefix 10 1 0 0 16 ∷ prefix 10 1 0 0 24 ∷ prefix 10 1 0 0 25 ∷ prefix 10 9 0 0 16 ∷ prefix 10 9 0 0 24 ∷ []
nested_prefixes = refl

-- after one round there is the network that has a row, then the aggregates, and the second router learns the outer one alone
pub nested_first : state nested 1 ≡ (own (prefix 10 1 0 0 24) (Origin 2) ∷ []) ∷ [] ∷ [] ∷ []
unfolding base_table reaches longest after message_at accepted_at choose preference_cmp verdict
nested_first = refl

pub nested_second : state nested 2 ≡ (own (prefix 10 0 0 0 8) (Aggregate 2) ∷ own (prefix 10 1 0 0 16) (Aggregate 1) ∷ own (prefix 10 1 0 0 24) (Origin 2) ∷ []) ∷ [] ∷ [] ∷ []
unfolding base_table reaches longest after message_at accepted_at choose preference_cmp verdict
nested_second = refl

abbrev pub nested_state : List (List BgpRowView)
nested_state = (own (prefix 10 0 0 0 8) (Aggregate 2) ∷ own (prefix 10 1 0 0 16) (Aggregate 1) ∷ own (prefix 10 1 0 0 24) (Origin 2) ∷ []) ∷ (outer_learnt ∷ []) ∷ [] ∷ []

pub nested_third : state nested 3 ≡ nested_state
unfolding base_table reaches longest after message_at accepted_at choose preference_cmp verdict
nested_third = refl

-- ---- the rounds that a state needs

-- the state behind three rounds is found with four, of which the last changes nothing, and not with three
pub needs_four : settled_table nested (base_tables nested) (sessions_in nested) 4 ≡ Some nested_state
unfolding base_table reaches longest settled_from message_at accepted_at choose preference_cmp verdict
needs_four = refl

pub not_three : settled_table nested (base_tables nested) (sessions_in nested) 3 ≡ None
unfolding base_table reaches longest settled_from message_at accepted_at choose preference_cmp verdict
not_three = refl

-- the least state counts, however many rounds are allowed
pub least_of_many : settled_table nested (base_tables nested) (sessions_in nested) 9 ≡ Some nested_state
unfolding base_table reaches longest settled_from message_at accepted_at choose preference_cmp verdict
least_of_many = refl

-- the whole state: each table is that of the stable routes
pub nested_settled : settled 4 nested ≡ Some (record {
  routers = nested;
  base = base_tables nested;
  sessions = sessions_in nested;
  bgp = nested_state;
  main =
      (main (prefix 10 0 0 0 8) 200 (Discard 2) ∷ main (prefix 10 0 12 0 30) 0 (Base 0) ∷ main (prefix 10 1 0 0 16) 200 (Discard 1) ∷ main (prefix 10 1 0 0 24) 0 (Base 1) ∷ [])
      ∷ (main (prefix 10 0 0 0 8) 20 (Bgp 0) ∷ main (prefix 10 0 12 0 30) 0 (Base 0) ∷ []) ∷ (main (prefix 172 16 0 0 24) 0 (Base 0) ∷ []) ∷ [];
})
unfolding base_table reaches longest settled settled_from state_at main_table message_at accepted_at choose preference_cmp verdict
nested_settled = refl

-- three systems of which two prefer the path over each other: no round is the last
pub unstable : settled_table dispute (base_tables dispute) (sessions_in dispute) 6 ≡ None
unfolding base_table reaches longest settled_from message_at accepted_at choose preference_cmp verdict
unstable = refl

-- the state of a network without a process needs one round
abbrev pub without : List ConfigView
without = router (interface [] (address 172 16 0 1) (prefix 172 16 0 0 24) ∷ []) [] None [] [] ∷ []

pub one_round : settled 1 without ≡ Some (state_at without (no_routes without))
unfolding settled settled_from
one_round = refl

pub no_round : settled 0 without ≡ None
unfolding settled settled_from
no_round = refl

-- ---- active aggregates

abbrev pub row : Cidr → List Chosen → BgpRowView
row p chosen = record { prefix = p; chosen = chosen }

abbrev pub learnt : Chosen
learnt = candidate (Entry 1) 100 (65001 ∷ []) Igp 5 false 9 9

-- whether an aggregate is active where a router has this row
abbrev pub active_by : BgpRowView → Cidr → Bool
active_by present p = is_active ((present ∷ []) ∷ []) 0 (record { prefix = p; summary_only = false; element = 0 })

-- by a chosen candidate of a longer prefix inside it: not by its own prefix, by one elsewhere, or without a candidate
pub active : active_by (row (prefix 10 1 0 0 24) (learnt ∷ [])) (prefix 10 1 0 0 23) ∷ active_by (row (prefix 10 1 0 0 24) (learnt ∷ [])) (prefix 10 1 0 0 24)
    ∷ active_by (row (prefix 10 1 0 0 24) (learnt ∷ [])) (prefix 10 2 0 0 16) ∷ active_by (row (prefix 10 1 0 0 24) []) (prefix 10 1 0 0 16) ∷ []
    ≡ true ∷ false ∷ false ∷ false ∷ []
active = refl

-- ---- which candidate is sent

-- the first of those that the sender has chosen, and nothing where it has none
abbrev pub path_sent : List Chosen → Option (List ℕ)
path_sent chosen = option_map (λ m. m.route.path) (message_at pair (base_tables pair) (sessions_in pair) ((row (prefix 10 1 0 0 24) chosen ∷ []) ∷ [] ∷ []) 1 0 (prefix 10 1 0 0 24))

abbrev pub by_path : List ℕ → Chosen
by_path path = candidate (Entry 1) 100 path Igp 0 false 9 9

pub best_is_sent : path_sent (by_path (8 ∷ []) ∷ by_path (7 ∷ []) ∷ []) ∷ path_sent [] ∷ [] ≡ Some (65001 ∷ 8 ∷ []) ∷ None ∷ []
unfolding base_table reaches longest message_at verdict
best_is_sent = refl

-- ---- when two tables are the same

-- whether a candidate is taken for that one
abbrev pub taken : Chosen → Bool
taken x = same_candidate learnt x

abbrev pub of_route : Route → Chosen
of_route r = record learnt { route = r }

pub the_same : taken learnt ≡ true
the_same = refl

-- each field counts
pub each_differs : map taken (record learnt { from = Entry 2 } ∷ record learnt { from = Origin 1 } ∷ record learnt { internal = true } ∷ record learnt { sender_id = record { 0 = 8 } }
    ∷ record learnt { sender = record { 0 = 8 } } ∷ of_route (record learnt.route { prefix = prefix 10 1 0 0 25 }) ∷ of_route (record learnt.route { prefix = prefix 10 2 0 0 24 })
    ∷ of_route (record learnt.route { path = 65002 ∷ [] }) ∷ of_route (record learnt.route { next_hop = record { 0 = 8 } }) ∷ of_route (record learnt.route { preference = 99 })
    ∷ of_route (record learnt.route { metric = 6 }) ∷ of_route (record learnt.route { origin = Incomplete }) ∷ of_route (record learnt.route { communities = 7 ∷ [] }) ∷ [])
    ≡ false ∷ false ∷ false ∷ false ∷ false ∷ false ∷ false ∷ false ∷ false ∷ false ∷ false ∷ false ∷ false ∷ []
each_differs = refl

pub rows_differ : same_row (row (prefix 10 1 0 0 24) (learnt ∷ [])) (row (prefix 10 1 0 0 25) (learnt ∷ []))
    ∷ same_row (row (prefix 10 1 0 0 24) (learnt ∷ [])) (row (prefix 10 1 0 0 24) (learnt ∷ learnt ∷ []))
    ∷ same_row (row (prefix 10 1 0 0 24) (learnt ∷ learnt ∷ [])) (row (prefix 10 1 0 0 24) (learnt ∷ []))
    ∷ same_row (row (prefix 10 1 0 0 24) (learnt ∷ learnt ∷ [])) (row (prefix 10 1 0 0 24) (learnt ∷ record learnt { from = Entry 2 } ∷ []))
    ∷ same_row (row (prefix 10 1 0 0 24) (learnt ∷ [])) (row (prefix 10 1 0 0 24) (learnt ∷ [])) ∷ []
    ≡ false ∷ false ∷ false ∷ false ∷ true ∷ []
rows_differ = refl

pub tables_differ : same_table ([] ∷ []) ((row (prefix 10 1 0 0 24) (learnt ∷ []) ∷ []) ∷ []) ≡ false
tables_differ = refl
