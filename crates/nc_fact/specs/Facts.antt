-- What a network's state makes of each fact: whether it holds, and its rank.
use Rattle.std.specs.Prelude.{ℕ, zero, suc, ◌+◌, ◌*◌, ◌-◌, Bool, false, ◌&&◌, nat_eq, nat_lt, nat_le, List, [], length, Option, is_some, option_and_then, slice_get, slice_index_or, if◌then◌else◌}
use Rattle.std.specs.List.{list_any}
use Rattle.std.specs.Option.{option_map_or}
use Rattle.nc_types.specs.declared.TheConstants.{HOP_LIMIT}
use Rattle.nc_types.specs.declared.config.NetworkStatement.{NetworkStatement}
use Rattle.nc_types.specs.declared.config.AggregateStatement.{AggregateStatement}
use Rattle.nc_types.specs.Cidr.{Cidr}
use Rattle.nc_types.specs.Network.{element_count, up_at}
use Rattle.nc_tables.specs.declared.base.BaseRow.{BaseRow}
use Rattle.nc_tables.specs.declared.bgp.Chosen.{Chosen as ChosenRoute}
use Rattle.nc_tables.specs.declared.bgp.MainRow.{MainRow}
use Rattle.nc_tables.specs.Base.{same_prefix, static_at}
use Rattle.nc_tables.specs.Filters.{passes}
use Rattle.nc_tables.specs.Flows.{flows, flow_step_at}
use Rattle.nc_tables.specs.Forwarding.{traces, all_trace, step_at, all_step_at}
use Rattle.nc_tables.specs.Reach.{hits, leads_to, reaches}
use Rattle.nc_tables.specs.Rounds.{Message as SentMessage, Accepted, chosen_at, is_active, session_by, message_at, accepted_at}
use Rattle.nc_tables.specs.Sessions.{process_of}
use Rattle.nc_tables.specs.State.{StateView}
use Rattle.nc_fact.specs.declared.fact.Fact.{Fact}
use Rattle.nc_fact.specs.declared.fact.Fact.TheVariants.{Element, Connected, Static, Base, Resolve, NetSource, Reach, Hop, Session, Origin, Contrib, Aggregate, Message, Entry, Chosen, Main, Step, Trace, AllStep, AllTrace, Pass, FlowStep, Flow}

-- ---- ranks of routes

-- what a route with so many numbers in its path weighs: twice as much, and one more where it came within its own system. It is at most 501, as a
-- path has at most 250 numbers
abbrev pub weight : ℕ → Bool → ℕ
weight count internal = 2 * count + (if internal then 1 else 0)

-- the lowest rank of the facts of a route: those of shorter prefixes are above those of longer ones, and of one prefix those of heavier routes
-- above those of lighter ones
abbrev pub lowest_rank : Cidr → ℕ → ℕ
lowest_rank prefix weight = 100 + 8 * (502 * (32 - prefix.len) + weight)

-- the rank of what is begun by a statement with a prefix, of a message, of what is accepted and of what is chosen
abbrev pub rank_of_network : NetworkStatement → ℕ
rank_of_network n = lowest_rank n.prefix 0 + 1

abbrev pub rank_of_aggregate : AggregateStatement → ℕ
rank_of_aggregate a = lowest_rank a.prefix 0 + 1

abbrev pub rank_of_message : Cidr → SentMessage → ℕ
rank_of_message prefix m = lowest_rank prefix (weight (length m.route.path) m.link.session.internal) + 2

abbrev pub rank_of_accepted : Cidr → Accepted → ℕ
rank_of_accepted prefix a = lowest_rank prefix (weight (length a.into.route.path) a.message.link.session.internal) + 3

abbrev pub rank_of_chosen : Cidr → ChosenRoute → ℕ
rank_of_chosen prefix x = lowest_rank prefix (weight (length x.route.path) x.internal) + 4

module _ (s : StateView) where
  -- the rows of a router's base table, and of its main table
  abbrev pub base_rows : ℕ → List BaseRow
  base_rows router = slice_index_or s.base router []

  abbrev pub main_rows : ℕ → List MainRow
  main_rows router = slice_index_or s.main router []

  -- a router's base table has a row of a prefix
  abbrev pub has_source : ℕ → Cidr → Bool
  has_source router prefix = list_any (λ row. same_prefix row.prefix prefix) (base_rows router)

  -- a packet comes to the owner of an address by a row, one hop being that by the row
  abbrev pub hops_by : ℕ → ℕ → ℕ → ℕ → Bool
  hops_by router addr row zero = false
  hops_by router addr row (suc hops) =
      nat_lt hops HOP_LIMIT && (list_any (nat_eq row) (hits s.base router addr)
      && option_map_or (λ next. reaches s.routers s.base hops next.router addr) (leads_to s.routers s.base router addr row) false)

  -- the network statement at a place of a router's process, and the aggregate statement
  abbrev pub network_of : ℕ → ℕ → Option NetworkStatement
  network_of router place = option_and_then (λ p. slice_get p.networks place) (process_of s.routers router)

  abbrev pub aggregate_of : ℕ → ℕ → Option AggregateStatement
  aggregate_of router place = option_and_then (λ p. slice_get p.aggregates place) (process_of s.routers router)

  -- such an aggregate is active
  abbrev pub has_active : ℕ → ℕ → Bool
  has_active router place = option_map_or (is_active s.bgp router) (aggregate_of router place) false

  -- the message to a neighbor statement of a router for a prefix, what is accepted of it, and the route that is chosen at a place
  abbrev pub message_of : ℕ → ℕ → Cidr → Option SentMessage
  message_of router place prefix = message_at s.routers s.base s.sessions s.bgp router place prefix

  abbrev pub accepted_of : ℕ → ℕ → Cidr → Option Accepted
  accepted_of router place prefix = accepted_at s.routers s.base s.sessions s.bgp router place prefix

  abbrev pub chosen_of : ℕ → Cidr → ℕ → Option ChosenRoute
  chosen_of router prefix place = slice_get (chosen_at s.bgp router prefix) place

  -- whether a fact holds
  unfoldable pub holds : Fact → Bool
  holds (Element e) = nat_lt e.0 (element_count s.routers)
  holds (Connected router iface) = is_some (up_at s.routers router.0 iface.0)
  holds (Static router place) = is_some (static_at s.routers router.0 place)
  holds (Base router row) = nat_lt row (length (base_rows router.0))
  holds (Resolve router addr) = nat_lt 0 (length (hits s.base router.0 addr.0))
  holds (NetSource router prefix) = has_source router.0 prefix
  holds (Reach router addr hops) = nat_le hops HOP_LIMIT && reaches s.routers s.base hops router.0 addr.0
  holds (Hop router addr row hops) = hops_by router.0 addr.0 row hops
  holds (Session router place) = is_some (session_by s.sessions router.0 place)
  holds (Origin router place) = option_map_or (λ n. has_source router.0 n.prefix) (network_of router.0 place) false
  holds (Contrib router place) = has_active router.0 place
  holds (Aggregate router place) = has_active router.0 place
  holds (Message router place prefix) = is_some (message_of router.0 place prefix)
  holds (Entry router place prefix) = is_some (accepted_of router.0 place prefix)
  holds (Chosen router prefix place) = is_some (chosen_of router.0 prefix place)
  holds (Main router row) = nat_lt row (length (main_rows router.0))
  holds (Step router addr way hops) = step_at s.routers s.base s.bgp s.main router.0 addr.0 way hops
  holds (Trace router addr hops) = nat_le hops HOP_LIMIT && traces s.routers s.base s.bgp s.main hops router.0 addr.0
  holds (AllStep router addr way hops) = all_step_at s.routers s.base s.bgp s.main router.0 addr.0 way hops
  holds (AllTrace router addr hops) = nat_le hops HOP_LIMIT && all_trace s.routers s.base s.bgp s.main hops router.0 addr.0
  holds (Pass inward router iface from to) = passes from.0 to.0 s.routers router.0 iface.0 inward
  holds (FlowStep hops router from to way) = flow_step_at s from.0 to.0 router.0 way hops
  holds (Flow router from to hops) = nat_le hops HOP_LIMIT && flows s from.0 to.0 hops router.0

  -- the rank of a fact, which is above that of each fact from which it follows: that of a route's fact by its prefix and its path, 0 where
  -- there is no such route. Sessions are above all reach, main rows above all routes, and steps above main rows
  unfoldable pub rank : Fact → ℕ
  rank (Element e) = 0
  rank (Connected router iface) = 1
  rank (Static router place) = 2
  rank (Base router row) = 3
  rank (Resolve router addr) = 4
  rank (NetSource router prefix) = 4
  rank (Reach router addr hops) = 6 + 2 * hops
  rank (Hop router addr row hops) = 5 + 2 * hops
  rank (Session router place) = 70
  rank (Origin router place) = option_map_or rank_of_network (network_of router.0 place) 0
  rank (Contrib router place) = option_map_or (λ a. lowest_rank a.prefix 0) (aggregate_of router.0 place) 0
  rank (Aggregate router place) = option_map_or rank_of_aggregate (aggregate_of router.0 place) 0
  rank (Message router place prefix) = option_map_or (rank_of_message prefix) (message_of router.0 place prefix) 0
  rank (Entry router place prefix) = option_map_or (rank_of_accepted prefix) (accepted_of router.0 place prefix) 0
  rank (Chosen router prefix place) = option_map_or (rank_of_chosen prefix) (chosen_of router.0 prefix place) 0
  rank (Main router row) = 140000
  rank (Step router addr way hops) = 150000 + 2 * hops
  rank (Trace router addr hops) = 150001 + 2 * hops
  rank (AllStep router addr way hops) = 150000 + 2 * hops
  rank (AllTrace router addr hops) = 150001 + 2 * hops
  rank (Pass inward router iface from to) = 2
  rank (FlowStep hops router from to way) = 150000 + 2 * hops
  rank (Flow router from to hops) = 150001 + 2 * hops
