-- From which facts a fact follows, and how.
use Rattle.std.specs.Prelude.{ℕ, ◌-◌, Bool, true, false, List, [], ◌∷◌, ◌++◌, length, map, filter, Option, Some, None, option_and_then, slice_get, slice_index_or}
use Rattle.std.specs.List.{flat_map, range_with_len}
use Rattle.std.specs.Option.{option_map, option_map_or}
use Rattle.nc_types.specs.declared.TheConstants.{HOP_LIMIT}
use Rattle.nc_types.specs.Cidr.{Cidr}
use Rattle.nc_types.specs.Config.{ConfigView, ProcessView}
use Rattle.nc_types.specs.Network.{number_at}
use Rattle.nc_types.specs.declared.addr.Addr.{Addr}
use Rattle.nc_types.specs.declared.config.RouterId.{RouterId}
use Rattle.nc_types.specs.declared.config.IfaceId.{IfaceId}
use Rattle.nc_types.specs.declared.config.NetworkStatement.{NetworkStatement}
use Rattle.nc_types.specs.declared.config.AggregateStatement.{AggregateStatement}
use Rattle.nc_tables.specs.declared.base.BaseFrom.{BaseFrom}
use Rattle.nc_tables.specs.declared.base.BaseFrom.TheVariants as row
use Rattle.nc_tables.specs.declared.bgp.BgpFrom.{BgpFrom}
use Rattle.nc_tables.specs.declared.bgp.BgpFrom.TheVariants as by
use Rattle.nc_tables.specs.declared.bgp.MainFrom.{MainFrom}
use Rattle.nc_tables.specs.declared.bgp.MainFrom.TheVariants as main
use Rattle.nc_tables.specs.declared.policy.Place.{Place}
use Rattle.nc_tables.specs.declared.policy.Names.{Names}
use Rattle.nc_tables.specs.declared.filters.Passing.{Passing}
use Rattle.nc_tables.specs.declared.filters.Passing.TheVariants.{By}
use Rattle.nc_tables.specs.Base.{same_prefix, static_at}
use Rattle.nc_tables.specs.Filters.{passing_at}
use Rattle.nc_tables.specs.Forwarding.{Outcome, Deliver, Go, Lost, Alternative, alternatives, exit_iface}
use Rattle.nc_tables.specs.Longest.{places_from}
use Rattle.nc_tables.specs.Reach.{hits, leads_to, own_place}
use Rattle.nc_tables.specs.Sessions.{End, process_of}
use Rattle.nc_tables.specs.Rounds.{BgpRowView, Link, Message as SentMessage, Accepted, best_at, is_longer_in, link_at, out_of}
use Rattle.nc_tables.specs.State.{StateView}
use Rattle.nc_graph.specs.declared.node.NodeKind.{NodeKind}
use Rattle.nc_graph.specs.declared.node.NodeKind.TheVariants.{Leaf, Every, Any}
use Rattle.nc_fact.specs.declared.fact.Fact.{Fact}
use Rattle.nc_fact.specs.declared.fact.Fact.TheVariants.{Element, Connected, Static, Base, Resolve, NetSource, Reach, Hop, Session, Origin, Contrib, Aggregate, Message, Entry, Chosen, Main, Step, Trace, AllStep, AllTrace, Pass, FlowStep, Flow}
use Rattle.nc_fact.specs.Facts.{base_rows, main_rows, aggregate_of, message_of, accepted_of, chosen_of, holds}
use Rattle.nc_rules_route.specs.declared.packet.Packet.{Packet}
use Rattle.nc_rules_route.specs.declared.packet.Packet.TheVariants.{BySome, ByEach, From}

-- an element is the leaf of its number; what more than one row, hop or route can give follows from any of them; all else from all parents together
unfoldable pub kind : Fact → NodeKind
kind (Element e) = Leaf e.0
kind (Connected router iface) = Every
kind (Static router place) = Every
kind (Base router row) = Every
kind (Resolve router addr) = Any
kind (NetSource router prefix) = Any
kind (Reach router addr hops) = Any
kind (Hop router addr row hops) = Every
kind (Session router place) = Every
kind (Origin router place) = Every
kind (Contrib router place) = Any
kind (Aggregate router place) = Every
kind (Message router place prefix) = Every
kind (Entry router place prefix) = Every
kind (Chosen router prefix place) = Every
kind (Main router row) = Every
kind (Step router addr way hops) = Every
kind (Trace router addr hops) = Any
kind (AllStep router addr way hops) = Every
kind (AllTrace router addr hops) = Every
kind (Pass inward router iface from to) = Every
kind (FlowStep hops router from to way) = Every
kind (Flow router from to hops) = Any

-- ---- ways of packets over main tables

-- the router from which such a way leads on, and the address, where access lists aren't asked; other facts have none
abbrev pub path_start : Fact → Option (RouterId × Addr)
path_start (Step router addr way hops) = Some (router, addr)
path_start (Trace router addr hops) = Some (router, addr)
path_start (AllStep router addr way hops) = Some (router, addr)
path_start (AllTrace router addr hops) = Some (router, addr)
path_start f = None

-- the router of a fact of a packet that access lists have to let pass, from which address it comes and to which it goes; other facts
-- have none
abbrev pub flow_start : Fact → Option (RouterId × Addr × Addr)
flow_start (Pass inward router iface from to) = Some (router, from, to)
flow_start (FlowStep hops router from to way) = Some (router, from, to)
flow_start (Flow router from to hops) = Some (router, from, to)
flow_start f = None

-- that a packet arrives: by some way, by each, or by some that let it pass
abbrev pub trace_fact : Packet → RouterId → Addr → ℕ → Fact
trace_fact BySome router addr hops = Trace router addr hops
trace_fact ByEach router addr hops = AllTrace router addr hops
trace_fact (From from) router addr hops = Flow router from addr hops

-- that it arrives by one alternative, and from there so
abbrev pub step_fact : Packet → RouterId → Addr → ℕ → ℕ → Fact
step_fact BySome router addr way hops = Step router addr way hops
step_fact ByEach router addr way hops = AllStep router addr way hops
step_fact (From from) router addr way hops = FlowStep hops router from addr way

-- what a packet needs that goes on: the interface to which it is led, and that it arrives from there over one hop fewer
abbrev pub onward : Packet → Addr → ℕ → Outcome → List Fact
onward packet addr hops Deliver = []
onward packet addr hops (Go next) =
    Connected (record { 0 = next.router }) (record { 0 = next.place }) ∷ trace_fact packet (record { 0 = next.router }) addr (hops - 1) ∷ []
onward packet addr hops Lost = []

-- that the interface to which it goes lets it in
abbrev pub let_in : Addr → Addr → Outcome → List Fact
let_in from addr Deliver = []
let_in from addr (Go next) = Pass true (record { 0 = next.router }) (record { 0 = next.place }) from addr ∷ []
let_in from addr Lost = []

-- ---- routes

-- the connected route through which a static route's next hop is reached; one that discards has none
abbrev pub connected_by : RouterId → BaseFrom → List Fact
connected_by router (row.Connected iface) = []
connected_by router (row.Static place iface) = Connected router iface ∷ []
connected_by router (row.Null place) = []

-- the route that a base row is of
abbrev pub route_of : RouterId → BaseFrom → Fact
route_of router (row.Connected iface) = Connected router iface
route_of router (row.Static place iface) = Static router place
route_of router (row.Null place) = Static router place

-- what a chosen route of a prefix is made from
abbrev pub source_of : RouterId → Cidr → BgpFrom → Fact
source_of router prefix (by.Origin place) = Origin router place
source_of router prefix (by.Aggregate place) = Aggregate router place
source_of router prefix (by.Entry place) = Entry router place prefix

-- what a main row of a prefix is of
abbrev pub main_of : RouterId → Cidr → MainFrom → Fact
main_of router prefix (main.Base place) = Base router place
main_of router prefix (main.Bgp place) = Chosen router prefix place
main_of router prefix (main.Discard place) = Aggregate router place

-- the routes of a prefix that are chosen, best first
abbrev pub each_chosen : RouterId → BgpRowView → List Fact
each_chosen router row = map (Chosen router row.prefix) (range_with_len 0 (length row.chosen))

-- those of every longer prefix inside another, by prefix
abbrev pub chosen_inside : RouterId → Cidr → List BgpRowView → List Fact
chosen_inside router outer rows = flat_map (each_chosen router) (filter (λ row. is_longer_in row.prefix outer) rows)

-- ---- which element of a configuration a part is

abbrev pub clause_place : ℕ → ConfigView → Option ℕ
clause_place place c = option_map (λ k. k.element) (slice_get c.clauses place)

abbrev pub entry_place : Place → ConfigView → Option ℕ
entry_place place c = option_and_then (λ l. option_map (λ e. e.element) (slice_get l.entries place.entry)) (slice_get c.lists place.list)

abbrev pub community_place : Place → ConfigView → Option ℕ
community_place place c = option_and_then (λ l. option_map (λ e. e.element) (slice_get l.entries place.entry)) (slice_get c.community_lists place.list)

abbrev pub group_place : ℕ → ConfigView → Option ℕ
group_place place c = option_map (λ g. g.element) (slice_get c.groups place)

abbrev pub filter_place : ℕ → ConfigView → Option ℕ
filter_place place c = option_map (λ e. e.element) (slice_get c.filters place)

module _ (s : StateView) where
  -- the fact of the element at a place of a router, which is numbered behind the elements of all earlier routers
  abbrev pub element_in : ℕ → ℕ → Fact
  element_in router place = Element (record { 0 = number_at s.routers router place })

  -- an interface's element, and a static route's
  abbrev pub of_interface : ℕ → ℕ → List Fact
  of_interface router iface =
      option_map_or (λ i. element_in router i.element ∷ []) (option_and_then (λ c. slice_get c.interfaces iface) (slice_get s.routers router)) []

  abbrev pub of_static : ℕ → ℕ → List Fact
  of_static router place =
      option_map_or (λ r. element_in router r.element ∷ []) (option_and_then (λ c. slice_get c.statics place) (slice_get s.routers router)) []

  -- the element that a part of a router's configuration is
  abbrev pub of_part : ℕ → (ConfigView → Option ℕ) → List Fact
  of_part router part = option_map_or (λ place. element_in router place ∷ []) (option_and_then part (slice_get s.routers router)) []

  -- those by which a map of a router let a route pass, where they are named: the deciding clause, the entry of the prefix list and
  -- that of the community list
  abbrev pub of_clause : ℕ → Option ℕ → List Fact
  of_clause router clause = option_map_or (λ k. of_part router (clause_place k)) clause []

  abbrev pub of_entry : ℕ → Option Place → List Fact
  of_entry router entry = option_map_or (λ e. of_part router (entry_place e)) entry []

  abbrev pub of_community : ℕ → Option Place → List Fact
  of_community router entry = option_map_or (λ e. of_part router (community_place e)) entry []

  abbrev pub of_passed : ℕ → Option ℕ → Names → List Fact
  of_passed router clause names = of_clause router clause ++ (of_entry router names.entry ++ of_community router names.community)

  -- those by which an interface's access list lets a packet pass, where it has one: its filter, and the entry that decides
  abbrev pub of_passing : ℕ → Passing → List Fact
  of_passing router (By group entry) = of_part router (group_place group) ++ of_part router (filter_place entry)
  of_passing router passing = []

  -- what it rests on that an interface lets a packet pass: that it is up, and those
  abbrev pub pass_parents : RouterId → IfaceId → Bool → Addr → Addr → List Fact
  pass_parents router iface inward from to = Connected router iface ∷ of_passing router.0 (passing_at from.0 to.0 s.routers router.0 iface.0 inward)

  -- the hops by which a packet comes to the owner of an address
  abbrev pub hops_of : RouterId → Addr → ℕ → List Fact
  hops_of router addr hops = filter (holds s) (map (λ row. Hop router addr row hops) (hits s.base router.0 addr.0))

  -- what one hop rests on: the row, the interface to which it leads, and that the packet comes on from there
  abbrev pub hop_parents : RouterId → Addr → ℕ → ℕ → List Fact
  hop_parents router addr row hops =
      option_map_or (λ next. Base router row ∷ Connected (record { 0 = next.router }) (record { 0 = next.place }) ∷ Reach (record { 0 = next.router }) addr (hops - 1) ∷ [])
      (leads_to s.routers s.base router.0 addr.0 row) []

  -- the elements of a router's process and of one of its neighbor statements
  abbrev pub end_elements : ℕ → End → List Fact
  end_elements router e = element_in router e.process.element ∷ element_in router e.statement.element ∷ []

  -- the interfaces from which the two sides of a session start, and that a packet comes from each to the address of its statement
  abbrev pub ways_between : RouterId → Link → List Fact
  ways_between router k =
      Connected router k.session.source ∷ Connected k.session.peer k.session.peer_source
      ∷ Reach router k.receiver.statement.addr HOP_LIMIT ∷ Reach k.session.peer k.sender.statement.addr HOP_LIMIT ∷ []

  -- what a session rests on, the own side first: process and neighbor statement of each side, and the ways between them
  abbrev pub session_parents : RouterId → Link → List Fact
  session_parents router k = end_elements router.0 k.receiver ++ (end_elements k.session.peer.0 k.sender ++ ways_between router k)

  -- what a network statement rests on to begin its prefix: its process, itself, and the rows of the prefix
  abbrev pub origin_parents : RouterId → ProcessView → NetworkStatement → List Fact
  origin_parents router p n = element_in router.0 p.element ∷ element_in router.0 n.element ∷ NetSource router n.prefix ∷ []

  -- and an aggregate statement: its process, itself, and that it has something to gather
  abbrev pub aggregate_parents : RouterId → ℕ → ProcessView → AggregateStatement → List Fact
  aggregate_parents router place p a = element_in router.0 p.element ∷ element_in router.0 a.element ∷ Contrib router place ∷ []

  -- those by which the peer of a session let pass the best that it has chosen of a prefix
  abbrev pub of_out : Link → Cidr → List Fact
  of_out k prefix = option_map_or (λ out. of_passed k.session.peer.0 out.clause out.names) (option_and_then (out_of k) (best_at s.bgp k.session.peer.0 prefix)) []

  -- what a message rests on: the session, the best that the sender has chosen, and by what its map let that pass
  abbrev pub message_parents : RouterId → ℕ → Cidr → SentMessage → List Fact
  message_parents router place prefix m =
      Session router place ∷ Chosen m.link.session.peer prefix 0 ∷ of_passed m.link.session.peer.0 m.out.clause m.out.names

  -- what is accepted of it: the message, that its next hop is reached, and by what the receiver's map let it pass
  abbrev pub entry_parents : RouterId → ℕ → Cidr → Accepted → List Fact
  entry_parents router place prefix a =
      Message router place prefix ∷ Resolve router a.message.route.next_hop ∷ of_passed router.0 a.into.clause a.into.names

  -- the alternatives of a router for an address
  abbrev pub ways_out : RouterId → Addr → List Alternative
  ways_out router addr = alternatives s.routers s.base s.bgp s.main router.0 addr.0

  -- that the interface lets a packet out by which an alternative leaves
  abbrev pub let_out : RouterId → Addr → Addr → Alternative → List Fact
  let_out router from addr way =
      option_map_or (λ iface. Pass false router (record { 0 = iface }) from addr ∷ []) (exit_iface s.routers s.base s.bgp s.main router.0 addr.0 way) []

  -- what the access lists on an alternative have to let pass
  abbrev pub let_pass : Packet → RouterId → Addr → Alternative → List Fact
  let_pass BySome router addr way = []
  let_pass ByEach router addr way = []
  let_pass (From from) router addr way = let_out router from addr way ++ let_in from addr way.outcome

  -- what an alternative rests on: its main row, for a row of BGP the base row toward its next hop, what the packet needs to go on, and what
  -- has to let it pass
  abbrev pub way_parents : Packet → RouterId → Addr → ℕ → Alternative → List Fact
  way_parents packet router addr hops way =
      Main router way.main
      ∷ (option_map_or (λ row. Base router row ∷ []) way.base [] ++ (onward packet addr hops way.outcome ++ let_pass packet router addr way))

  -- what the one of a number rests on
  abbrev pub step_parents : Packet → RouterId → Addr → ℕ → ℕ → List Fact
  step_parents packet router addr way hops = option_map_or (way_parents packet router addr hops) (slice_get (ways_out router addr) way) []

  -- that a packet arrives by each of them, whether or not it does
  abbrev pub steps_of : Packet → RouterId → Addr → ℕ → List Fact
  steps_of packet router addr hops = map (λ way. step_fact packet router addr way hops) (range_with_len 0 (length (ways_out router addr)))

  -- the router's own interface that has an address, or else other facts
  abbrev pub own_or : RouterId → Addr → List Fact → List Fact
  own_or router addr others = option_map_or (λ iface. Connected router (record { 0 = iface }) ∷ []) (own_place s.routers router.0 addr.0) others

  -- the parents of a fact that holds, in order
  unfoldable pub parents : Fact → List Fact
  parents (Element e) = []
  parents (Connected router iface) = of_interface router.0 iface.0
  parents (Static router place) = of_static router.0 place ++ option_map_or (λ r. connected_by router r.from) (static_at s.routers router.0 place) []
  parents (Base router place) = option_map_or (λ r. route_of router r.from ∷ []) (slice_get (base_rows s router.0) place) []
  parents (Resolve router addr) = map (Base router) (hits s.base router.0 addr.0)
  parents (NetSource router prefix) = map (Base router) (places_from (λ r. same_prefix r.prefix prefix) 0 (base_rows s router.0))
  parents (Reach router addr hops) = own_or router addr (hops_of router addr hops)
  parents (Hop router addr row hops) = hop_parents router addr row hops
  parents (Session router place) = option_map_or (session_parents router) (link_at s.routers s.sessions router.0 place) []
  parents (Origin router place) = option_map_or (λ p. option_map_or (origin_parents router p) (slice_get p.networks place) []) (process_of s.routers router.0) []
  parents (Contrib router place) = option_map_or (λ a. chosen_inside router a.prefix (slice_index_or s.bgp router.0 [])) (aggregate_of s router.0 place) []
  parents (Aggregate router place) = option_map_or (λ p. option_map_or (aggregate_parents router place p) (slice_get p.aggregates place) []) (process_of s.routers router.0) []
  parents (Message router place prefix) = option_map_or (message_parents router place prefix) (message_of s router.0 place prefix) []
  parents (Entry router place prefix) = option_map_or (entry_parents router place prefix) (accepted_of s router.0 place prefix) []
  parents (Chosen router prefix place) = option_map_or (λ x. source_of router prefix x.from ∷ []) (chosen_of s router.0 prefix place) []
  parents (Main router row) = option_map_or (λ m. main_of router m.prefix m.from ∷ []) (slice_get (main_rows s router.0) row) []
  parents (Step router addr way hops) = step_parents BySome router addr way hops
  parents (Trace router addr hops) = own_or router addr (filter (holds s) (steps_of BySome router addr hops))
  parents (AllStep router addr way hops) = step_parents ByEach router addr way hops
  parents (AllTrace router addr hops) = own_or router addr (steps_of ByEach router addr hops)
  parents (Pass inward router iface from to) = pass_parents router iface inward from to
  parents (FlowStep hops router from to way) = step_parents (From from) router to way hops
  parents (Flow router from to hops) = own_or router to (filter (holds s) (steps_of (From from) router to hops))
