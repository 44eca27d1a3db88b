-- The facts that a test tests.
use Rattle.std.specs.Prelude.{ℕ, Bool, true, false, ◌&&◌, ◌==◌, List, [], ◌∷◌, length, map, filter, Option, Some, None, slice_get}
use Rattle.std.specs.List.{range_with_len}
use Rattle.std.specs.Option.{option_map, option_map_or}
use Rattle.nc_types.specs.declared.TheConstants.{HOP_LIMIT}
use Rattle.nc_types.specs.Network.{router_named, owner_at}
use Rattle.nc_types.specs.Cidr.{Cidr}
use Rattle.nc_types.specs.declared.addr.Addr.{Addr}
use Rattle.nc_types.specs.declared.config.RouterId.{RouterId}
use Rattle.nc_types.specs.declared.command.TestCommand.{TestCommand}
use Rattle.nc_types.specs.declared.command.TestCommand.TheVariants.{Rib, Bgp, Session, Reach, Every, Flow, Element}
use Rattle.nc_tables.specs.declared.base.BaseFrom.{BaseFrom}
use Rattle.nc_tables.specs.declared.base.BaseFrom.TheVariants as base
use Rattle.nc_tables.specs.declared.bgp.MainRow.{MainRow}
use Rattle.nc_tables.specs.declared.bgp.MainFrom.{MainFrom}
use Rattle.nc_tables.specs.declared.bgp.MainFrom.TheVariants as main
use Rattle.nc_tables.specs.Base.{same_prefix}
use Rattle.nc_tables.specs.Longest.{places_from}
use Rattle.nc_tables.specs.Reach.{next_hop}
use Rattle.nc_tables.specs.Rounds.{chosen_at}
use Rattle.nc_tables.specs.Sessions.{place_for}
use Rattle.nc_tables.specs.State.{StateView}
use Rattle.nc_fact.specs.declared.fact.Fact.{Fact}
use Rattle.nc_fact.specs.declared.fact.Fact.TheVariants as fact
use Rattle.nc_fact.specs.Facts.{base_rows, main_rows, chosen_of, holds}

module _ (s : StateView) where
  -- the next hop of a base row: that of its static route
  abbrev pub hop_from : ℕ → BaseFrom → Option ℕ
  hop_from router (base.Connected iface) = None
  hop_from router (base.Static place iface) = next_hop s.routers router place
  hop_from router (base.Null place) = None

  -- the next hop of a main row of a prefix: that of its base row, or the one with which its route came
  abbrev pub main_hop : ℕ → Cidr → MainFrom → Option ℕ
  main_hop router prefix (main.Base place) = option_map_or (λ row. hop_from router row.from) (slice_get (base_rows s router) place) None
  main_hop router prefix (main.Bgp place) = option_map (λ x. x.route.next_hop.0) (chosen_of s router prefix place)
  main_hop router prefix (main.Discard place) = None

  -- a main row of the prefix, with this next hop where one is asked for
  abbrev pub has_hop : ℕ → Option Addr → MainRow → Bool
  has_hop router None row = true
  has_hop router (Some addr) row = option_map_or (λ hop. hop == addr.0) (main_hop router row.prefix row.from) false

  abbrev pub is_asked : ℕ → Cidr → Option Addr → MainRow → Bool
  is_asked router prefix via row = same_prefix row.prefix prefix && has_hop router via row

  -- the main rows of a prefix at a router, which a test of routes tests
  abbrev pub asked_rows : ℕ → Cidr → Option Addr → List Fact
  asked_rows router prefix via = map (fact.Main (record { 0 = router })) (places_from (is_asked router prefix via) 0 (main_rows s router))

  -- the routes of a prefix that are chosen at a router, which a test of BGP tests
  abbrev pub asked_routes : ℕ → Cidr → List Fact
  asked_routes router prefix = map (fact.Chosen (record { 0 = router }) prefix) (range_with_len 0 (length (chosen_at s.bgp router prefix)))

  -- what is accepted of a neighbor, by a router's neighbor statement for its address
  abbrev pub asked_entry : ℕ → Cidr → Addr → List Fact
  asked_entry router prefix addr = option_map_or (λ place. fact.Entry (record { 0 = router }) place prefix ∷ []) (place_for s.routers router addr.0) []

  -- the one where no neighbor is named, else the other
  abbrev pub asked_of_bgp : ℕ → Cidr → Option Addr → List Fact
  asked_of_bgp router prefix None = asked_routes router prefix
  asked_of_bgp router prefix (Some addr) = asked_entry router prefix addr

  -- the session of a router's neighbor statement for an address, which a test of a session tests
  abbrev pub asked_session : ℕ → Addr → List Fact
  asked_session router addr = option_map_or (λ place. fact.Session (record { 0 = router }) place ∷ []) (place_for s.routers router addr.0) []

  -- the element that has a line of a router, which a test of an element tests
  abbrev pub asked_element : ℕ → ℕ → List Fact
  asked_element router line = option_map_or (λ element. fact.Element (record { 0 = element }) ∷ []) (owner_at s.routers router line) []

  -- what a test names; of a packet, that it arrives by some way, by each, or by some that let it pass, over as many hops as there may be
  abbrev pub named_facts : TestCommand → List Fact
  named_facts (Rib name prefix via) = option_map_or (λ router. asked_rows router prefix via) (router_named s.routers name) []
  named_facts (Bgp name prefix from) = option_map_or (λ router. asked_of_bgp router prefix from) (router_named s.routers name) []
  named_facts (Session name addr) = option_map_or (λ router. asked_session router addr) (router_named s.routers name) []
  named_facts (Reach name addr) = option_map_or (λ router. fact.Trace (record { 0 = router }) addr HOP_LIMIT ∷ []) (router_named s.routers name) []
  named_facts (Every name addr) = option_map_or (λ router. fact.AllTrace (record { 0 = router }) addr HOP_LIMIT ∷ []) (router_named s.routers name) []
  named_facts (Flow name from to) = option_map_or (λ router. fact.Flow (record { 0 = router }) from to HOP_LIMIT ∷ []) (router_named s.routers name) []
  named_facts (Element name line) = option_map_or (λ router. asked_element router line) (router_named s.routers name) []

  -- the router from which a test of a packet asks whether it arrives, and its address; other tests ask of none
  abbrev pub packet_from : List ℕ → Addr → Option (RouterId × Addr)
  packet_from name addr = option_map (λ router. (record { 0 = router }, addr)) (router_named s.routers name)

  abbrev pub packet_of : TestCommand → Option (RouterId × Addr)
  packet_of (Reach name addr) = packet_from name addr
  packet_of (Every name addr) = packet_from name addr
  packet_of test = None

  -- the router from which a test asks of a packet whether it is let pass and arrives, from which address it comes and to which it goes;
  -- other tests ask of none
  abbrev pub flow_packet_from : List ℕ → Addr → Addr → Option (RouterId × Addr × Addr)
  flow_packet_from name from to = option_map (λ router. (record { 0 = router }, from, to)) (router_named s.routers name)

  abbrev pub flow_packet_of : TestCommand → Option (RouterId × Addr × Addr)
  flow_packet_of (Flow name from to) = flow_packet_from name from to
  flow_packet_of test = None

  -- the facts that a test tests: those that it names and that hold
  unfoldable pub tested_facts : TestCommand → List Fact
  tested_facts test = filter (holds s) (named_facts test)
