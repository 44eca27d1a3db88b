-- The laws of the rules: each parent holds and has a lower rank, what follows from any parent has one, and an element has none.
use Rattle.std.proofs.Common.{◌≡◌, ℕ, zero, suc, ◌+◌, ◌-◌, ◌*◌, ◌<◌, ◌≤◌, true, false, ◌&&◌, nat_eq, nat_lt, nat_le, List, [], ◌∷◌, ◌++◌, length, map, filter, All, Option, Some, None, refl, sym, ap, subst, ◌∙◌, arith}
use Rattle.std.specs.List.{list_any, slice_get}
use Rattle.std.specs.Option.{option_map_or, option_and_then, is_some}
use Rattle.std.proofs.lemmas.Bool.{lt-ltb, ltb-true, leb-true, le-leb, and_parts, and_from}
use Rattle.std.proofs.lemmas.List.{length-map}
use Rattle.std.proofs.lemmas.List.Elements.{All-nil, All-cons, All-append, All-map, All-filter, filter_passes}
use Rattle.std.proofs.lemmas.Option.{option_and_then_some, same_Some}
use Rattle.nc_types.specs.declared.addr.Addr.{Addr}
use Rattle.nc_types.specs.declared.config.RouterId.{RouterId}
use Rattle.nc_types.specs.declared.config.IfaceId.{IfaceId}
use Rattle.nc_types.specs.declared.config.Interface.{Interface}
use Rattle.nc_types.specs.declared.config.StaticRoute.{StaticRoute}
use Rattle.nc_types.specs.declared.TheConstants.{HOP_LIMIT}
use Rattle.nc_types.specs.Cidr.{Cidr}
use Rattle.nc_types.specs.Config.{ConfigView}
use Rattle.nc_types.specs.Network.{PlaceIn, up_at}
use Rattle.nc_tables.specs.declared.base.BaseRow.{BaseRow}
use Rattle.nc_tables.specs.Base.{static_row, static_at, same_prefix}
use Rattle.nc_tables.specs.Longest.{places_from}
use Rattle.nc_tables.specs.Reach.{hits, leads_to, own_place, reaches}
use Rattle.nc_tables.specs.declared.bgp.SessionRow.{SessionRow}
use Rattle.nc_tables.specs.Sessions.{End}
use Rattle.nc_tables.specs.Rounds.{Link, session_by, link_at}
use Rattle.nc_tables.specs.State.{StateView, IsState}
use Rattle.nc_graph.specs.declared.node.NodeKind.TheVariants.{Leaf, Any}
use Rattle.nc_fact.specs.declared.fact.Fact.{Fact}
use Rattle.nc_fact.specs.declared.fact.Fact.TheVariants.{Element, Connected, Static, Base, Resolve, NetSource, Reach, Hop, Session, Origin, Contrib, Aggregate, Message, Entry, Chosen, Main, Step, Trace, AllStep, AllTrace, Pass, FlowStep, Flow}
use Rattle.nc_fact.specs.Facts.{base_rows, hops_by, holds, rank}
use Rattle.nc_rules_route.specs.declared.packet.Packet.TheVariants.{BySome, ByEach, From}
use Rattle.nc_rules_route.specs.Parents.{kind, element_in, of_interface, of_static, connected_by, route_of, hops_of, end_elements, ways_between, session_parents, parents}
use Rattle.nc_types.proofs.Members.{In, in_by_get, in_map, in_filter, some_in, all_by_in, is_among, among_is}
use Rattle.nc_tables.proofs.Ordered.{some_place, place_within}
use Rattle.nc_rules_route.proofs.Members.{all_by_option, all_of_one, all_of_three}
use Rattle.nc_fact.proofs.Few.{formed_at}
use Rattle.nc_rules_route.proofs.Numbers.{interface_element, static_element}
use Rattle.nc_rules_route.proofs.Ends.{IsEnd, IsLink, end_is, end_elements_within, link_is}
use Rattle.nc_rules_route.proofs.Established.{established, has_link}
use Rattle.nc_rules_route.proofs.BaseRows.{row_leads}
use Rattle.nc_rules_route.proofs.Holding.{IsBelow, all_higher, element_holds, base_holds, connected_below, route_below, own_below}
use Rattle.nc_rules_route.proofs.RouteFacts.{origin_parents_below, contrib_parents_below, aggregate_parents_below, message_parents_below, entry_parents_below, chosen_parents_below, main_parents_below, contrib_chosen}
use Rattle.nc_rules_route.proofs.PassFacts.{pass_parents_below}
use Rattle.nc_rules_route.proofs.PathFacts.{step_below, trace_below, trace_chosen, all_trace_below, flow_below, flow_chosen}
use Rattle.nc_rules_route.proofs.Hops.{GoesOn, hit_within, next_up, goes_on, not_own}

module _ (s : StateView) (is : IsState s) where
  -- ---- elements

  interface_below : (router iface : ℕ) → All (IsBelow s 1) (of_interface s router iface)
  unfolding rank
  interface_below router iface =
      all_by_option (IsBelow s 1) (λ (i : Interface). element_in s router i.element ∷ []) (option_and_then (λ (c : ConfigView). slice_get c.interfaces iface) (slice_get s.routers router)) (λ i found.
      option_and_then_some (λ (c : ConfigView). slice_get c.interfaces iface) (slice_get s.routers router) i found (λ c at at_interface.
      all_of_one (IsBelow s 1) (element_in s router i.element)
      (element_holds s router c i.element at (interface_element c (formed_at s.routers is.valid.each router c at) iface i at_interface), omega arith)))

  static_below : (router place : ℕ) → All (IsBelow s 1) (of_static s router place)
  unfolding rank
  static_below router place =
      all_by_option (IsBelow s 1) (λ (r : StaticRoute). element_in s router r.element ∷ []) (option_and_then (λ (c : ConfigView). slice_get c.statics place) (slice_get s.routers router)) (λ r found.
      option_and_then_some (λ (c : ConfigView). slice_get c.statics place) (slice_get s.routers router) r found (λ c at at_route.
      all_of_one (IsBelow s 1) (element_in s router r.element)
      (element_holds s router c r.element at (static_element c (formed_at s.routers is.valid.each router c at) place r at_route), omega arith)))

  -- ---- what each kind of fact follows from

  static_parents : (router : RouterId) (place : ℕ) → All (IsBelow s 2) (parents s (Static router place))
  unfolding parents
  static_parents router place =
      All-append (IsBelow s 2) (of_static s router.0 place) (option_map_or (λ (r : BaseRow). connected_by router r.from) (static_at s.routers router.0 place) []) (all_higher s 1 2 (omega arith) (of_static s router.0 place) (static_below router.0 place))
      (all_by_option (IsBelow s 2) (λ (r : BaseRow). connected_by router r.from) (static_at s.routers router.0 place) (λ r found.
      option_and_then_some (λ (c : ConfigView). option_and_then (λ (route : StaticRoute). static_row c.interfaces place route) (slice_get c.statics place)) (slice_get s.routers router.0) r found (λ c at is_row.
      option_and_then_some (λ (route : StaticRoute). static_row c.interfaces place route) (slice_get c.statics place) r is_row (λ route at_route made. connected_below s router c place r.from at (row_leads c.interfaces place route r made)))))

  base_parents : (router : RouterId) (place : ℕ) → All (IsBelow s 3) (parents s (Base router place))
  unfolding parents
  base_parents router place =
      all_by_option (IsBelow s 3) (λ (r : BaseRow). route_of router r.from ∷ []) (slice_get (base_rows s router.0) place) (λ r at.
      all_of_one (IsBelow s 3) (route_of router r.from) (route_below s is router r (in_by_get (base_rows s router.0) place r at)))

  -- rows of the base table at some places
  rows_below : (router : RouterId) (places : List ℕ) → ((place : ℕ) → In place places → place < length (base_rows s router.0)) → All (IsBelow s 4) (map (Base router) places)
  unfolding rank
  rows_below router places within = All-map (IsBelow s 4) (Base router) places (all_by_in (λ (place : ℕ). IsBelow s 4 (Base router place)) places (λ place i. (base_holds s router place (within place i), omega arith)))

  resolve_parents : (router : RouterId) (addr : Addr) → All (IsBelow s 4) (parents s (Resolve router addr))
  unfolding parents
  resolve_parents router addr = rows_below router (hits s.base router.0 addr.0) (λ place i. hit_within s.routers s.base router.0 addr.0 place i)

  source_parents : (router : RouterId) (prefix : Cidr) → All (IsBelow s 4) (parents s (NetSource router prefix))
  unfolding parents
  source_parents router prefix =
      rows_below router (places_from (λ (r : BaseRow). same_prefix r.prefix prefix) 0 (base_rows s router.0)) (λ place i.
      let lt : place < 0 + length (base_rows s router.0) = place_within (λ (r : BaseRow). same_prefix r.prefix prefix) 0 (base_rows s router.0) place i in omega arith)

  hops_below : (router : RouterId) (addr : Addr) (hops : ℕ) → All (IsBelow s (6 + 2 * hops)) (hops_of s router addr hops)
  unfolding rank
  hops_below router addr hops k d lt =
      let by_row = λ (row : ℕ). Hop router addr row hops in
      let rows = hits s.base router.0 addr.0 in
      let holding = filter_passes (holds s) (map by_row rows) in
      let ranks : All (λ (p : Fact). rank s p < 6 + 2 * hops) (filter (holds s) (map by_row rows)) =
      All-filter (holds s) (λ (p : Fact). rank s p < 6 + 2 * hops) (map by_row rows) (All-map (λ (p : Fact). rank s p < 6 + 2 * hops) by_row rows (λ k d lt. omega arith)) in
      (holding k d lt, ranks k d lt)

  reach_parents : (router : RouterId) (addr : Addr) (hops : ℕ) → All (IsBelow s (6 + 2 * hops)) (parents s (Reach router addr hops))
  unfolding parents
  reach_parents router addr hops = by_own (own_place s.routers router.0 addr.0) refl
    where
      by_own : (o : Option ℕ) → own_place s.routers router.0 addr.0 ≡ o → All (IsBelow s (6 + 2 * hops)) (option_map_or (λ iface. Connected router (record { 0 = iface }) ∷ []) o (hops_of s router addr hops))
      by_own None found = hops_below router addr hops
      by_own (Some iface) found =
          all_higher s 2 (6 + 2 * hops) (omega arith) (Connected router (record { 0 = iface }) ∷ []) (all_of_one (IsBelow s 2) (Connected router (record { 0 = iface })) (own_below s router addr iface found))

  -- what a packet needs that goes on by a row
  hop_below : (router : RouterId) (addr : Addr) (row hops : ℕ) (next : PlaceIn) → hops_by s router.0 addr.0 row hops ≡ true → leads_to s.routers s.base router.0 addr.0 row ≡ Some next
      → All (IsBelow s (5 + 2 * hops)) (Base router row ∷ Connected (record { 0 = next.router }) (record { 0 = next.place }) ∷ Reach (record { 0 = next.router }) addr (hops - 1) ∷ [])
  unfolding holds rank
  hop_below router addr row zero next e leads = absurd (cc)
  hop_below router addr row (suc hops) next e leads =
      let within = and_parts (nat_lt hops HOP_LIMIT) _ e in
      let hit = and_parts (list_any (nat_eq row) (hits s.base router.0 addr.0)) _ within.1 in
      let reached : reaches s.routers s.base hops next.router addr.0 ≡ true =
      sym (ap (λ (o : Option PlaceIn). option_map_or (λ n. reaches s.routers s.base hops n.router addr.0) o false) leads) ∙ hit.1 in
      let lt : hops < HOP_LIMIT = ltb-true hops HOP_LIMIT within.0 in
      let is_row : row < length (base_rows s router.0) = hit_within s.routers s.base router.0 addr.0 row (among_is row (hits s.base router.0 addr.0) hit.0) in
      let less : suc hops - 1 ≡ hops = omega arith in
      let on : holds s (Reach (record { 0 = next.router }) addr (suc hops - 1)) ≡ true =
      subst (λ (n : ℕ). (nat_le n HOP_LIMIT && reaches s.routers s.base n next.router addr.0) ≡ true) (sym less) (and_from (nat_le hops HOP_LIMIT) (reaches s.routers s.base hops next.router addr.0) (le-leb hops HOP_LIMIT (omega arith)) reached) in
      all_of_three (IsBelow s (5 + 2 * suc hops)) (Base router row) (Connected (record { 0 = next.router }) (record { 0 = next.place })) (Reach (record { 0 = next.router }) addr (suc hops - 1))
      (base_holds s router row is_row, omega arith) (next_up s.routers s.base router.0 addr.0 row next leads, omega arith) (on, omega arith)

  hop_parents_below : (router : RouterId) (addr : Addr) (row hops : ℕ) → hops_by s router.0 addr.0 row hops ≡ true → All (IsBelow s (5 + 2 * hops)) (parents s (Hop router addr row hops))
  unfolding parents
  hop_parents_below router addr row hops e =
      all_by_option (IsBelow s (5 + 2 * hops)) (λ (next : PlaceIn). Base router row ∷ Connected (record { 0 = next.router }) (record { 0 = next.place }) ∷ Reach (record { 0 = next.router }) addr (hops - 1) ∷ []) (leads_to s.routers s.base router.0 addr.0 row) (λ next leads.
      hop_below router addr row hops next e leads)

  -- the elements of one end of a session
  end_below : (router place : ℕ) (e : End) → IsEnd s.routers router place e → All (IsBelow s 1) (end_elements s router e)
  unfolding rank
  end_below router place e end =
      let within = end_elements_within s.routers router place e (formed_at s.routers is.valid.each router e.config end.config) end in
      All-cons (IsBelow s 1) (element_in s router e.process.element) (element_in s router e.statement.element ∷ [])
      (element_holds s router e.config e.process.element end.config within.0, omega arith)
      (all_of_one (IsBelow s 1) (element_in s router e.statement.element) (element_holds s router e.config e.statement.element end.config within.1, omega arith))

  -- that a packet comes somewhere over as many hops as are looked at
  reach_below : (router : RouterId) (addr : Addr) → reaches s.routers s.base HOP_LIMIT router.0 addr.0 ≡ true → IsBelow s 70 (Reach router addr HOP_LIMIT)
  unfolding holds rank
  reach_below router addr reached = (and_from (nat_le HOP_LIMIT HOP_LIMIT) (reaches s.routers s.base HOP_LIMIT router.0 addr.0) (le-leb HOP_LIMIT HOP_LIMIT (omega arith)) reached, omega arith)

  up_below : (router : RouterId) (iface : IfaceId) → is_some (up_at s.routers router.0 iface.0) ≡ true → IsBelow s 70 (Connected router iface)
  unfolding holds rank
  up_below router iface up = (up, omega arith)

  link_below : (router : RouterId) (place : ℕ) (k : Link) → IsLink s.routers s.sessions router.0 place k → All (IsBelow s 70) (session_parents s router k)
  link_below router place k link =
      let below = IsBelow s 70 in
      let peer = k.session.peer in
      let both = established s is router.0 place k.session link.session in
      let own : both.own ≡ k.receiver = same_Some both.own k.receiver (sym both.own_end ∙ link.receiver) in
      let other : both.peer ≡ k.sender = same_Some both.peer k.sender (sym both.peer_end ∙ link.sender) in
      let reach = subst (λ (e : End). reaches s.routers s.base HOP_LIMIT router.0 e.statement.addr.0 ≡ true) own both.reach in
      let peer_reach = subst (λ (e : End). reaches s.routers s.base HOP_LIMIT peer.0 e.statement.addr.0 ≡ true) other both.peer_reach in
      let source = Connected router k.session.source in
      let peer_source = Connected peer k.session.peer_source in
      let on = Reach router k.receiver.statement.addr HOP_LIMIT in
      let back = Reach peer k.sender.statement.addr HOP_LIMIT in
      let ways : All below (ways_between s router k) =
      All-cons below source (peer_source ∷ on ∷ back ∷ []) (up_below router k.session.source both.source)
      (all_of_three below peer_source on back (up_below peer k.session.peer_source both.peer_source) (reach_below router k.receiver.statement.addr reach) (reach_below peer k.sender.statement.addr peer_reach)) in
      let ends = all_higher s 1 70 (omega arith) (end_elements s router.0 k.receiver) (end_below router.0 place k.receiver (end_is s.routers router.0 place k.receiver link.receiver)) in
      let peer_ends = all_higher s 1 70 (omega arith) (end_elements s peer.0 k.sender) (end_below peer.0 k.session.peer_neighbor k.sender (end_is s.routers peer.0 k.session.peer_neighbor k.sender link.sender)) in
      All-append below (end_elements s router.0 k.receiver) (end_elements s peer.0 k.sender ++ ways_between s router k) ends (All-append below (end_elements s peer.0 k.sender) (ways_between s router k) peer_ends ways)

  session_below : (router : RouterId) (place : ℕ) → All (IsBelow s 70) (parents s (Session router place))
  unfolding parents
  session_below router place =
      all_by_option (IsBelow s 70) (session_parents s router) (link_at s.routers s.sessions router.0 place) (λ k found. link_below router place k (link_is s.routers s.sessions router.0 place k found))

  -- ---- the laws

  -- each parent holds and has a lower rank
  pub parents_below : (f : Fact) → holds s f ≡ true → All (λ p. (holds s p ≡ true) × (rank s p < rank s f)) (parents s f)
  unfolding holds parents rank
  parents_below (Element e) h = All-nil (IsBelow s 0)
  parents_below (Connected router iface) h = interface_below router.0 iface.0
  parents_below (Static router place) h = static_parents router place
  parents_below (Base router row) h = base_parents router row
  parents_below (Resolve router addr) h = resolve_parents router addr
  parents_below (NetSource router prefix) h = source_parents router prefix
  parents_below (Reach router addr hops) h = reach_parents router addr hops
  parents_below (Hop router addr row hops) h = hop_parents_below router addr row hops h
  parents_below (Session router place) h = session_below router place
  parents_below (Origin router place) h = origin_parents_below s is router place h
  parents_below (Contrib router place) h = contrib_parents_below s is router place
  parents_below (Aggregate router place) h = aggregate_parents_below s is router place h
  parents_below (Message router place prefix) h = message_parents_below s is router place prefix
  parents_below (Entry router place prefix) h = entry_parents_below s is router place prefix
  parents_below (Chosen router prefix place) h = chosen_parents_below s is router prefix place
  parents_below (Main router row) h = main_parents_below s is router row
  parents_below (Step router addr way hops) h = step_below s BySome router addr way hops h
  parents_below (Trace router addr hops) h = trace_below s router addr hops
  parents_below (AllStep router addr way hops) h = step_below s ByEach router addr way hops h
  parents_below (AllTrace router addr hops) h = all_trace_below s router addr hops h
  parents_below (Pass inward router iface from to) h = pass_parents_below s is router iface inward from to h
  parents_below (FlowStep hops router from to way) h = step_below s (From from) router to way hops h
  parents_below (Flow router from to hops) h = flow_below s router from to hops

  -- a hop by which a packet comes to the owner of an address that is not the router's own
  hop_holds : (router : RouterId) (addr : Addr) (hops : ℕ) → hops ≤ HOP_LIMIT → (on : GoesOn s.routers s.base hops router.0 addr.0) → holds s (Hop router addr on.row hops) ≡ true
  unfolding holds
  hop_holds router addr hops within on =
      let lt : on.less < HOP_LIMIT = let count = on.count in omega arith in
      subst (λ (n : ℕ). hops_by s router.0 addr.0 on.row n ≡ true) (sym on.count)
      (and_from (nat_lt on.less HOP_LIMIT) _ (lt-ltb on.less HOP_LIMIT lt) (and_from (list_any (nat_eq on.row) (hits s.base router.0 addr.0)) _ (is_among on.row (hits s.base router.0 addr.0) on.hit)
      (ap (λ (o : Option PlaceIn). option_map_or (λ n. reaches s.routers s.base on.less n.router addr.0) o false) on.leads ∙ on.reached)))

  reach_chosen : (router : RouterId) (addr : Addr) (hops : ℕ) → holds s (Reach router addr hops) ≡ true → 0 < length (parents s (Reach router addr hops))
  unfolding holds parents
  reach_chosen router addr hops e = by_own (own_place s.routers router.0 addr.0) refl
    where
      by_own : (o : Option ℕ) → own_place s.routers router.0 addr.0 ≡ o → 0 < length (option_map_or (λ iface. Connected router (record { 0 = iface }) ∷ []) o (hops_of s router addr hops))
      by_own (Some iface) found = omega arith
      by_own None found =
          let both = and_parts (nat_le hops HOP_LIMIT) (reaches s.routers s.base hops router.0 addr.0) e in
          let on = goes_on s.routers s.base hops router.0 addr.0 (not_own s.routers s.base router.0 addr.0 found) both.1 in
          let rows = hits s.base router.0 addr.0 in
          some_in (hops_of s router addr hops) (Hop router addr on.row hops)
          (in_filter (holds s) (map (λ (row : ℕ). Hop router addr row hops) rows) (Hop router addr on.row hops) (in_map (λ (row : ℕ). Hop router addr row hops) rows on.row on.hit) (hop_holds router addr hops (leb-true hops HOP_LIMIT both.0) on))

  -- what follows from any of its parents has one
  pub parents_some : (f : Fact) → holds s f ≡ true → kind f ≡ Any → 0 < length (parents s f)
  unfolding holds parents kind
  parents_some (Element e) h k = absurd (cc)
  parents_some (Connected router iface) h k = absurd (cc)
  parents_some (Static router place) h k = absurd (cc)
  parents_some (Base router row) h k = absurd (cc)
  parents_some (Resolve router addr) h k =
      let lt : 0 < length (hits s.base router.0 addr.0) = ltb-true 0 (length (hits s.base router.0 addr.0)) h in
      omega (arith, length-map (hits s.base router.0 addr.0) (Base router))
  parents_some (NetSource router prefix) h k =
      let places = places_from (λ (r : BaseRow). same_prefix r.prefix prefix) 0 (base_rows s router.0) in
      let lt : 0 < length places = some_place (λ (r : BaseRow). same_prefix r.prefix prefix) 0 (base_rows s router.0) h in
      omega (arith, length-map places (Base router))
  parents_some (Reach router addr hops) h k = reach_chosen router addr hops h
  parents_some (Hop router addr row hops) h k = absurd (cc)
  parents_some (Session router place) h k = absurd (cc)
  parents_some (Origin router place) h k = absurd (cc)
  parents_some (Contrib router place) h k = contrib_chosen s is router place h
  parents_some (Aggregate router place) h k = absurd (cc)
  parents_some (Message router place prefix) h k = absurd (cc)
  parents_some (Entry router place prefix) h k = absurd (cc)
  parents_some (Chosen router prefix place) h k = absurd (cc)
  parents_some (Main router row) h k = absurd (cc)
  parents_some (Step router addr way hops) h k = absurd (cc)
  parents_some (Trace router addr hops) h k = trace_chosen s router addr hops h
  parents_some (AllStep router addr way hops) h k = absurd (cc)
  parents_some (AllTrace router addr hops) h k = absurd (cc)
  parents_some (Pass inward router iface from to) h k = absurd (cc)
  parents_some (FlowStep hops router from to way) h k = absurd (cc)
  parents_some (Flow router from to hops) h k = flow_chosen s router from to hops h

  -- a session that is established rests on all that its link gives
  pub session_rests : (router : RouterId) (place : ℕ) → holds s (Session router place) ≡ true → (k : Link) × (link_at s.routers s.sessions router.0 place ≡ Some k) × (parents s (Session router place) ≡ session_parents s router k)
  unfolding holds parents
  session_rests router place h = by_row (session_by s.sessions router.0 place) refl h
    where
      by_row : (o : Option SessionRow) → session_by s.sessions router.0 place ≡ o → is_some o ≡ true → (k : Link) × (link_at s.routers s.sessions router.0 place ≡ Some k) × (option_map_or (session_parents s router) (link_at s.routers s.sessions router.0 place) [] ≡ session_parents s router k)
      by_row None found there = absurd (cc)
      by_row (Some row) found there = let link = has_link s is router.0 place row found in (link.0, link.1, ap (λ (o : Option Link). option_map_or (session_parents s router) o []) link.1)

-- an element has no parents
pub parents_none : (s : StateView) (f : Fact) (e : ℕ) → kind f ≡ Leaf e → parents s f ≡ []
unfolding parents kind
parents_none s (Element e) number k = refl
parents_none s (Connected router iface) number k = absurd (cc)
parents_none s (Static router place) number k = absurd (cc)
parents_none s (Base router row) number k = absurd (cc)
parents_none s (Resolve router addr) number k = absurd (cc)
parents_none s (NetSource router prefix) number k = absurd (cc)
parents_none s (Reach router addr hops) number k = absurd (cc)
parents_none s (Hop router addr row hops) number k = absurd (cc)
parents_none s (Session router place) number k = absurd (cc)
parents_none s (Origin router place) number k = absurd (cc)
parents_none s (Contrib router place) number k = absurd (cc)
parents_none s (Aggregate router place) number k = absurd (cc)
parents_none s (Message router place prefix) number k = absurd (cc)
parents_none s (Entry router place prefix) number k = absurd (cc)
parents_none s (Chosen router prefix place) number k = absurd (cc)
parents_none s (Main router row) number k = absurd (cc)
parents_none s (Step router addr way hops) number k = absurd (cc)
parents_none s (Trace router addr hops) number k = absurd (cc)
parents_none s (AllStep router addr way hops) number k = absurd (cc)
parents_none s (AllTrace router addr hops) number k = absurd (cc)
parents_none s (Pass inward router iface from to) number k = absurd (cc)
parents_none s (FlowStep hops router from to way) number k = absurd (cc)
parents_none s (Flow router from to hops) number k = absurd (cc)
