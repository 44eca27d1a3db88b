-- What packets and their ways over main tables rest on holds, and has a lower rank.
use Rattle.std.proofs.Common.{◌≡◌, ℕ, zero, suc, ◌+◌, ◌-◌, ◌*◌, ◌<◌, ◌≤◌, Bool, true, false, ◌&&◌, ◌||◌, nat_lt, nat_le, List, [], ◌∷◌, ◌++◌, length, get_or, map, filter, All, Option, Some, None, refl, sym, ap, subst, ◌∙◌, arith}
use Rattle.std.specs.List.{list_all, slice_get, range_with_len}
use Rattle.std.specs.Option.{option_map_or, is_some}
use Rattle.std.proofs.lemmas.Bool.{lt-ltb, leb-true, le-leb, and_parts, and_from}
use Rattle.std.proofs.lemmas.List.Elements.{All-nil, All-cons, All-append, All-map, All-filter, filter_passes}
use Rattle.nc_types.specs.declared.TheConstants.{HOP_LIMIT}
use Rattle.nc_types.specs.declared.addr.Addr.{Addr}
use Rattle.nc_types.specs.declared.config.RouterId.{RouterId}
use Rattle.nc_types.specs.declared.config.IfaceId.{IfaceId}
use Rattle.nc_types.specs.Network.{PlaceIn, up_at}
use Rattle.nc_tables.specs.Filters.{passes}
use Rattle.nc_tables.specs.Flows.{leaves, enters, lets, flows}
use Rattle.nc_tables.specs.Forwarding.{Outcome, Deliver, Go, Lost, Alternative, some_way, each_way, arrives_by, goes_on, exit_iface, traces, all_trace}
use Rattle.nc_tables.specs.Reach.{own_place, owns}
use Rattle.nc_tables.specs.State.{StateView}
use Rattle.nc_fact.specs.declared.fact.Fact.{Fact}
use Rattle.nc_fact.specs.declared.fact.Fact.TheVariants.{Connected, Base, Main, Trace, AllStep, AllTrace, Pass, Flow}
use Rattle.nc_fact.specs.Facts.{base_rows, main_rows, holds, rank}
use Rattle.nc_rules_route.specs.declared.packet.Packet.{Packet}
use Rattle.nc_rules_route.specs.declared.packet.Packet.TheVariants.{BySome, ByEach, From}
use Rattle.nc_rules_route.specs.Parents.{trace_fact, step_fact, onward, let_in, let_out, let_pass, way_parents, ways_out, step_parents, steps_of, own_or, parents}
use Rattle.nc_types.proofs.Members.{in_by_get, some_in, in_filter, all_by_in}
use Rattle.nc_rules_route.proofs.Members.{all_by_option, all_of_one, in_range, get_by_range}
use Rattle.nc_rules_route.proofs.Holding.{IsBelow, all_higher, base_holds, own_below}
use Rattle.nc_rules_route.proofs.Hops.{not_own}
use Rattle.nc_rules_route.proofs.Ways.{IsWay, way_is, passes_at, passing_at}

module _ (s : StateView) where
  -- the rank of the step over so many hops
  abbrev step_rank : ℕ → ℕ
  step_rank hops = 150000 + 2 * hops

  -- ---- packets

  -- whether a packet for an address arrives over at most so many hops from a router
  abbrev over : Packet → ℕ → ℕ → ℕ → Bool
  over BySome hops router addr = traces s.routers s.base s.bgp s.main hops router addr
  over ByEach hops router addr = all_trace s.routers s.base s.bgp s.main hops router addr
  over (From from) hops router addr = flows s from.0 addr hops router

  -- whether access lists let it pass by a way, where they are asked
  abbrev let_by : Packet → Addr → ℕ → Alternative → Bool
  let_by BySome addr router way = true
  let_by ByEach addr router way = true
  let_by (From from) addr router way = lets s from.0 addr.0 router way

  -- whether it arrives by one alternative
  abbrev passes_by : Packet → Addr → ℕ → ℕ → Alternative → Bool
  passes_by packet addr router hops way = let_by packet addr router way && arrives_by (goes_on (over packet) addr.0 hops) way.outcome

  trace_holds : (packet : Packet) (router : RouterId) (addr : Addr) (hops : ℕ) → holds s (trace_fact packet router addr hops) ≡ (nat_le hops HOP_LIMIT && over packet hops router.0 addr.0)
  unfolding holds
  trace_holds BySome router addr hops = refl
  trace_holds ByEach router addr hops = refl
  trace_holds (From from) router addr hops = refl

  step_holds : (packet : Packet) (router : RouterId) (addr : Addr) (way hops : ℕ)
      → holds s (step_fact packet router addr way hops) ≡ (nat_le hops HOP_LIMIT && option_map_or (passes_by packet addr router.0 hops) (slice_get (ways_out s router addr) way) false)
  unfolding holds
  step_holds BySome router addr way hops = refl
  step_holds ByEach router addr way hops = refl
  step_holds (From from) router addr way hops = refl

  trace_ranks : (packet : Packet) (router : RouterId) (addr : Addr) (hops : ℕ) → rank s (trace_fact packet router addr hops) ≡ 150001 + 2 * hops
  unfolding rank
  trace_ranks BySome router addr hops = refl
  trace_ranks ByEach router addr hops = refl
  trace_ranks (From from) router addr hops = refl

  step_ranks : (packet : Packet) (router : RouterId) (addr : Addr) (way hops : ℕ) → rank s (step_fact packet router addr way hops) ≡ step_rank hops
  unfolding rank
  step_ranks BySome router addr way hops = refl
  step_ranks ByEach router addr way hops = refl
  step_ranks (From from) router addr way hops = refl

  -- ---- one alternative

  up_below : (router : RouterId) (iface : IfaceId) (hops : ℕ) → is_some (up_at s.routers router.0 iface.0) ≡ true → IsBelow s (step_rank hops) (Connected router iface)
  unfolding holds rank
  up_below router iface hops up = (up, omega arith)

  -- what a packet needs that goes on
  onward_below : (packet : Packet) (addr : Addr) (hops : ℕ) (o : Outcome) → hops ≤ HOP_LIMIT → ((next : PlaceIn) → o ≡ Go next → is_some (up_at s.routers next.router next.place) ≡ true)
      → arrives_by (goes_on (over packet) addr.0 hops) o ≡ true → All (IsBelow s (step_rank hops)) (onward packet addr hops o)
  onward_below packet addr hops Deliver le up e = All-nil (IsBelow s (step_rank hops))
  onward_below packet addr hops Lost le up e = absurd cc
  onward_below packet addr zero (Go next) le up e = absurd cc
  onward_below packet addr (suc hops) (Go next) le up e =
      let less : suc hops - 1 ≡ hops = omega arith in
      let peer : RouterId = record { 0 = next.router } in
      let on : holds s (trace_fact packet peer addr (suc hops - 1)) ≡ true =
      subst (λ (n : ℕ). holds s (trace_fact packet peer addr n) ≡ true) (sym less)
      (trace_holds packet peer addr hops ∙ and_from (nat_le hops HOP_LIMIT) (over packet hops next.router addr.0) (le-leb hops HOP_LIMIT (omega arith)) e) in
      let low : rank s (trace_fact packet peer addr (suc hops - 1)) < step_rank (suc hops) = omega (arith, trace_ranks packet peer addr (suc hops - 1)) in
      All-cons (IsBelow s (step_rank (suc hops))) (Connected peer (record { 0 = next.place })) (trace_fact packet peer addr (suc hops - 1) ∷ []) (up_below peer (record { 0 = next.place }) (suc hops) (up next refl))
      (all_of_one (IsBelow s (step_rank (suc hops))) (trace_fact packet peer addr (suc hops - 1)) (on, low))

  main_below : (router : RouterId) (row hops : ℕ) → row < length (main_rows s router.0) → IsBelow s (step_rank hops) (Main router row)
  unfolding holds rank
  main_below router row hops lt = (lt-ltb row (length (main_rows s router.0)) lt, omega arith)

  row_below : (router : RouterId) (row hops : ℕ) → row < length (base_rows s router.0) → IsBelow s (step_rank hops) (Base router row)
  unfolding rank
  row_below router row hops lt = (base_holds s router row lt, omega arith)

  -- what has to let it pass
  pass_below : (router : RouterId) (iface : IfaceId) (inward : Bool) (from addr : Addr) (hops : ℕ) → passes from.0 addr.0 s.routers router.0 iface.0 inward ≡ true
      → All (IsBelow s (step_rank hops)) (Pass inward router iface from addr ∷ [])
  unfolding holds rank
  pass_below router iface inward from addr hops e = all_of_one (IsBelow s (step_rank hops)) (Pass inward router iface from addr) (e, omega arith)

  let_in_below : (from addr : Addr) (hops : ℕ) (o : Outcome) → enters s from.0 addr.0 o ≡ true → All (IsBelow s (step_rank hops)) (let_in from addr o)
  let_in_below from addr hops Deliver e = All-nil (IsBelow s (step_rank hops))
  let_in_below from addr hops Lost e = All-nil (IsBelow s (step_rank hops))
  let_in_below from addr hops (Go next) e = pass_below (record { 0 = next.router }) (record { 0 = next.place }) true from addr hops e

  let_out_below : (router : RouterId) (from addr : Addr) (hops : ℕ) (way : Alternative) → leaves s from.0 addr.0 router.0 way ≡ true → All (IsBelow s (step_rank hops)) (let_out s router from addr way)
  let_out_below router from addr hops way e =
      let lets_out = λ (iface : ℕ). passes from.0 addr.0 s.routers router.0 iface false in
      all_by_option (IsBelow s (step_rank hops)) (λ (iface : ℕ). Pass false router (record { 0 = iface }) from addr ∷ []) (exit_iface s.routers s.base s.bgp s.main router.0 addr.0 way) (λ iface at.
      pass_below router (record { 0 = iface }) false from addr hops (sym (ap (λ (o : Option ℕ). option_map_or lets_out o false) at) ∙ e))

  let_pass_below : (packet : Packet) (router : RouterId) (addr : Addr) (hops : ℕ) (way : Alternative) → let_by packet addr router.0 way ≡ true → All (IsBelow s (step_rank hops)) (let_pass s packet router addr way)
  let_pass_below BySome router addr hops way e = All-nil (IsBelow s (step_rank hops))
  let_pass_below ByEach router addr hops way e = All-nil (IsBelow s (step_rank hops))
  let_pass_below (From from) router addr hops way e =
      let both = and_parts (enters s from.0 addr.0 way.outcome) (leaves s from.0 addr.0 router.0 way) e in
      All-append (IsBelow s (step_rank hops)) (let_out s router from addr way) (let_in from addr way.outcome) (let_out_below router from addr hops way both.1) (let_in_below from addr hops way.outcome both.0)

  way_below : (packet : Packet) (router : RouterId) (addr : Addr) (hops : ℕ) (way : Alternative) → hops ≤ HOP_LIMIT → IsWay s router.0 way → passes_by packet addr router.0 hops way ≡ true
      → All (IsBelow s (step_rank hops)) (way_parents s packet router addr hops way)
  way_below packet router addr hops way le is e =
      let below = IsBelow s (step_rank hops) in
      let both = and_parts (let_by packet addr router.0 way) (arrives_by (goes_on (over packet) addr.0 hops) way.outcome) e in
      let rows = option_map_or (λ (row : ℕ). Base router row ∷ []) way.base [] in
      let on = onward packet addr hops way.outcome in
      let lets_it = let_pass s packet router addr way in
      All-cons below (Main router way.main) (rows ++ (on ++ lets_it)) (main_below router way.main hops is.main)
      (All-append below rows (on ++ lets_it) (all_by_option below (λ (row : ℕ). Base router row ∷ []) way.base (λ row at. all_of_one below (Base router row) (row_below router row hops (is.base row at))))
      (All-append below on lets_it (onward_below packet addr hops way.outcome le is.up both.1) (let_pass_below packet router addr hops way both.0)))

  pub step_below : (packet : Packet) (router : RouterId) (addr : Addr) (place hops : ℕ) → holds s (step_fact packet router addr place hops) ≡ true → All (IsBelow s (step_rank hops)) (step_parents s packet router addr place hops)
  step_below packet router addr place hops e =
      let both = and_parts (nat_le hops HOP_LIMIT) (option_map_or (passes_by packet addr router.0 hops) (slice_get (ways_out s router addr) place) false) (sym (step_holds packet router addr place hops) ∙ e) in
      all_by_option (IsBelow s (step_rank hops)) (way_parents s packet router addr hops) (slice_get (ways_out s router addr) place) (λ way at.
      way_below packet router addr hops way (leb-true hops HOP_LIMIT both.0) (way_is s router.0 addr.0 way (in_by_get (ways_out s router addr) place way at))
      (sym (ap (λ (o : Option Alternative). option_map_or (passes_by packet addr router.0 hops) o false) at) ∙ both.1))

  -- ---- all alternatives

  -- a router's own interface that has the address, or else other facts
  own_below_or : (router : RouterId) (addr : Addr) (hops : ℕ) (others : List Fact) → (own_place s.routers router.0 addr.0 ≡ None → All (IsBelow s (150001 + 2 * hops)) others) → All (IsBelow s (150001 + 2 * hops)) (own_or s router addr others)
  own_below_or router addr hops others each = by_own (own_place s.routers router.0 addr.0) refl
    where
      by_own : (o : Option ℕ) → own_place s.routers router.0 addr.0 ≡ o → All (IsBelow s (150001 + 2 * hops)) (option_map_or (λ iface. Connected router (record { 0 = iface }) ∷ []) o others)
      by_own None found = each found
      by_own (Some iface) found =
          all_higher s 2 (150001 + 2 * hops) (omega arith) (Connected router (record { 0 = iface }) ∷ []) (all_of_one (IsBelow s 2) (Connected router (record { 0 = iface })) (own_below s router addr iface found))

  pub own_some_or : (router : RouterId) (addr : Addr) (others : List Fact) → (own_place s.routers router.0 addr.0 ≡ None → 0 < length others) → 0 < length (own_or s router addr others)
  own_some_or router addr others some = by_own (own_place s.routers router.0 addr.0) refl
    where
      by_own : (o : Option ℕ) → own_place s.routers router.0 addr.0 ≡ o → 0 < length (option_map_or (λ iface. Connected router (record { 0 = iface }) ∷ []) o others)
      by_own None found = some found
      by_own (Some iface) found = omega arith

  -- where a packet arrives from a router that doesn't own the address, some way leads on, or each does
  second : (a b : Bool) → a ≡ false → (a || b) ≡ true → b ≡ true
  second true b e f = absurd cc
  second false b e f = f

  foreign : (router : RouterId) (addr : Addr) → own_place s.routers router.0 addr.0 ≡ None → owns s.routers router.0 addr.0 ≡ false
  foreign router addr found = not_own s.routers s.base router.0 addr.0 found

  some_leads : (router : RouterId) (addr : Addr) (hops : ℕ) → own_place s.routers router.0 addr.0 ≡ None → over BySome hops router.0 addr.0 ≡ true → some_way (passes_by BySome addr router.0 hops) (ways_out s router addr) ≡ true
  unfolding traces
  some_leads router addr zero found e = second (owns s.routers router.0 addr.0) _ (foreign router addr found) e
  some_leads router addr (suc hops) found e = second (owns s.routers router.0 addr.0) _ (foreign router addr found) e

  each_leads : (router : RouterId) (addr : Addr) (hops : ℕ) → own_place s.routers router.0 addr.0 ≡ None → over ByEach hops router.0 addr.0 ≡ true → each_way (passes_by ByEach addr router.0 hops) (ways_out s router addr) ≡ true
  unfolding all_trace
  each_leads router addr zero found e = second (owns s.routers router.0 addr.0) _ (foreign router addr found) e
  each_leads router addr (suc hops) found e = second (owns s.routers router.0 addr.0) _ (foreign router addr found) e

  flow_leads : (from : Addr) (router : RouterId) (addr : Addr) (hops : ℕ) → own_place s.routers router.0 addr.0 ≡ None → over (From from) hops router.0 addr.0 ≡ true
      → some_way (passes_by (From from) addr router.0 hops) (ways_out s router addr) ≡ true
  unfolding flows
  flow_leads from router addr zero found e = second (owns s.routers router.0 addr.0) _ (foreign router addr found) e
  flow_leads from router addr (suc hops) found e = second (owns s.routers router.0 addr.0) _ (foreign router addr found) e

  -- the alternatives by which it arrives rank below
  steps_below : (packet : Packet) (router : RouterId) (addr : Addr) (hops : ℕ) → All (IsBelow s (150001 + 2 * hops)) (filter (holds s) (steps_of s packet router addr hops))
  steps_below packet router addr hops =
      let step = λ (way : ℕ). step_fact packet router addr way hops in
      let places = range_with_len 0 (length (ways_out s router addr)) in
      let low = λ (p : Fact). rank s p < 150001 + 2 * hops in
      let ranks : All low (filter (holds s) (map step places)) = All-filter (holds s) low (map step places) (All-map low step places (λ k d lt. omega (arith, step_ranks packet router addr (get_or places k d) hops))) in
      λ k d lt. (filter_passes (holds s) (map step places) k d lt, ranks k d lt)

  -- and where some way leads on there is one
  steps_some : (packet : Packet) (router : RouterId) (addr : Addr) (hops : ℕ) → nat_le hops HOP_LIMIT ≡ true → some_way (passes_by packet addr router.0 hops) (ways_out s router addr) ≡ true → 0 < length (filter (holds s) (steps_of s packet router addr hops))
  steps_some packet router addr hops within leads =
      let ways = ways_out s router addr in
      let step = λ (way : ℕ). step_fact packet router addr way hops in
      let passing = passing_at (passes_by packet addr router.0 hops) ways leads in
      let here : 0 + passing.0 ≡ passing.0 = omega arith in
      let there = get_by_range step 0 (length ways) passing.0 passing.1 ∙ ap (λ (n : ℕ). Some (step n)) here in
      let holding = step_holds packet router addr passing.0 hops ∙ and_from (nat_le hops HOP_LIMIT) (option_map_or (passes_by packet addr router.0 hops) (slice_get ways passing.0) false) within passing.2 in
      some_in (filter (holds s) (steps_of s packet router addr hops)) (step passing.0)
      (in_filter (holds s) (steps_of s packet router addr hops) (step passing.0) (in_by_get (steps_of s packet router addr hops) passing.0 (step passing.0) there) holding)

  pub trace_below : (router : RouterId) (addr : Addr) (hops : ℕ) → All (IsBelow s (150001 + 2 * hops)) (parents s (Trace router addr hops))
  unfolding parents
  trace_below router addr hops = own_below_or router addr hops (filter (holds s) (steps_of s BySome router addr hops)) (λ found. steps_below BySome router addr hops)

  pub flow_below : (router : RouterId) (from to : Addr) (hops : ℕ) → All (IsBelow s (150001 + 2 * hops)) (parents s (Flow router from to hops))
  unfolding parents
  flow_below router from to hops = own_below_or router to hops (filter (holds s) (steps_of s (From from) router to hops)) (λ found. steps_below (From from) router to hops)

  pub trace_chosen : (router : RouterId) (addr : Addr) (hops : ℕ) → holds s (Trace router addr hops) ≡ true → 0 < length (parents s (Trace router addr hops))
  unfolding parents holds
  trace_chosen router addr hops e =
      let both = and_parts (nat_le hops HOP_LIMIT) (traces s.routers s.base s.bgp s.main hops router.0 addr.0) e in
      own_some_or router addr (filter (holds s) (steps_of s BySome router addr hops)) (λ found. steps_some BySome router addr hops both.0 (some_leads router addr hops found both.1))

  pub flow_chosen : (router : RouterId) (from to : Addr) (hops : ℕ) → holds s (Flow router from to hops) ≡ true → 0 < length (parents s (Flow router from to hops))
  unfolding parents holds
  flow_chosen router from to hops e =
      let both = and_parts (nat_le hops HOP_LIMIT) (flows s from.0 to.0 hops router.0) e in
      own_some_or router to (filter (holds s) (steps_of s (From from) router to hops)) (λ found. steps_some (From from) router to hops both.0 (flow_leads from router to hops found both.1))

  pub all_trace_below : (router : RouterId) (addr : Addr) (hops : ℕ) → holds s (AllTrace router addr hops) ≡ true → All (IsBelow s (150001 + 2 * hops)) (parents s (AllTrace router addr hops))
  unfolding parents holds rank
  all_trace_below router addr hops e =
      own_below_or router addr hops (steps_of s ByEach router addr hops) (λ found.
      let both = and_parts (nat_le hops HOP_LIMIT) (all_trace s.routers s.base s.bgp s.main hops router.0 addr.0) e in
      let ways = ways_out s router addr in
      let step = λ (way : ℕ). AllStep router addr way hops in
      let each = and_parts (nat_lt 0 (length ways)) (list_all (passes_by ByEach addr router.0 hops) ways) (each_leads router addr hops found both.1) in
      let places = range_with_len 0 (length ways) in
      All-map (IsBelow s (150001 + 2 * hops)) step places (all_by_in (λ (place : ℕ). IsBelow s (150001 + 2 * hops) (step place)) places (λ place i.
      let within : place < 0 + length ways = in_range 0 (length ways) place i in
      (and_from (nat_le hops HOP_LIMIT) (option_map_or (passes_by ByEach addr router.0 hops) (slice_get ways place) false) both.0 (passes_at (passes_by ByEach addr router.0 hops) ways each.1 place (omega arith)), omega arith))))
