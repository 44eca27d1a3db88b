-- By the rules each conjunctive fact that holds follows from some fact, and each element that holds is one of the network's.
use Rattle.std.proofs.Common.{◌≡◌, ℕ, zero, suc, ◌<◌, Bool, true, false, ◌&&◌, ◌||◌, nat_eq, nat_lt, nat_le, List, [], ◌∷◌, length, map, Option, Some, None, refl, ap, arith}
use Rattle.std.specs.List.{list_any, range_with_len, slice_get}
use Rattle.std.specs.Option.{option_map_or, option_and_then, is_some}
use Rattle.std.proofs.lemmas.Bool.{ltb-true, and_parts}
use Rattle.std.proofs.lemmas.List.{length-append}
use Rattle.std.proofs.lemmas.List.FromFn.{length-map-range_with_len}
use Rattle.nc_types.specs.declared.TheConstants.{HOP_LIMIT}
use Rattle.nc_types.specs.declared.addr.Addr.{Addr}
use Rattle.nc_types.specs.declared.config.RouterId.{RouterId}
use Rattle.nc_types.specs.Config.{ConfigView}
use Rattle.nc_types.specs.Network.{up_of, element_count}
use Rattle.nc_tables.specs.Base.{static_row, static_at}
use Rattle.nc_tables.specs.Forwarding.{Alternative, all_trace}
use Rattle.nc_tables.specs.Reach.{hits, leads_to, owns}
use Rattle.nc_tables.specs.Sessions.{process_of}
use Rattle.nc_tables.specs.State.{StateView, IsState}
use Rattle.nc_graph.specs.declared.node.NodeKind.TheVariants.{Leaf, Every}
use Rattle.nc_graph.proofs.Members.{at_within}
use Rattle.nc_fact.specs.declared.fact.Fact.{Fact}
use Rattle.nc_fact.specs.declared.fact.Fact.TheVariants.{Element, Connected, Static, Base, Hop, Session, Origin, Aggregate, Message, Entry, Chosen, Main, Step, AllStep, AllTrace, Pass, FlowStep}
use Rattle.nc_fact.specs.Facts.{base_rows, main_rows, message_of, accepted_of, chosen_of, holds}
use Rattle.nc_rules_route.specs.Parents.{kind, of_static, connected_by, ways_out, parents}
use Rattle.nc_rules_route.proofs.FlowLaws.{session_rests}
use Rattle.nc_rules_route.proofs.Hops.{not_own}
use Rattle.nc_rules_route.proofs.PathFacts.{own_some_or}

-- ---- values that are there

-- what is made of one isn't empty
made : {A B : Type 0} (make : A → List B) → ((x : A) → 0 < length (make x)) → (o : Option A) → is_some o ≡ true → 0 < length (option_map_or make o [])
made make each None there = absurd cc
made make each (Some x) there = each x

-- nor is what is made of one that passes a test
made_by : {A B : Type 0} (test : A → Bool) (make : A → List B) → ((x : A) → 0 < length (make x)) → (o : Option A) → option_map_or test o false ≡ true → 0 < length (option_map_or make o [])
made_by test make each None passes = absurd cc
made_by test make each (Some x) passes = each x

-- a first from which a second comes is there, and so is a second where a third comes of both
has_first : {A B : Type 0} (next : A → Option B) (o : Option A) → is_some (option_and_then next o) ≡ true → is_some o ≡ true
has_first next None there = absurd cc
has_first next (Some x) there = refl

has_second : {A B C : Type 0} (first : A → Option B) (next : A → B → Option C) (o : Option A) → is_some (option_and_then (λ x. option_and_then (next x) (first x)) o) ≡ true → is_some (option_and_then first o) ≡ true
has_second first next None there = absurd cc
has_second first next (Some x) there = has_first (next x) (first x) there

-- and an item at a place within its list
placed : {A : Type 0} (xs : List A) (place : ℕ) → nat_lt place (length xs) ≡ true → is_some (slice_get xs place) ≡ true
placed xs place within = ap is_some (at_within xs place (ltb-true place (length xs) within)).1

-- where a second comes of a first and passes, what is made of both isn't empty
made_in : {A B C : Type 0} (first : A → Option B) (test : B → Bool) (make : A → B → List C) → ((x : A) (y : B) → 0 < length (make x y)) → (o : Option A)
    → option_map_or test (option_and_then first o) false ≡ true → 0 < length (option_map_or (λ x. option_map_or (make x) (first x) []) o [])
made_in first test make each None passes = absurd cc
made_in first test make each (Some x) passes = made_by test (make x) (each x) (first x) passes

-- ---- conjunctive facts

-- what isn't so by itself is so by each of some ways
by_some : (own : Bool) (count : ℕ) (each : Bool) → own ≡ false → (own || (nat_lt 0 count && each)) ≡ true → 0 < count
by_some true count each foreign e = absurd cc
by_some false count each foreign e = ltb-true 0 count (and_parts (nat_lt 0 count) each e).0

module _ (s : StateView) where
  -- a hop that is taken leads somewhere
  hop_rests : (router : RouterId) (addr : Addr) (row hops : ℕ) → holds s (Hop router addr row hops) ≡ true → 0 < length (parents s (Hop router addr row hops))
  unfolding holds parents
  hop_rests router addr row zero h = absurd cc
  hop_rests router addr row (suc hops) h =
      let within = and_parts (nat_lt hops HOP_LIMIT) _ h in
      let hit = and_parts (list_any (nat_eq row) (hits s.base router.0 addr.0)) _ within.1 in
      made_by _ _ (λ next. omega arith) (leads_to s.routers s.base router.0 addr.0 row) hit.1

  -- a step that is taken is by an alternative
  step_rests : (passes : Alternative → Bool) (make : Alternative → List Fact) → ((way : Alternative) → 0 < length (make way)) → (router : RouterId) (addr : Addr) (way hops : ℕ)
      → (nat_le hops HOP_LIMIT && option_map_or passes (slice_get (ways_out s router addr) way) false) ≡ true → 0 < length (option_map_or make (slice_get (ways_out s router addr) way) [])
  step_rests passes make some router addr way hops h = made_by passes make some (slice_get (ways_out s router addr) way) (and_parts (nat_le hops HOP_LIMIT) _ h).1

  -- where a packet arrives by every way from a router that doesn't own the address, there is one
  every_way : (router : RouterId) (addr : Addr) (hops : ℕ) → owns s.routers router.0 addr.0 ≡ false → all_trace s.routers s.base s.bgp s.main hops router.0 addr.0 ≡ true → 0 < length (ways_out s router addr)
  unfolding all_trace
  every_way router addr zero foreign e = by_some (owns s.routers router.0 addr.0) (length (ways_out s router addr)) _ foreign e
  every_way router addr (suc hops) foreign e = by_some (owns s.routers router.0 addr.0) (length (ways_out s router addr)) _ foreign e

  -- so that it arrives by every way follows from an interface of the owner, or from some step
  all_trace_rests : (router : RouterId) (addr : Addr) (hops : ℕ) → holds s (AllTrace router addr hops) ≡ true → 0 < length (parents s (AllTrace router addr hops))
  unfolding holds parents
  all_trace_rests router addr hops h =
      own_some_or s router addr (map (λ (way : ℕ). AllStep router addr way hops) (range_with_len 0 (length (ways_out s router addr)))) (λ found.
      let some = every_way router addr hops (not_own s.routers s.base router.0 addr.0 found) (and_parts (nat_le hops HOP_LIMIT) _ h).1 in
      let as_many = length-map-range_with_len (λ (way : ℕ). AllStep router addr way hops) 0 (length (ways_out s router addr)) in
      omega arith)

  -- each that holds follows from some fact
  pub conjunctive_rest : IsState s → (f : Fact) → holds s f ≡ true → kind f ≡ Every → 0 < length (parents s f)
  unfolding holds parents kind
  conjunctive_rest is (Connected router iface) h k =
      made _ (λ i. omega arith) _ (has_second (λ (c : ConfigView). slice_get c.interfaces iface.0) (λ c. up_of) (slice_get s.routers router.0) h)
  conjunctive_rest is (Static router place) h k =
      let own : 0 < length (of_static s router.0 place) = made _ (λ r. omega arith) _ (has_second (λ (c : ConfigView). slice_get c.statics place) (λ c. static_row c.interfaces place) (slice_get s.routers router.0) h) in
      let both = length-append (of_static s router.0 place) (option_map_or (λ r. connected_by router r.from) (static_at s.routers router.0 place) []) in
      omega arith
  conjunctive_rest is (Base router row) h k = made _ (λ r. omega arith) _ (placed (base_rows s router.0) row h)
  conjunctive_rest is (Hop router addr row hops) h k = hop_rests router addr row hops h
  conjunctive_rest is (Session router place) h k = let rests = session_rests s is router place h in let all = ap length rests.2 in omega arith
  conjunctive_rest is (Origin router place) h k = made_in _ _ _ (λ p n. omega arith) (process_of s.routers router.0) h
  conjunctive_rest is (Aggregate router place) h k = made_in _ _ _ (λ p a. omega arith) (process_of s.routers router.0) h
  conjunctive_rest is (Message router place prefix) h k = made _ (λ m. omega arith) (message_of s router.0 place prefix) h
  conjunctive_rest is (Entry router place prefix) h k = made _ (λ a. omega arith) (accepted_of s router.0 place prefix) h
  conjunctive_rest is (Chosen router prefix place) h k = made _ (λ x. omega arith) (chosen_of s router.0 prefix place) h
  conjunctive_rest is (Main router row) h k = made _ (λ m. omega arith) _ (placed (main_rows s router.0) row h)
  conjunctive_rest is (Step router addr way hops) h k = step_rests _ _ (λ w. omega arith) router addr way hops h
  conjunctive_rest is (AllStep router addr way hops) h k = step_rests _ _ (λ w. omega arith) router addr way hops h
  conjunctive_rest is (AllTrace router addr hops) h k = all_trace_rests router addr hops h
  conjunctive_rest is (Pass inward router iface from to) h k = omega arith
  conjunctive_rest is (FlowStep hops router from to way) h k = step_rests _ _ (λ w. omega arith) router to way hops h
  conjunctive_rest is f h k = absurd cc

  -- ---- elements

  -- each that holds is one of the network's
  pub element_below : (f : Fact) (e : ℕ) → holds s f ≡ true → kind f ≡ Leaf e → e < element_count s.routers
  unfolding holds kind
  element_below (Element n) e h k =
      let lt = ltb-true n.0 (element_count s.routers) h in
      let same : n.0 ≡ e = cc in
      omega arith
  element_below f e h k = absurd cc
