-- The roots stand in order, and none twice.
use Rattle.std.proofs.Common.{◌≡◌, ◌≢◌, ℕ, ◌<◌, Bool, true, false, cond, List, [], ◌++◌, length, get_or, map, All, AllPairs, Option, Some, None, refl, sym, ap, subst, ◌∙◌, arith, inl, inr}
use Rattle.std.specs.List.{range_with_len}
use Rattle.std.specs.Option.{option_and_then, option_map}
use Rattle.std.specs.declared.cmp.Ordering.TheVariants.{Less}
use Rattle.std.proofs.lemmas.Bool.{cases_lt}
use Rattle.std.proofs.lemmas.List.{get_or_past}
use Rattle.std.proofs.lemmas.List.Elements.{All-get_or}
use Rattle.std.proofs.lemmas.List.Kept.{AllPairs-filter}
use Rattle.nc_types.proofs.Members.{In, in_either, in_by_map, in_by_filter, in_by_flat_map, all_by_in}
use Rattle.nc_types.specs.Cidr.{Cidr}
use Rattle.nc_types.specs.Config.{ConfigView}
use Rattle.nc_tables.specs.declared.base.BaseRow.{BaseRow}
use Rattle.nc_tables.specs.declared.bgp.SessionRow.{SessionRow}
use Rattle.nc_tables.specs.Base.{base_tables, prefix_cmp}
use Rattle.nc_tables.specs.Rounds.{BgpRowView, AreBgpRows}
use Rattle.nc_tables.specs.Sessions.{AreSessions, End, Side, Sides, are_met, conditions_of, end_at, peer_of, session_at, session_of, sessions, sessions_of, side_at, source_of}
use Rattle.nc_tables.specs.State.{StateView, state_at, IsState}
use Rattle.nc_tables.proofs.ByPrefix.{less_differs, same_itself}
use Rattle.nc_fact.specs.declared.fact.Fact.{Fact}
use Rattle.nc_fact.specs.declared.fact.Fact.TheVariants.{Element, Connected, Static, Base, Resolve, NetSource, Reach, Hop, Session, Origin, Contrib, Aggregate, Message, Entry, Chosen, Main, Step, Trace, AllStep, AllTrace, Pass, FlowStep, Flow}
use Rattle.nc_fact.specs.Facts.{main_rows, holds}
use Rattle.nc_fact.specs.Roots.{router_of, IsNearer, IsBefore, sessions_at, bgp_rows, row_facts, session_facts, entries_over, entry_facts, roots_of, roots}
use Rattle.nc_fact.proofs.Parts.{no_pairs, pairs_joined, pairs_made, pairs_parts, range_rises, made_rise}

-- ---- the sessions of a state stand in order of their neighbor statements

module _ (routers : List ConfigView) (tables : List (List BaseRow)) (router place : ℕ) where
  side_place : (own : Side) → side_at routers tables router place ≡ Some own → own.place ≡ place
  side_place own e = on_end (end_at routers router place) e
    where
      on_source : (end : End) (o : Option _) → option_map (λ source. record { router = router; place = place; end = end; source = source }) o ≡ Some own → own.place ≡ place
      on_source end None f = absurd cc
      on_source end (Some source) f = let same : record { router = router; place = place; end = end; source = source } ≡ own = cc in sym (ap (λ (side : Side). side.place) same)

      on_end : (o : Option End) → option_and_then (λ end. option_map (λ source. record { router = router; place = place; end = end; source = source }) (source_of routers tables router end)) o ≡ Some own → own.place ≡ place
      on_end None f = absurd cc
      on_end (Some end) f = on_source end (source_of routers tables router end) f

  pub session_place : (k : SessionRow) → session_at routers tables router place ≡ Some k → k.neighbor ≡ place
  session_place k e = on_side (side_at routers tables router place) refl e
    where
      on_met : (sides : Sides) (b : Bool) → cond b (Some (session_of sides)) None ≡ Some k → k.neighbor ≡ sides.own.place
      on_met sides true f = let same : session_of sides ≡ k = cc in sym (ap (λ (row : SessionRow). row.neighbor) same)
      on_met sides false f = absurd cc

      on_peer : (own : Side) (o : Option Side) → option_and_then (λ peer. cond (are_met (conditions_of routers tables (record { own = own; peer = peer }))) (Some (session_of (record { own = own; peer = peer }))) None) o ≡ Some k → k.neighbor ≡ own.place
      on_peer own None f = absurd cc
      on_peer own (Some peer) f = on_met (record { own = own; peer = peer }) (are_met (conditions_of routers tables (record { own = own; peer = peer }))) f

      on_side : (o : Option Side) → side_at routers tables router place ≡ o → option_and_then (λ own. option_and_then (λ peer. cond (are_met (conditions_of routers tables (record { own = own; peer = peer }))) (Some (session_of (record { own = own; peer = peer }))) None) (peer_of routers tables own)) o ≡ Some k → k.neighbor ≡ place
      on_side None is f = absurd cc
      on_side (Some own) is f = on_peer own (peer_of routers tables own) f ∙ side_place own is

sessions_rise : (routers : List ConfigView) (tables : List (List BaseRow)) (router : ℕ) → AreSessions (sessions_of routers tables router)
sessions_rise routers tables router = made_rise (session_at routers tables router) (λ (k : SessionRow). k.neighbor) (session_place routers tables router) 0 _

all_rise : (routers : List ConfigView) (tables : List (List BaseRow)) → All AreSessions (sessions routers tables)
all_rise routers tables = all_by_in AreSessions (sessions routers tables) (λ rows i. let r = in_by_map (sessions_of routers tables) (range_with_len 0 (length routers)) rows i in subst AreSessions r.2 (sessions_rise routers tables r.0))

-- ---- no fact stands before itself

not_itself : (fact : Fact) → IsNearer fact fact → ⊥
not_itself (Main router row) lt = let less : row < row = lt in omega arith
not_itself (Session router place) lt = let less : place < place = lt in omega arith
not_itself (Entry router place prefix) (inl lt) = let less : place < place = lt in omega arith
not_itself (Entry router place prefix) (inr later) = no_less prefix later.1
  where
    no_less : (p : Cidr) → prefix_cmp p p ≡ Less → ⊥
    no_less p e = let differs : false ≡ true = sym (less_differs p p e) ∙ same_itself p in cc
not_itself (Element e) never = never
not_itself (Connected router iface) never = never
not_itself (Static router place) never = never
not_itself (Base router row) never = never
not_itself (Resolve router addr) never = never
not_itself (NetSource router prefix) never = never
not_itself (Reach router addr hops) never = never
not_itself (Hop router addr row hops) never = never
not_itself (Origin router place) never = never
not_itself (Contrib router place) never = never
not_itself (Aggregate router place) never = never
not_itself (Message router place prefix) never = never
not_itself (Chosen router prefix place) never = never
not_itself (Step router addr way hops) never = never
not_itself (Trace router addr hops) never = never
not_itself (AllStep router addr way hops) never = never
not_itself (AllTrace router addr hops) never = never
not_itself (Pass inward router iface from to) never = never
not_itself (FlowStep hops router from to way) never = never
not_itself (Flow router from to hops) never = never

before_differs : (fact other : Fact) → IsBefore fact other → fact ≢ other
before_differs fact other before same = on (subst (IsBefore fact) (sym same) before)
  where
    on : IsBefore fact fact → ⊥
    on (inl lt) = let less : router_of fact < router_of fact = lt in omega arith
    on (inr nearer) = not_itself fact nearer.1

-- ---- the roots of one router

module _ (s : StateView) (is : IsState s) (router : ℕ) where
  pub sessions_in_order : AreSessions (sessions_at s router)
  unfolding state_at
  sessions_in_order = elim (cases_lt router (length s.sessions)) [
    | inl lt ↦ All-get_or AreSessions s.sessions router [] lt (subst (All AreSessions) (sym (ap (λ (t : StateView). t.sessions) is.tables)) (all_rise s.routers (base_tables s.routers)))
    | inr past ↦ subst AreSessions (sym (get_or_past s.sessions router [] past)) (no_pairs (λ (a b : SessionRow). a.neighbor < b.neighbor))
  ]

  unfoldable pub AreOrdered : List BgpRowView → Type 0
  AreOrdered rows = AllPairs (λ (a b : BgpRowView). prefix_cmp a.prefix b.prefix ≡ Less) rows

  pub rows_in_order : (peer : ℕ) → AreOrdered (bgp_rows s peer)
  unfolding AreOrdered
  rows_in_order peer = elim (cases_lt peer (length s.bgp)) [
    | inl lt ↦ (All-get_or AreBgpRows s.bgp peer [] lt is.rows).ordered
    | inr past ↦ subst (AllPairs (λ (a b : BgpRowView). prefix_cmp a.prefix b.prefix ≡ Less)) (sym (get_or_past s.bgp peer [] past)) (no_pairs (λ (a b : BgpRowView). prefix_cmp a.prefix b.prefix ≡ Less))
  ]

  -- what the facts of each kind are
  row_made : (fact : Fact) → In fact (row_facts s router) → (row : ℕ) × (Main (record { 0 = router }) row ≡ fact)
  row_made fact i = let r = in_by_map (Main (record { 0 = router })) (range_with_len 0 (length (main_rows s router))) fact i in (r.0, r.2)

  session_made : (fact : Fact) → In fact (session_facts s router) → (place : ℕ) × (Session (record { 0 = router }) place ≡ fact)
  session_made fact i = let r = in_by_map (λ (k : SessionRow). Session (record { 0 = router }) k.neighbor) (sessions_at s router) fact i in (r.0.neighbor, r.2)

  over_made : (k : SessionRow) (fact : Fact) → In fact (entries_over s router k) → (prefix : Cidr) × (Entry (record { 0 = router }) k.neighbor prefix ≡ fact)
  over_made k fact i =
      let make : BgpRowView → Fact = λ row. Entry (record { 0 = router }) k.neighbor row.prefix in
      let kept = in_by_filter (holds s) (map make (bgp_rows s k.peer.0)) fact i in
      let r = in_by_map make (bgp_rows s k.peer.0) fact kept.0 in
      (r.0.prefix, r.2)

  entry_made : (fact : Fact) → In fact (entry_facts s router) → (place : ℕ) × (prefix : Cidr) × (Entry (record { 0 = router }) place prefix ≡ fact)
  entry_made fact i =
      let over = in_by_flat_map (entries_over s router) (sessions_at s router) fact i in
      let r = over_made over.0 fact over.2 in
      (over.0.neighbor, r.0, r.1)

  -- those of each kind stand in order
  rows_before : AllPairs IsBefore (row_facts s router)
  rows_before =
      pairs_made (λ (a b : ℕ). a < b) IsBefore (Main (record { 0 = router })) (λ a b lt. inr (refl, lt)) (range_with_len 0 (length (main_rows s router)))
      (range_rises 0 (length (main_rows s router)))

  sessions_before : AllPairs IsBefore (session_facts s router)
  sessions_before =
      pairs_made (λ (a b : SessionRow). a.neighbor < b.neighbor) IsBefore (λ (k : SessionRow). Session (record { 0 = router }) k.neighbor) (λ a b lt. inr (refl, lt)) (sessions_at s router) sessions_in_order

  over_before : (k : SessionRow) → AllPairs IsBefore (entries_over s router k)
  unfolding AreOrdered
  over_before k =
      let make : BgpRowView → Fact = λ row. Entry (record { 0 = router }) k.neighbor row.prefix in
      AllPairs-filter IsBefore (holds s) (map make (bgp_rows s k.peer.0))
      (pairs_made (λ (a b : BgpRowView). prefix_cmp a.prefix b.prefix ≡ Less) IsBefore make (λ a b lt. inr (refl, inr (refl, lt))) (bgp_rows s k.peer.0) (rows_in_order k.peer.0))

  entries_before : AllPairs IsBefore (entry_facts s router)
  entries_before =
      pairs_parts (λ (a b : SessionRow). a.neighbor < b.neighbor) IsBefore (entries_over s router) over_before
      (λ a b lt y z i j.
      let first = over_made a y i in
      let next = over_made b z j in
      subst (λ (f : Fact). IsBefore f z) first.1 (subst (IsBefore (Entry (record { 0 = router }) a.neighbor first.0)) next.1 (inr (refl, inl lt))))
      (sessions_at s router) sessions_in_order

  -- and one kind before another
  session_first : (fact other : Fact) → In fact (session_facts s router) → In other (entry_facts s router) → IsBefore fact other
  session_first fact other i j =
      let first = session_made fact i in
      let next = entry_made other j in
      subst (λ (f : Fact). IsBefore f other) first.1 (subst (IsBefore (Session (record { 0 = router }) first.0)) next.2 (inr (refl, tt)))

  row_first : (fact other : Fact) → In fact (row_facts s router) → In other (session_facts s router ++ entry_facts s router) → IsBefore fact other
  row_first fact other i j =
      let first = row_made fact i in
      subst (λ (f : Fact). IsBefore f other) first.1
      (elim (in_either (session_facts s router) (entry_facts s router) other j) [
        | inl k ↦ let next = session_made other k in subst (IsBefore (Main (record { 0 = router }) first.0)) next.1 (inr (refl, tt))
        | inr k ↦ let next = entry_made other k in subst (IsBefore (Main (record { 0 = router }) first.0)) next.2 (inr (refl, tt))
      ])

  of_router_before : AllPairs IsBefore (roots_of s router)
  of_router_before =
      pairs_joined IsBefore (row_facts s router) (session_facts s router ++ entry_facts s router) rows_before
      (pairs_joined IsBefore (session_facts s router) (entry_facts s router) sessions_before entries_before session_first) row_first

  -- all are of the router
  router_is : (fact : Fact) → In fact (roots_of s router) → router_of fact ≡ router
  router_is fact i = elim (in_either (row_facts s router) (session_facts s router ++ entry_facts s router) fact i) [
    | inl j ↦ sym (ap router_of (row_made fact j).1)
    | inr j ↦ elim (in_either (session_facts s router) (entry_facts s router) fact j) [
      | inl k ↦ sym (ap router_of (session_made fact k).1)
      | inr k ↦ sym (ap router_of (entry_made fact k).2)
    ]
  ]

-- ---- all roots

module _ (s : StateView) (is : IsState s) where
  pub roots_before : AllPairs IsBefore (roots s)
  unfolding roots
  roots_before =
      pairs_parts (λ (a b : ℕ). a < b) IsBefore (roots_of s) (of_router_before s is)
      (λ a b lt y z i j. inl (omega (arith, lt, router_is s is a y i, router_is s is b z j))) (range_with_len 0 (length s.routers)) (range_rises 0 (length s.routers))

  pub roots_differ : AllPairs (λ (fact other : Fact). fact ≢ other) (roots s)
  roots_differ i j d before there = before_differs (get_or (roots s) i d) (get_or (roots s) j d) (roots_before i j d before there)
