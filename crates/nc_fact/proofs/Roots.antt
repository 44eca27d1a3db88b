-- A fact is among the roots exactly where it is of one of their kinds and holds.
use Rattle.std.proofs.Common.{◌≡◌, ◌↔◌, ℕ, ◌+◌, ◌<◌, Bool, true, ◌==◌, List, [], ◌++◌, length, map, Contains, Option, Some, None, refl, sym, ap, subst, ◌∙◌, arith, inl, inr}
use Rattle.std.specs.List.{find, range_with_len}
use Rattle.std.specs.Option.{is_some, option_and_then, option_map_or}
use Rattle.std.proofs.lemmas.Bool.{cases_lt, eq-eqb, eqb-true, lt-ltb, ltb-true}
use Rattle.nc_types.proofs.Members.{In, in_left, in_right, in_either, in_map, in_filter, in_by_map, in_by_filter, in_by_flat_map, in_by_contains, contains_by_in, some_in, some_passes, passes_some}
use Rattle.nc_types.proofs.Sameness.{same_prefix_is}
use Rattle.nc_types.specs.Cidr.{Cidr}
use Rattle.nc_types.specs.declared.config.RouterId.{RouterId}
use Rattle.nc_tables.specs.declared.bgp.Chosen.{Chosen as ChosenRoute}
use Rattle.nc_tables.specs.declared.bgp.MainRow.{MainRow}
use Rattle.nc_tables.specs.declared.bgp.SessionRow.{SessionRow}
use Rattle.nc_tables.specs.Base.{same_prefix}
use Rattle.nc_tables.specs.Rounds.{BgpRowView, Message as SentMessage, accepted_at, accepted_of, chosen_in, message_at, session_by}
use Rattle.nc_tables.specs.Sessions.{first_of}
use Rattle.nc_tables.specs.State.{StateView, IsState}
use Rattle.nc_tables.proofs.Finding.{any_is_found}
use Rattle.nc_message.specs.Peers.{best_over}
use Rattle.nc_message.proofs.PeerFirst.{none_sent}
use Rattle.nc_fact.specs.declared.fact.Fact.{Fact}
use Rattle.nc_fact.specs.declared.fact.Fact.TheVariants.{Element, Connected, Static, Base, Resolve, NetSource, Reach, Hop, Session, Origin, Contrib, Aggregate, Message, Entry, Chosen, Main, Step, Trace, AllStep, AllTrace, Pass, FlowStep, Flow}
use Rattle.nc_fact.specs.Facts.{main_rows, holds}
use Rattle.nc_fact.specs.Roots.{IsRoot, sessions_at, bgp_rows, row_facts, session_facts, entries_over, entry_facts, roots_of, roots}
use Rattle.nc_fact.proofs.Beyond.{no_main, no_sessions}
use Rattle.nc_fact.proofs.Parts.{in_part, found_in, within, among_range}

module _ (s : StateView) where
  -- ---- the roots are of these kinds and hold

  abbrev IsHeld : Fact → Type 0
  IsHeld fact = IsRoot fact × (holds s fact ≡ true)

  row_held : (router : ℕ) (fact : Fact) → In fact (row_facts s router) → IsHeld fact
  unfolding holds
  row_held router fact i =
      let r = in_by_map (Main (record { 0 = router })) (range_with_len 0 (length (main_rows s router))) fact i in
      let below : r.0 < 0 + length (main_rows s router) = (within 0 (length (main_rows s router)) r.0 r.1).1 in
      subst IsHeld r.2 (tt, lt-ltb r.0 (length (main_rows s router)) (omega arith))

  session_held : (router : ℕ) (fact : Fact) → In fact (session_facts s router) → IsHeld fact
  unfolding holds
  session_held router fact i =
      let r = in_by_map (λ (k : SessionRow). Session (record { 0 = router }) k.neighbor) (sessions_at s router) fact i in
      let test : SessionRow → Bool = λ k. k.neighbor == r.0.neighbor in
      subst IsHeld r.2 (tt, sym (any_is_found test (sessions_at s router)) ∙ passes_some test (sessions_at s router) r.0 r.1 (eq-eqb r.0.neighbor r.0.neighbor refl))

  entry_held : (router : ℕ) (fact : Fact) → In fact (entry_facts s router) → IsHeld fact
  entry_held router fact i =
      let over = in_by_flat_map (entries_over s router) (sessions_at s router) fact i in
      let make : BgpRowView → Fact = λ row. Entry (record { 0 = router }) over.0.neighbor row.prefix in
      let kept = in_by_filter (holds s) (map make (bgp_rows s over.0.peer.0)) fact over.2 in
      let r = in_by_map make (bgp_rows s over.0.peer.0) fact kept.0 in
      (subst IsRoot r.2 tt, kept.1)

  of_router : (router : ℕ) (fact : Fact) → In fact (roots_of s router) → IsHeld fact
  of_router router fact i = elim (in_either (row_facts s router) (session_facts s router ++ entry_facts s router) fact i) [
    | inl j ↦ row_held router fact j
    | inr j ↦ elim (in_either (session_facts s router) (entry_facts s router) fact j) [ inl k ↦ session_held router fact k | inr k ↦ entry_held router fact k ]
  ]

  pub root_held : (fact : Fact) → In fact (roots s) → IsHeld fact
  unfolding roots
  root_held fact i = let r = in_by_flat_map (roots_of s) (range_with_len 0 (length s.routers)) fact i in of_router r.0 fact r.2

  -- ---- what is of these kinds and holds is a root

  among_roots : (fact : Fact) (router : ℕ) → router < length s.routers → In fact (roots_of s router) → In fact (roots s)
  unfolding roots
  among_roots fact router lt i = in_part (roots_of s) (range_with_len 0 (length s.routers)) fact (router, among_range 0 (length s.routers) router (omega arith) (omega arith), i)

  -- what is chosen of a prefix is chosen in a row
  row_with : (rows : List BgpRowView) (prefix : Cidr) (b : ChosenRoute) → first_of (chosen_in rows prefix) ≡ Some b → (row : BgpRowView) × (In row rows) × (row.prefix ≡ prefix)
  row_with rows prefix b e = on (find (λ row. same_prefix row.prefix prefix) rows) refl e
    where
      on : (o : Option BgpRowView) → find (λ row. same_prefix row.prefix prefix) rows ≡ o → first_of (option_map_or (λ row. row.chosen) o []) ≡ Some b → (row : BgpRowView) × (In row rows) × (row.prefix ≡ prefix)
      on None is f = absurd (cc)
      on (Some row) is f = let r = found_in (λ row. same_prefix row.prefix prefix) rows row is in (row, r.0, same_prefix_is row.prefix prefix r.1)

  -- a message is of a row of the peer of a session
  abbrev IsHeard : ℕ → ℕ → Cidr → Type 0
  IsHeard router place prefix = (session : SessionRow) × (row : BgpRowView) × (In session (sessions_at s router)) × (session.neighbor ≡ place) × (In row (bgp_rows s session.peer.0)) × (row.prefix ≡ prefix)

  heard : (router place : ℕ) (prefix : Cidr) (m : SentMessage) → message_at s.routers s.base s.sessions s.bgp router place prefix ≡ Some m → IsHeard router place prefix
  heard router place prefix m e = on_session (session_by s.sessions router place) refl (best_over s.bgp prefix (session_by s.sessions router place)) refl
    where
      on_session : (o : Option SessionRow) → session_by s.sessions router place ≡ o → (b : Option ChosenRoute) → best_over s.bgp prefix (session_by s.sessions router place) ≡ b → IsHeard router place prefix
      on_session o is None silent = absurd (let never : None ≡ Some m = none_sent s.routers s.base s.sessions s.bgp router place prefix (sym silent) ∙ e in cc)
      on_session None is (Some b) best = absurd (let never : None ≡ Some b = ap (best_over s.bgp prefix) (sym is) ∙ best in cc)
      on_session (Some session) is (Some b) best =
          let there = found_in (λ (k : SessionRow). k.neighbor == place) (sessions_at s router) session is in
          let row = row_with (bgp_rows s session.peer.0) prefix b (ap (best_over s.bgp prefix) (sym is) ∙ best) in
          (session, row.0, there.0, eqb-true session.neighbor place there.1, row.1, row.2)

  accepted_heard : (router place : ℕ) (prefix : Cidr) → is_some (accepted_at s.routers s.base s.sessions s.bgp router place prefix) ≡ true → IsHeard router place prefix
  unfolding accepted_at
  accepted_heard router place prefix e = on (message_at s.routers s.base s.sessions s.bgp router place prefix) refl e
    where
      on : (o : Option SentMessage) → message_at s.routers s.base s.sessions s.bgp router place prefix ≡ o → is_some (option_and_then (accepted_of s.base router) o) ≡ true → IsHeard router place prefix
      on None is f = absurd (cc)
      on (Some m) is f = heard router place prefix m is

  module _ (is : IsState s) where
    router_of_row : (router : ℕ) → 0 < length (main_rows s router) → router < length s.routers
    router_of_row router some = elim (cases_lt router (length s.routers)) [
      | inl lt ↦ lt
      | inr past ↦ absurd (let none : length (main_rows s router) ≡ 0 = ap (λ (rows : List MainRow). length rows) (no_main s is router past) in omega arith)
    ]

    router_of_session : (router : ℕ) → 0 < length (sessions_at s router) → router < length s.routers
    router_of_session router some = elim (cases_lt router (length s.routers)) [
      | inl lt ↦ lt
      | inr past ↦ absurd (let none : length (sessions_at s router) ≡ 0 = ap (λ (rows : List SessionRow). length rows) (no_sessions s is router past) in omega arith)
    ]

    row_listed : (router : RouterId) (row : ℕ) → holds s (Main router row) ≡ true → In (Main router row) (roots s)
    unfolding holds
    row_listed router row h =
        let below : row < length (main_rows s router.0) = ltb-true row (length (main_rows s router.0)) h in
        among_roots (Main router row) router.0 (router_of_row router.0 (omega arith))
        (in_left (row_facts s router.0) (session_facts s router.0 ++ entry_facts s router.0) (Main router row)
        (in_map (Main router) (range_with_len 0 (length (main_rows s router.0))) row (among_range 0 (length (main_rows s router.0)) row (omega arith) (omega arith))))

    session_listed : (router : RouterId) (place : ℕ) → holds s (Session router place) ≡ true → In (Session router place) (roots s)
    unfolding holds
    session_listed router place h =
        let rows : List SessionRow = sessions_at s router.0 in
        let r = some_passes (λ (k : SessionRow). k.neighbor == place) rows (any_is_found (λ (k : SessionRow). k.neighbor == place) rows ∙ h) in
        let here : In (Session router place) (session_facts s router.0) =
        subst (λ (n : ℕ). In (Session router n) (session_facts s router.0)) (eqb-true r.0.neighbor place r.2) (in_map (λ (k : SessionRow). Session router k.neighbor) rows r.0 r.1) in
        among_roots (Session router place) router.0 (router_of_session router.0 (some_in rows r.0 r.1))
        (in_right (row_facts s router.0) (session_facts s router.0 ++ entry_facts s router.0) (Session router place)
        (in_left (session_facts s router.0) (entry_facts s router.0) (Session router place) here))

    entry_in : (router : RouterId) (place : ℕ) (prefix : Cidr) → holds s (Entry router place prefix) ≡ true → IsHeard router.0 place prefix → In (Entry router place prefix) (roots s)
    entry_in router place prefix h from =
        let session = from.0 in
        let row = from.1 in
        let make : BgpRowView → Fact = λ r. Entry router session.neighbor r.prefix in
        let same : make row ≡ Entry router place prefix = ap (λ (n : ℕ). Entry router n row.prefix) from.3 ∙ ap (Entry router place) from.5 in
        let listed : In (Entry router place prefix) (map make (bgp_rows s session.peer.0)) = subst (λ (f : Fact). In f (map make (bgp_rows s session.peer.0))) same (in_map make (bgp_rows s session.peer.0) row from.4) in
        let kept = in_filter (holds s) (map make (bgp_rows s session.peer.0)) (Entry router place prefix) listed h in
        let here : In (Entry router place prefix) (entry_facts s router.0) = in_part (entries_over s router.0) (sessions_at s router.0) (Entry router place prefix) (session, from.2, kept) in
        among_roots (Entry router place prefix) router.0 (router_of_session router.0 (some_in (sessions_at s router.0) session from.2))
        (in_right (row_facts s router.0) (session_facts s router.0 ++ entry_facts s router.0) (Entry router place prefix)
        (in_right (session_facts s router.0) (entry_facts s router.0) (Entry router place prefix) here))

    entry_listed : (router : RouterId) (place : ℕ) (prefix : Cidr) → holds s (Entry router place prefix) ≡ true → In (Entry router place prefix) (roots s)
    unfolding holds
    entry_listed router place prefix h = entry_in router place prefix h (accepted_heard router.0 place prefix h)

    held_listed : (fact : Fact) → IsRoot fact → holds s fact ≡ true → In fact (roots s)
    held_listed (Main router row) root h = row_listed router row h
    held_listed (Session router place) root h = session_listed router place h
    held_listed (Entry router place prefix) root h = entry_listed router place prefix h
    held_listed (Element e) root h = absurd root
    held_listed (Connected router iface) root h = absurd root
    held_listed (Static router place) root h = absurd root
    held_listed (Base router row) root h = absurd root
    held_listed (Resolve router addr) root h = absurd root
    held_listed (NetSource router prefix) root h = absurd root
    held_listed (Reach router addr hops) root h = absurd root
    held_listed (Hop router addr row hops) root h = absurd root
    held_listed (Origin router place) root h = absurd root
    held_listed (Contrib router place) root h = absurd root
    held_listed (Aggregate router place) root h = absurd root
    held_listed (Message router place prefix) root h = absurd root
    held_listed (Chosen router prefix place) root h = absurd root
    held_listed (Step router addr way hops) root h = absurd root
    held_listed (Trace router addr hops) root h = absurd root
    held_listed (AllStep router addr way hops) root h = absurd root
    held_listed (AllTrace router addr hops) root h = absurd root
    held_listed (Pass inward router iface from to) root h = absurd root
    held_listed (FlowStep hops router from to way) root h = absurd root
    held_listed (Flow router from to hops) root h = absurd root

    pub roots_hold : (fact : Fact) → Contains (roots s) fact ↔ (IsRoot fact × (holds s fact ≡ true))
    roots_hold fact = ((λ c. root_held fact (in_by_contains (roots s) fact c)), (λ r. contains_by_in (roots s) fact (held_listed fact r.0 r.1)))
