-- What is known of the senders to the statements of a router, one behind the other.
use Rattle.std.proofs.Common.{◌≡◌, ℕ, zero, suc, ◌<◌, ◌≤◌, true, List, [], ◌∷◌, ◌++◌, length, map, Option, Some, None, slice_get, refl, sym, ap, subst, ◌∙◌, arith, inl, inr}
use Rattle.std.specs.Prelude.{is_some, option_and_then}
use Rattle.std.specs.Global.{Vec}
use Rattle.std.specs.Option.{option_map, option_map_or}
use Rattle.nc_types.specs.Config.{ConfigView, ProcessView}
use Rattle.nc_types.specs.Network.{up_at}
use Rattle.nc_types.specs.declared.config.Neighbor.{Neighbor}
use Rattle.std.proofs.lemmas.Option.{slice_get-map, slice_get_cases, slice_get_past, slice_get_within}
use Rattle.nc_tables.specs.declared.base.BaseRow.{BaseRow}
use Rattle.nc_tables.specs.declared.bgp.SessionRow.{SessionRow}
use Rattle.nc_message.specs.declared.adjacencies.Sender.{Sender}
use Rattle.nc_tables.specs.Rounds.{Link, link_at, session_by}
use Rattle.nc_tables.specs.Sessions.{End, end_at}
use Rattle.nc_sessions.specs.Statements.{neighbors_of, statements_of}
use Rattle.nc_message.specs.Adjacencies.{AreOfSessions, AreSenders, AreAdjacencies, HasEachSender, IsSenderAt}

-- one item more, where each has something by its place
pub numbered : {A : Type 0} (P : ℕ → A → Type 0) (xs ys : List A) (x : A) → ys ≡ xs ++ x ∷ [] → ((k : ℕ) (y : A) → slice_get xs k ≡ Some y → P k y) → P (length xs) x
    → (k : ℕ) (y : A) → slice_get ys k ≡ Some y → P k y
numbered {A} P xs ys x same each here k y at = on P xs each here k (sym (ap (λ (l : List A). slice_get l k) same) ∙ at)
  where
    on : (Q : ℕ → A → Type 0) (zs : List A) → ((j : ℕ) (z : A) → slice_get zs j ≡ Some z → Q j z) → Q (length zs) x → (j : ℕ) → slice_get (zs ++ x ∷ []) j ≡ Some y → Q j y
    on Q [] before last zero e = let is : x ≡ y = cc in subst (Q 0) is last
    on Q [] before last (suc j) e = absurd cc
    on Q (z ∷ zs) before last zero e = before zero y e
    on Q (z ∷ zs) before last (suc j) e = on (λ n. Q (suc n)) zs (λ i w. before (suc i) w) last j e

module _ (routers : List ConfigView) (tables : List (List BaseRow)) (sessions : List (List SessionRow)) where
  none_known : (router place : ℕ) → IsSenderAt routers tables sessions router place None
  none_known router place k is = tt

  sender_of_row : (router : ℕ) (row : List (Option Sender)) → AreSenders routers tables sessions router row → (place : ℕ) → IsSenderAt routers tables sessions router place (option_and_then (λ (o : Option Sender). o) (slice_get row place))
  sender_of_row router row are place = by_place (slice_get row place) refl
    where
      by_place : (p : Option (Option Sender)) → slice_get row place ≡ p → IsSenderAt routers tables sessions router place (option_and_then (λ (o : Option Sender). o) p)
      by_place None at = none_known router place
      by_place (Some o) at = are place o at

  -- the senders to all routers, one behind the other
  pub all_senders : (rows : List (Vec (Option Sender))) → ((router : ℕ) (row : Vec (Option Sender)) → slice_get rows router ≡ Some row → AreSenders routers tables sessions router row.items)
      → AreAdjacencies routers tables sessions (map (λ (row : Vec (Option Sender)). row.items) rows)
  all_senders rows each router place = subst
      (λ (p : Option (List (Option Sender))). IsSenderAt routers tables sessions router place (option_and_then (λ (q : List (Option Sender)). option_and_then (λ (o : Option Sender). o) (slice_get q place)) p))
      (sym (slice_get-map (λ (row : Vec (Option Sender)). row.items) rows router)) (by_router (slice_get rows router) refl)
    where
      by_router : (p : Option (Vec (Option Sender))) → slice_get rows router ≡ p → IsSenderAt routers tables sessions router place (option_and_then (λ (q : List (Option Sender)). option_and_then (λ (o : Option Sender). o) (slice_get q place)) (option_map (λ (row : Vec (Option Sender)). row.items) p))
      by_router None at = none_known router place
      by_router (Some row) at = sender_of_row router row.items (each router row at) place

-- ---- a session has its statement

module _ (routers : List ConfigView) where
  end_within : (router place : ℕ) (e : End) → end_at routers router place ≡ Some e → place < length (statements_of routers router)
  end_within router place e = on_config (slice_get routers router)
    where
      on_statement : (c : ConfigView) (p : ProcessView) (o : Option Neighbor) → slice_get p.neighbors place ≡ o → option_map (λ n. record { config = c; process = p; statement = n }) o ≡ Some e → place < length p.neighbors
      on_statement c p None is f = absurd cc
      on_statement c p (Some n) is f = slice_get_within p.neighbors place n is

      on_process : (c : ConfigView) (o : Option ProcessView) → option_and_then (λ p. option_map (λ n. record { config = c; process = p; statement = n }) (slice_get p.neighbors place)) o ≡ Some e → place < length (option_map_or (λ (p : ProcessView). p.neighbors) o [])
      on_process c None f = absurd cc
      on_process c (Some p) f = on_statement c p (slice_get p.neighbors place) refl f

      on_config : (o : Option ConfigView) → option_and_then (λ c. option_and_then (λ p. option_map (λ n. record { config = c; process = p; statement = n }) (slice_get p.neighbors place)) c.process) o ≡ Some e → place < length (option_map_or neighbors_of o [])
      on_config None f = absurd cc
      on_config (Some c) f = on_process c c.process f

  module _ (sessions : List (List SessionRow)) where
    abbrev link_with : ℕ → ℕ → SessionRow → End → Option Link
    link_with router place s receiver =
        option_and_then (λ sender. option_map (λ source. record { session = s; receiver = receiver; sender = sender; source = source.addr.0 })
        (up_at routers s.peer.0 s.peer_source.0)) (end_at routers s.peer.0 s.peer_neighbor)

    pub linked_within : (router place : ℕ) (k : Link) → link_at routers sessions router place ≡ Some k → place < length (statements_of routers router)
    linked_within router place k = on_session (session_by sessions router place)
      where
        on_end : (s : SessionRow) (o : Option End) → end_at routers router place ≡ o → option_and_then (link_with router place s) o ≡ Some k → place < length (statements_of routers router)
        on_end s None is f = absurd cc
        on_end s (Some e) is f = end_within router place e is

        on_session : (o : Option SessionRow) → option_and_then (λ s. option_and_then (link_with router place s) (end_at routers router place)) o ≡ Some k → place < length (statements_of routers router)
        on_session None f = absurd cc
        on_session (Some s) f = on_end s (end_at routers router place) refl f

    -- behind the last statement there is none
    pub none_linked_past : (router place : ℕ) → length (statements_of routers router) ≤ place → None ≡ link_at routers sessions router place
    none_linked_past router place past = on (link_at routers sessions router place) refl
      where
        on : (o : Option Link) → link_at routers sessions router place ≡ o → None ≡ o
        on None is = refl
        on (Some k) is = absurd (omega (arith, linked_within router place k is))

    -- so something is known of its sender
    row_known : (router : ℕ) (row : List (Option Sender)) → AreOfSessions routers sessions router row → (place : ℕ) (k : Link) → link_at routers sessions router place ≡ Some k → is_some (option_and_then (λ (o : Option Sender). o) (slice_get row place)) ≡ true
    row_known router row are place k e = elim (slice_get_cases row place).1 [
      | inl r ↦
          ap (λ (p : Option (Option Sender)). is_some (option_and_then (λ (o : Option Sender). o) p)) r.2
          ∙ are.known place r.0 r.2 ∙ ap (λ (o : Option Link). is_some o) e
      | inr r ↦ let past : length row ≤ place = r.0 in absurd (omega (arith, linked_within router place k e, are.count))
    ]

    none_beyond : (router : ℕ) → length routers ≤ router → length (statements_of routers router) ≡ 0
    none_beyond router le = ap (λ (o : Option ConfigView). length (option_map_or neighbors_of o [])) (slice_get_past routers router le)

    pub all_known : (rows : List (Vec (Option Sender))) → length rows ≡ length routers → ((router : ℕ) (row : Vec (Option Sender)) → slice_get rows router ≡ Some row → AreOfSessions routers sessions router row.items)
        → HasEachSender routers sessions (map (λ (row : Vec (Option Sender)). row.items) rows)
    all_known rows count each router place k e = elim (slice_get_cases rows router).1 [
      | inl r ↦
          ap (λ (p : Option (List (Option Sender))). is_some (option_and_then (λ (q : List (Option Sender)). option_and_then (λ (o : Option Sender). o) (slice_get q place)) p))
          (slice_get-map (λ (row : Vec (Option Sender)). row.items) rows router ∙ ap (option_map (λ (row : Vec (Option Sender)). row.items)) r.2)
          ∙ row_known router r.0.items (each router r.0 r.2) place k e
      | inr r ↦ let past : length rows ≤ router = r.0 in absurd (omega (arith, linked_within router place k e, none_beyond router (omega (arith, past, count))))
    ]
