-- What a router accepts over a session, asked row by row of its peer, is that of which the facts hold.
use Rattle.std.proofs.Common.{◌≡◌, ℕ, ◌<◌, Bool, true, false, cond, ◌==◌, List, [], ◌∷◌, map, filter, AllPairs, Option, Some, None, refl, sym, ap, ◌∙◌, arith, inl, inr}
use Rattle.std.specs.List.{find}
use Rattle.std.specs.Option.{is_some, option_and_then, option_map_or}
use Rattle.std.specs.declared.cmp.Ordering.TheVariants.{Less}
use Rattle.std.proofs.lemmas.Bool.{eq-eqb, ne_eqb}
use Rattle.nc_types.proofs.Members.{In, all_in}
use Rattle.nc_tables.specs.declared.bgp.Chosen.{Chosen as ChosenRoute}
use Rattle.nc_tables.specs.declared.bgp.SessionRow.{SessionRow}
use Rattle.nc_tables.specs.Base.{same_prefix, prefix_cmp}
use Rattle.nc_tables.specs.Rounds.{BgpRowView, Link, accepted_at, accepted_of, best_at, chosen_at, link_at, message_at, message_of, session_by}
use Rattle.nc_tables.specs.Sessions.{first_of}
use Rattle.nc_tables.specs.State.{StateView, IsState}
use Rattle.nc_tables.proofs.ByPrefix.{less_differs, same_itself, pairs_head, pairs_tail}
use Rattle.nc_message.proofs.PeerFirst.{link_session}
use Rattle.nc_fact.specs.declared.fact.Fact.TheVariants.{Entry}
use Rattle.nc_fact.specs.Accepting.{accepts, entries_by}
use Rattle.nc_fact.specs.Facts.{holds}
use Rattle.nc_fact.specs.Roots.{sessions_at, bgp_rows, entries_over}
use Rattle.nc_fact.proofs.RootsOrder.{AreOrdered, sessions_in_order, rows_in_order}

-- ---- lists

-- an item that differs from all that stand before it is the first of its kind
found_itself : {X : Type 0} (R : X → X → Type 0) (same : X → X → Bool) → ((a b : X) → R a b → same a b ≡ false) → (xs : List X) → AllPairs R xs → (x : X) → In x xs → same x x ≡ true
    → find (λ (a : X). same a x) xs ≡ Some x
found_itself R same differs [] pairs x i own = absurd i
found_itself {X} R same differs (y ∷ xs) pairs x (inl is) own =
    ap (λ (b : Bool). cond b (Some y) (find (λ (a : X). same a x) xs)) (ap (λ (a : X). same a x) is ∙ own) ∙ ap Some is
found_itself {X} R same differs (y ∷ xs) pairs x (inr i) own =
    ap (λ (b : Bool). cond b (Some y) (find (λ (a : X). same a x) xs)) (differs y x (all_in (R y) xs (pairs_head R y xs pairs) x i))
    ∙ found_itself R same differs xs (pairs_tail R y xs pairs) x i own

module _ {X Y : Type 0} (make : X → Y) (has : Y → Bool) where
  -- what is made of the items that pass is what passes of all that is made
  made_kept : (test : X → Bool) (xs : List X) → ((x : X) → In x xs → test x ≡ has (make x)) → map make (filter test xs) ≡ filter has (map make xs)
  made_kept test [] each = refl
  made_kept test (x ∷ xs) each = on (test x) (has (make x)) (each x (inl refl)) (made_kept test xs (λ y i. each y (inr i)))
    where
      on : (b h : Bool) → b ≡ h → map make (filter test xs) ≡ filter has (map make xs) → map make (cond b (x ∷ filter test xs) (filter test xs)) ≡ cond h (make x ∷ filter has (map make xs)) (filter has (map make xs))
      on true true e more = ap (λ (l : List Y). make x ∷ l) more
      on false false e more = more
      on true false e more = absurd cc
      on false true e more = absurd cc

  none_kept : (xs : List X) → ((x : X) → has (make x) ≡ false) → filter has (map make xs) ≡ []
  none_kept [] never = refl
  none_kept (x ∷ xs) never = ap (λ (b : Bool). cond b (make x ∷ filter has (map make xs)) (filter has (map make xs))) (never x) ∙ none_kept xs never

-- ---- over a session

module _ (s : StateView) (router : ℕ) where
  -- without its ends no such fact holds
  pub none_over : (k : SessionRow) → None ≡ link_at s.routers s.sessions router k.neighbor → entries_over s router k ≡ []
  unfolding holds accepted_at message_at
  none_over k none =
      none_kept (λ (row : BgpRowView). Entry (record { 0 = router }) k.neighbor row.prefix) (holds s) (bgp_rows s k.peer.0)
      (λ row. ap (λ (o : Option Link). is_some (option_and_then (accepted_of s.base router) (option_and_then (λ (l : Link). option_and_then (message_of l) (best_at s.bgp l.session.peer.0 row.prefix)) o))) (sym none))

  module _ (is : IsState s) where
    session_is : (k : SessionRow) → In k (sessions_at s router) → session_by s.sessions router k.neighbor ≡ Some k
    session_is k i =
        found_itself (λ (a b : SessionRow). a.neighbor < b.neighbor) (λ (a b : SessionRow). a.neighbor == b.neighbor) (λ a b lt. ne_eqb a.neighbor b.neighbor (λ same. omega arith))
        (sessions_at s router) (sessions_in_order s is router) k i (eq-eqb k.neighbor k.neighbor refl)

    row_is : (peer : ℕ) (row : BgpRowView) → In row (bgp_rows s peer) → chosen_at s.bgp peer row.prefix ≡ row.chosen
    unfolding AreOrdered
    row_is peer row i =
        ap (λ (o : Option BgpRowView). option_map_or (λ (r : BgpRowView). r.chosen) o [])
        (found_itself (λ (a b : BgpRowView). prefix_cmp a.prefix b.prefix ≡ Less) (λ (a b : BgpRowView). same_prefix a.prefix b.prefix) (λ a b less. less_differs a.prefix b.prefix less)
        (bgp_rows s peer) (rows_in_order s is router peer) row i (same_itself row.prefix))

    module _ (k : SessionRow) (own : In k (sessions_at s router)) (l : Link) (ends : Some l ≡ link_at s.routers s.sessions router k.neighbor) where
      accepted_row : (row : BgpRowView) → In row (bgp_rows s k.peer.0) → accepts s.base router l row ≡ holds s (Entry (record { 0 = router }) k.neighbor row.prefix)
      unfolding holds accepted_at message_at
      accepted_row row there =
          let session : Some k ≡ Some l.session = sym (session_is k own) ∙ link_session s.routers s.sessions router k.neighbor l (sym ends) in
          let same : k ≡ l.session = cc in
          let best : first_of row.chosen ≡ best_at s.bgp l.session.peer.0 row.prefix =
          ap (λ (xs : List ChosenRoute). first_of xs) (sym (row_is k.peer.0 row there)) ∙ ap (λ (m : SessionRow). best_at s.bgp m.peer.0 row.prefix) same in
          ap (λ (o : Option ChosenRoute). is_some (option_and_then (accepted_of s.base router) (option_and_then (message_of l) o))) best
          ∙ ap (λ (o : Option Link). is_some (option_and_then (accepted_of s.base router) (option_and_then (λ (m : Link). option_and_then (message_of m) (best_at s.bgp m.session.peer.0 row.prefix)) o))) ends

      pub entries_are : entries_by s.base router k.neighbor l (bgp_rows s k.peer.0) ≡ entries_over s router k
      entries_are =
          made_kept (λ (row : BgpRowView). Entry (record { 0 = router }) k.neighbor row.prefix) (holds s) (accepts s.base router l) (bgp_rows s k.peer.0) accepted_row
