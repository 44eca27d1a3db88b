-- A row of the next table is made of what peers choose of its prefix, and of what the router chooses inside its aggregates.
use Rattle.std.proofs.Common.{◌≡◌, ℕ, suc, ◌<◌, Bool, true, false, cond, ◌&&◌, nat_lt, List, [], ◌∷◌, ◌++◌, length, Contains, Option, Some, None, refl, sym, ap, subst, ◌∙◌, arith, inl, inr}
use Rattle.std.specs.List.{list_any, slice_index_or}
use Rattle.std.specs.Option.{option_map, option_map_or, option_and_then}
use Rattle.std.proofs.lemmas.Bool.{and_parts, and_from, lt-ltb}
use Rattle.std.proofs.lemmas.List.Elements.{All-nil, All-head, All-tail}
use Rattle.nc_types.specs.Cidr.{Cidr, same_prefix}
use Rattle.nc_types.specs.Config.{ConfigView, ProcessView}
use Rattle.nc_types.specs.declared.config.AggregateStatement.{AggregateStatement}
use Rattle.nc_types.proofs.Members.{In, contains_by_in, some_passes, passes_some}
use Rattle.nc_types.proofs.Sameness.{same_prefix_is}
use Rattle.nc_types.proofs.Truth.{same_truth}
use Rattle.nc_tables.specs.declared.base.BaseRow.{BaseRow}
use Rattle.nc_tables.specs.declared.bgp.SessionRow.{SessionRow}
use Rattle.nc_tables.specs.declared.bgp.Chosen.{Chosen}
use Rattle.nc_tables.specs.declared.bgp.BgpFrom.TheVariants.{Aggregate}
use Rattle.nc_tables.specs.Sessions.{first_of, process_of}
use Rattle.nc_tables.specs.Rounds.{BgpRowView, Link, Message, made_from, chosen_in, chosen_at, is_active, is_longer_in, session_by, link_at, message_of, message_at, accepted_of, accepted_at, learnt_from, entry_at, begun, origin_at, aggregate_at, candidates_at, chosen_by, chosen_anew, row_of, row_at}
use Rattle.nc_tables.proofs.ByPrefix.{same_itself}
use Rattle.nc_tables.proofs.InOrder.{HaveSome, at_head, past_head}
use Rattle.nc_decision.proofs.Beside.{chosen_by_process}
use Rattle.nc_message.proofs.PeerFirst.{link_session}
use Rattle.nc_round.specs.Waking.{aggregates_of}
use Rattle.nc_round.specs.Changes.{HaveCandidates, ReadAlike}
use Rattle.nc_round.proofs.Lists.{all_at}

-- ---- rows and what is found

-- a row with candidates lets something be found of its prefix
some_found : (rows : List BgpRowView) (row : BgpRowView) → HaveSome rows → In row rows → 0 < length (chosen_in rows row.prefix)
some_found [] row some i = absurd i
some_found (r ∷ rows) row some i = on (same_prefix r.prefix row.prefix) refl (some_found rows row (All-tail (λ (x : BgpRowView). 0 < length x.chosen) r rows some)) i
  where
    on : (b : Bool) → same_prefix r.prefix row.prefix ≡ b → (In row rows → 0 < length (chosen_in rows row.prefix)) → In row (r ∷ rows) → 0 < length (chosen_in (r ∷ rows) row.prefix)
    on true same rest j = subst (λ (cs : List Chosen). 0 < length cs) (sym (at_head r rows row.prefix same)) (All-head (λ (x : BgpRowView). 0 < length x.chosen) r rows some)
    on false other rest (inl e) = let same : same_prefix r.prefix row.prefix ≡ true = ap (λ (x : BgpRowView). same_prefix r.prefix x.prefix) (sym e) ∙ same_itself r.prefix in absurd cc
    on false other rest (inr j) = subst (λ (cs : List Chosen). 0 < length cs) (sym (past_head r rows row.prefix other)) (rest j)

-- where something is found there is a row with it
row_found : (rows : List BgpRowView) (q : Cidr) → 0 < length (chosen_in rows q) → (row : BgpRowView) × In row rows × (row.prefix ≡ q) × (chosen_in rows q ≡ row.chosen)
row_found [] q some = absurd (omega arith)
row_found (r ∷ rows) q some = on (same_prefix r.prefix q) refl (row_found rows q)
  where
    on : (b : Bool) → same_prefix r.prefix q ≡ b → (0 < length (chosen_in rows q) → (row : BgpRowView) × In row rows × (row.prefix ≡ q) × (chosen_in rows q ≡ row.chosen))
        → (row : BgpRowView) × In row (r ∷ rows) × (row.prefix ≡ q) × (chosen_in (r ∷ rows) q ≡ row.chosen)
    on true same rest = (r, inl refl, same_prefix_is r.prefix q same, at_head r rows q same)
    on false other rest =
        let past = past_head r rows q other in
        let found = rest (subst (λ (cs : List Chosen). 0 < length cs) past some) in
        (found.0, inr found.1, found.2, past ∙ found.3)

-- ---- aggregates

module _ (a : AggregateStatement) where
  abbrev passes : BgpRowView → Bool
  passes row = is_longer_in row.prefix a.prefix && nat_lt 0 (length row.chosen)

  active_there : (old new : List BgpRowView) → HaveSome old → ((q : Cidr) → is_longer_in q a.prefix ≡ true → chosen_in old q ≡ chosen_in new q) → list_any passes old ≡ true → list_any passes new ≡ true
  active_there old new some same e =
      let found = some_passes passes old e in
      let longer = (and_parts (is_longer_in found.0.prefix a.prefix) (nat_lt 0 (length found.0.chosen)) found.2).0 in
      let here : 0 < length (chosen_in new found.0.prefix) = subst (λ (cs : List Chosen). 0 < length cs) (same found.0.prefix longer) (some_found old found.0 some found.1) in
      let row = row_found new found.0.prefix here in
      let count : 0 < length row.0.chosen = subst (λ (cs : List Chosen). 0 < length cs) row.3 here in
      passes_some passes new row.0 row.1 (and_from (is_longer_in row.0.prefix a.prefix) (nat_lt 0 (length row.0.chosen)) (ap (λ (q : Cidr). is_longer_in q a.prefix) row.2 ∙ longer) (lt-ltb 0 (length row.0.chosen) count))

  active_alike : (old new : List BgpRowView) → HaveSome old → HaveSome new → ((q : Cidr) → is_longer_in q a.prefix ≡ true → chosen_in old q ≡ chosen_in new q) → list_any passes old ≡ list_any passes new
  active_alike old new some_old some_new same =
      same_truth (list_any passes old) (list_any passes new) (active_there old new some_old same) (active_there new old some_new (λ q longer. sym (same q longer)))

-- ---- lists

pub made_alike : {A B : Type 0} (f g : ℕ → A → Option B) (place : ℕ) (xs : List A) → ((k : ℕ) (x : A) → In x xs → f k x ≡ g k x) → made_from f place xs ≡ made_from g place xs
made_alike f g place [] same = refl
made_alike {A} {B} f g place (x ∷ xs) same =
    ap (λ (o : Option B). option_map_or (λ (y : B). y ∷ made_from f (suc place) xs) o (made_from f (suc place) xs)) (same place x (inl refl))
    ∙ ap (λ (l : List B). option_map_or (λ (y : B). y ∷ l) (g place x) l) (made_alike f g (suc place) xs (λ k y i. same k y (inr i)))

-- ---- a row

-- the message over a session, where its sender has a table
abbrev sent_from : List (List BgpRowView) → Cidr → Link → Option Message
sent_from table prefix k = option_and_then (message_of k) (first_of (chosen_at table k.session.peer.0 prefix))

module _ (routers : List ConfigView) (tables : List (List BaseRow)) (sessions : List (List SessionRow)) (old new : List (List BgpRowView)) (router : ℕ) (prefix : Cidr) where
  -- over a session of whose peer the same is read the same is learnt
  module _ (place : ℕ) (heard : (s : SessionRow) → session_by sessions router place ≡ Some s → chosen_at old s.peer.0 prefix ≡ chosen_at new s.peer.0 prefix) where
    message_alike : message_at routers tables sessions old router place prefix ≡ message_at routers tables sessions new router place prefix
    unfolding message_at
    message_alike = on (link_at routers sessions router place) refl
      where
        on : (o : Option Link) → link_at routers sessions router place ≡ o → option_and_then (sent_from old prefix) o ≡ option_and_then (sent_from new prefix) o
        on None e = refl
        on (Some k) e = ap (λ (cs : List Chosen). option_and_then (message_of k) (first_of cs)) (heard k.session (link_session routers sessions router place k e))

    pub entry_alike : entry_at routers tables sessions old router place prefix ≡ entry_at routers tables sessions new router place prefix
    unfolding accepted_at
    entry_alike = ap (λ (o : Option Message). option_map (learnt_from place) (option_and_then (accepted_of tables router) o)) message_alike

  module _ (some_old : HaveCandidates old) (some_new : HaveCandidates new) where
    have_some : (table : List (List BgpRowView)) → HaveCandidates table → HaveSome (slice_index_or table router [])
    have_some table each = all_at HaveSome (All-nil (λ (row : BgpRowView). 0 < length row.chosen)) table each router

    module _ (inside : (a : AggregateStatement) (q : Cidr) → Contains (aggregates_of routers router) a → same_prefix a.prefix prefix ≡ true → is_longer_in q a.prefix ≡ true → chosen_at old router q ≡ chosen_at new router q) where
      aggregate_alike : (place : ℕ) (a : AggregateStatement) → In a (aggregates_of routers router) → aggregate_at routers tables sessions old router place a prefix ≡ aggregate_at routers tables sessions new router place a prefix
      aggregate_alike place a i = on (same_prefix a.prefix prefix) refl
        where
          on : (b : Bool) → same_prefix a.prefix prefix ≡ b → cond (b && is_active old router a) (Some (begun prefix (Aggregate place))) None ≡ cond (b && is_active new router a) (Some (begun prefix (Aggregate place))) None
          on true same =
              ap (λ (b : Bool). cond b (Some (begun prefix (Aggregate place))) None)
              (active_alike a (slice_index_or old router []) (slice_index_or new router []) (have_some old some_old) (have_some new some_new) (λ q longer. inside a q (contains_by_in (aggregates_of routers router) a i) same longer))
          on false other = refl

      pub aggregates_alike : (p : ProcessView) → process_of routers router ≡ Some p
          → made_from (λ place a. aggregate_at routers tables sessions old router place a prefix) 0 p.aggregates ≡ made_from (λ place a. aggregate_at routers tables sessions new router place a prefix) 0 p.aggregates
      aggregates_alike p e =
          let own : p.aggregates ≡ aggregates_of routers router = sym (ap (λ (o : Option ProcessView). option_map_or (λ (q : ProcessView). q.aggregates) o []) e) in
          made_alike (λ place a. aggregate_at routers tables sessions old router place a prefix) (λ place a. aggregate_at routers tables sessions new router place a prefix) 0 p.aggregates (λ k a i. aggregate_alike k a (subst (In a) own i))

    module _ (alike : ReadAlike routers tables sessions old new router prefix) where
      candidates_alike : (p : ProcessView) → process_of routers router ≡ Some p → candidates_at routers tables sessions old router p prefix ≡ candidates_at routers tables sessions new router p prefix
      candidates_alike p e =
          ap (λ (l : List Chosen). made_from (λ place n. origin_at routers tables sessions old router place n prefix) 0 p.networks ++ (l ++ made_from (λ place n. entry_at routers tables sessions old router place prefix) 0 p.neighbors))
          (aggregates_alike alike.inside p e)
          ∙ ap (λ (l : List Chosen). made_from (λ place n. origin_at routers tables sessions old router place n prefix) 0 p.networks ++ (made_from (λ place a. aggregate_at routers tables sessions new router place a prefix) 0 p.aggregates ++ l))
          (made_alike (λ place n. entry_at routers tables sessions old router place prefix) (λ place n. entry_at routers tables sessions new router place prefix) 0 p.neighbors (λ k n i. entry_alike k (alike.heard k)))

      pub chosen_alike : chosen_anew routers tables sessions old router prefix ≡ chosen_anew routers tables sessions new router prefix
      chosen_alike = chosen_by_process routers tables sessions old new router prefix (λ p e. ap (chosen_by p) (candidates_alike p e))

      pub row_alike : row_at routers tables sessions old router prefix ≡ row_at routers tables sessions new router prefix
      row_alike = ap (row_of prefix) chosen_alike
