-- The rows of the next table: in order, and of each prefix what is chosen anew.
use Rattle.std.proofs.Common.{◌≡◌, ◌⊎◌, ℕ, suc, ◌<◌, ◌≤◌, Bool, true, false, cond, ◌&&◌, List, [], ◌∷◌, ◌++◌, length, map, get_or, Option, Some, None, refl, sym, ap, subst, ◌∙◌, arith, inl, inr}
use Rattle.std.specs.List.{AllPairs, cons_option, filter_map, flat_map, list_any, slice_get}
use Rattle.std.specs.Option.{option_map, option_map_or, option_and_then}
use Rattle.std.specs.declared.cmp.Ordering.TheVariants.{Less}
use Rattle.std.proofs.lemmas.Bool.{cases_lt}
use Rattle.std.proofs.lemmas.List.Elements.{All-nil}
use Rattle.std.proofs.lemmas.List.FromFn.{length-map-range_with_len}
use Rattle.nc_types.specs.Cidr.{Cidr, same_prefix}
use Rattle.nc_types.specs.Config.{ConfigView, ProcessView}
use Rattle.nc_types.specs.declared.config.AggregateStatement.{AggregateStatement}
use Rattle.nc_types.specs.declared.config.NetworkStatement.{NetworkStatement}
use Rattle.nc_types.proofs.Members.{In, in_at, in_left, in_right, in_map, in_by_get}
use Rattle.nc_types.proofs.Sameness.{same_prefix_is}
use Rattle.nc_tables.specs.declared.base.BaseRow.{BaseRow}
use Rattle.nc_tables.specs.declared.bgp.SessionRow.{SessionRow}
use Rattle.nc_tables.specs.declared.bgp.Chosen.{Chosen}
use Rattle.nc_tables.specs.declared.bgp.BgpFrom.TheVariants.{Origin, Aggregate}
use Rattle.nc_tables.specs.Base.{prefix_cmp}
use Rattle.nc_tables.specs.Choice.{choose}
use Rattle.nc_tables.specs.Reach.{rows_of}
use Rattle.nc_tables.specs.Sessions.{first_of}
use Rattle.nc_tables.specs.Rounds.{BgpRowView, Link, Message, made_from, distinct, chosen_in, chosen_at, is_active, link_at, message_of, message_at, accepted_of, accepted_at, learnt_from, entry_at, begun, origin_at, aggregate_at, candidates_at, chosen_by, chosen_anew, prefixes_in, prefixes, row_of, row_at, rows_anew, round}
use Rattle.nc_tables.proofs.ByPrefix.{same_itself, pairs_cons}
use Rattle.nc_tables.specs.Order.{in_order}
use Rattle.nc_tables.proofs.Ordered.{in_its_order}
use Rattle.nc_tables.proofs.InOrder.{Up, IsBelow, HaveSome, at_head, past_head}
use Rattle.nc_base_rib.proofs.Members.{Rises}
use Rattle.nc_main_rib.proofs.Ascending.{distinct_ascend, in_distinct}
use Rattle.nc_decision.proofs.Distinct.{made_few}
use Rattle.nc_round.proofs.Lists.{among, in_flat_map, all_made, pairs_made, made_at, made_past}

-- ---- what is made anew of prefixes

module _ (anew : Cidr → List Chosen) where
  abbrev made : Cidr → Option BgpRowView
  made q = row_of q (anew q)

  -- of a prefix that is among them, or of which nothing is chosen, what is chosen is found
  pub found_anew : (ps : List Cidr) (p : Cidr) → In p ps ⊎ (anew p ≡ []) → chosen_in (filter_map made ps) p ≡ anew p
  found_anew [] p (inl i) = absurd i
  found_anew [] p (inr none) = sym none
  found_anew (q ∷ qs) p known = on (anew q) refl (found_anew qs p) known
    where
      found : (x : Chosen) (xs : List Chosen) → anew q ≡ x ∷ xs → (b : Bool) → same_prefix q p ≡ b → (In p qs ⊎ (anew p ≡ []) → chosen_in (filter_map made qs) p ≡ anew p)
          → In p (q ∷ qs) ⊎ (anew p ≡ []) → chosen_in (record { prefix = q; chosen = x ∷ xs } ∷ filter_map made qs) p ≡ anew p
      found x xs e true same rest k = at_head (record { prefix = q; chosen = x ∷ xs }) (filter_map made qs) p same ∙ sym e ∙ ap anew (same_prefix_is q p same)
      found x xs e false other rest (inl (inl is)) = let same : same_prefix q p ≡ true = ap (same_prefix q) (sym is) ∙ same_itself q in absurd cc
      found x xs e false other rest (inl (inr i)) = past_head (record { prefix = q; chosen = x ∷ xs }) (filter_map made qs) p other ∙ rest (inl i)
      found x xs e false other rest (inr none) = past_head (record { prefix = q; chosen = x ∷ xs }) (filter_map made qs) p other ∙ rest (inr none)

      missing : anew q ≡ [] → In p (q ∷ qs) ⊎ (anew p ≡ []) → In p qs ⊎ (anew p ≡ [])
      missing e (inl (inl is)) = inr (ap anew (sym is) ∙ e)
      missing e (inl (inr i)) = inl i
      missing e (inr none) = inr none

      on : (l : List Chosen) → anew q ≡ l → (In p qs ⊎ (anew p ≡ []) → chosen_in (filter_map made qs) p ≡ anew p) → In p (q ∷ qs) ⊎ (anew p ≡ [])
          → chosen_in (cons_option (row_of q l) (filter_map made qs)) p ≡ anew p
      on [] e rest k = rest (missing e k)
      on (x ∷ xs) e rest k = found x xs e (same_prefix q p) refl rest k

  -- of other prefixes nothing is found
  pub found_none : (ps : List Cidr) (p : Cidr) → (In p ps → ⊥) → chosen_in (filter_map made ps) p ≡ []
  found_none [] p none = refl
  found_none (q ∷ qs) p none = on (anew q) (found_none qs p (λ i. none (inr i)))
    where
      other : (b : Bool) → same_prefix q p ≡ b → same_prefix q p ≡ false
      other true same = absurd (none (inl (same_prefix_is q p same)))
      other false e = e

      on : (l : List Chosen) → chosen_in (filter_map made qs) p ≡ [] → chosen_in (cons_option (row_of q l) (filter_map made qs)) p ≡ []
      on [] rest = rest
      on (x ∷ xs) rest = past_head (record { prefix = q; chosen = x ∷ xs }) (filter_map made qs) p (other (same_prefix q p) refl) ∙ rest

  made_prefix : (q : Cidr) (row : BgpRowView) → made q ≡ Some row → row.prefix ≡ q
  made_prefix q row e = on (anew q) e
    where
      on : (l : List Chosen) → row_of q l ≡ Some row → row.prefix ≡ q
      on [] f = absurd cc
      on (x ∷ xs) f = let is : record { prefix = q; chosen = x ∷ xs } ≡ row = cc in sym (ap (λ (r : BgpRowView). r.prefix) is)

  made_some : (q : Cidr) (row : BgpRowView) → made q ≡ Some row → 0 < length row.chosen
  made_some q row e = on (anew q) e
    where
      on : (l : List Chosen) → row_of q l ≡ Some row → 0 < length row.chosen
      on [] f = absurd cc
      on (x ∷ xs) f = let is : record { prefix = q; chosen = x ∷ xs } ≡ row = cc in subst (λ (r : BgpRowView). 0 < length r.chosen) is (omega arith)

  pub made_up : (ps : List Cidr) → AllPairs (λ p q. prefix_cmp p q ≡ Less) ps → Up (filter_map made ps)
  made_up ps up = pairs_made IsBelow made (λ p q. prefix_cmp p q ≡ Less) (λ p q a b e f less. subst (λ (r : Cidr). prefix_cmp r b.prefix ≡ Less) (sym (made_prefix p a e)) (subst (λ (r : Cidr). prefix_cmp p r ≡ Less) (sym (made_prefix q b f)) less)) ps up

  pub made_have : (ps : List Cidr) → HaveSome (filter_map made ps)
  made_have ps = all_made (λ (row : BgpRowView). 0 < length row.chosen) made (λ q. Unit {0}) (λ q row e u. made_some q row e) ps (λ k d lt. tt)

-- ---- all prefixes

pairs_by_rises : {X : Type 0} (before : X → X → Type 0) (xs : List X) → Rises before xs → AllPairs before xs
pairs_by_rises before [] r = λ i j d less lt. absurd (omega arith)
pairs_by_rises before (x ∷ xs) r = pairs_cons before x xs (λ k d lt. r.0 (get_or xs k d) (in_at xs k d lt)) (pairs_by_rises before xs r.1)

pub ordered_up : (ps : List Cidr) → AllPairs (λ p q. prefix_cmp p q ≡ Less) (in_order prefix_cmp (distinct ps))
ordered_up ps = pairs_by_rises (λ p q. prefix_cmp p q ≡ Less) (in_order prefix_cmp (distinct ps)) (distinct_ascend ps)

pub prefixes_up : (routers : List ConfigView) → AllPairs (λ p q. prefix_cmp p q ≡ Less) (prefixes routers)
prefixes_up routers = ordered_up (flat_map prefixes_in routers)

pub in_prefixes : (routers : List ConfigView) (c : ConfigView) (p : Cidr) → In c routers → In p (prefixes_in c) → In p (prefixes routers)
in_prefixes routers c p i j = in_its_order prefix_cmp (distinct (flat_map prefixes_in routers)) p (in_distinct (flat_map prefixes_in routers) p (in_flat_map prefixes_in routers c p i j))

-- ---- nothing comes from nothing

made_none : {A B : Type 0} (f : ℕ → A → Option B) (place : ℕ) (xs : List A) → ((k : ℕ) (x : A) → In x xs → f k x ≡ None) → made_from f place xs ≡ []
made_none f place [] none = refl
made_none {A} {B} f place (x ∷ xs) none =
    ap (λ (o : Option B). option_map_or (λ (y : B). y ∷ made_from f (suc place) xs) o (made_from f (suc place) xs)) (none place x (inl refl))
    ∙ made_none f (suc place) xs (λ k y i. none k y (inr i))

module _ (routers : List ConfigView) (tables : List (List BaseRow)) (sessions : List (List SessionRow)) (table : List (List BgpRowView)) where
  module _ (router : ℕ) (prefix : Cidr) (silent : (peer : ℕ) → chosen_at table peer prefix ≡ []) where
    no_entry : (place : ℕ) → entry_at routers tables sessions table router place prefix ≡ None
    unfolding message_at accepted_at
    no_entry place = ap (λ (o : Option Message). option_map (learnt_from place) (option_and_then (accepted_of tables router) o)) (on (link_at routers sessions router place))
      where
        on : (o : Option Link) → option_and_then (λ k. option_and_then (message_of k) (first_of (chosen_at table k.session.peer.0 prefix))) o ≡ None
        on None = refl
        on (Some k) = ap (λ (cs : List Chosen). option_and_then (message_of k) (first_of cs)) (silent k.session.peer.0)

    module _ (p : ProcessView) where
      not_begun : (q : Cidr) → ((same_prefix q prefix ≡ true) → ⊥) → same_prefix q prefix ≡ false
      not_begun q other = on (same_prefix q prefix) refl
        where
          on : (b : Bool) → same_prefix q prefix ≡ b → same_prefix q prefix ≡ false
          on true e = absurd (other e)
          on false e = e

      module _ (own : In prefix (map (λ n. n.prefix) p.networks ++ map (λ a. a.prefix) p.aggregates) → ⊥) where
        no_origin : (place : ℕ) (n : NetworkStatement) → In n p.networks → origin_at routers tables sessions table router place n prefix ≡ None
        no_origin place n i =
            ap (λ (b : Bool). cond (b && list_any (λ (row : BaseRow). same_prefix row.prefix prefix) (rows_of tables router)) (Some (begun prefix (Origin place))) None)
            (not_begun n.prefix (λ same. own (in_left (map (λ n. n.prefix) p.networks) (map (λ a. a.prefix) p.aggregates) prefix (subst (λ (q : Cidr). In q (map (λ n. n.prefix) p.networks)) (same_prefix_is n.prefix prefix same) (in_map (λ (n : NetworkStatement). n.prefix) p.networks n i)))))

        no_aggregate : (place : ℕ) (a : AggregateStatement) → In a p.aggregates → aggregate_at routers tables sessions table router place a prefix ≡ None
        no_aggregate place a i =
            ap (λ (b : Bool). cond (b && is_active table router a) (Some (begun prefix (Aggregate place))) None)
            (not_begun a.prefix (λ same. own (in_right (map (λ n. n.prefix) p.networks) (map (λ a. a.prefix) p.aggregates) prefix (subst (λ (q : Cidr). In q (map (λ a. a.prefix) p.aggregates)) (same_prefix_is a.prefix prefix same) (in_map (λ (a : AggregateStatement). a.prefix) p.aggregates a i)))))

        no_candidates : candidates_at routers tables sessions table router p prefix ≡ []
        no_candidates =
            ap (λ (l : List Chosen). l ++ (made_from (λ place a. aggregate_at routers tables sessions table router place a prefix) 0 p.aggregates ++ made_from (λ place n. entry_at routers tables sessions table router place prefix) 0 p.neighbors))
            (made_none (λ place n. origin_at routers tables sessions table router place n prefix) 0 p.networks no_origin)
            ∙ ap (λ (l : List Chosen). l ++ made_from (λ place n. entry_at routers tables sessions table router place prefix) 0 p.neighbors)
            (made_none (λ place a. aggregate_at routers tables sessions table router place a prefix) 0 p.aggregates no_aggregate)
            ∙ made_none (λ place n. entry_at routers tables sessions table router place prefix) 0 p.neighbors (λ k n i. no_entry k)

    none_chosen : (p : ProcessView) → chosen_by p [] ≡ []
    unfolding choose
    none_chosen p = refl

    -- what a router doesn't begin and nobody has isn't chosen
    pub nothing_anew : ((c : ConfigView) → slice_get routers router ≡ Some c → In prefix (prefixes_in c) → ⊥) → chosen_anew routers tables sessions table router prefix ≡ []
    nothing_anew other = on_router (slice_get routers router) refl
      where
        on_process : (c : ConfigView) → (In prefix (prefixes_in c) → ⊥) → (o : Option ProcessView) → c.process ≡ o → option_map_or (λ p. chosen_by p (candidates_at routers tables sessions table router p prefix)) o [] ≡ []
        on_process c none None e = refl
        on_process c none (Some p) e =
            ap (chosen_by p) (no_candidates p (λ i. none (subst (λ (o : Option ProcessView). In prefix (option_map_or (λ q. map (λ n. n.prefix) q.networks ++ map (λ a. a.prefix) q.aggregates) o [])) (sym e) i))) ∙ none_chosen p

        on_router : (o : Option ConfigView) → slice_get routers router ≡ o → option_map_or (λ p. chosen_by p (candidates_at routers tables sessions table router p prefix)) (option_and_then (λ (c : ConfigView). c.process) o) [] ≡ []
        on_router None e = refl
        on_router (Some c) e = on_process c (other c e) c.process refl

  -- ---- the next table

  abbrev pub next : List (List BgpRowView)
  next = round routers tables sessions table

  pub next_count : length next ≡ length routers
  next_count = length-map-range_with_len (rows_anew routers tables sessions table) 0 (length routers)

  next_past : (router : ℕ) → length routers ≤ router → get_or next router [] ≡ []
  next_past router le = made_past (rows_anew routers tables sessions table) (length routers) router le

  next_at : (router : ℕ) → router < length routers → get_or next router [] ≡ rows_anew routers tables sessions table router
  next_at router lt = made_at (rows_anew routers tables sessions table) (length routers) router lt

  pub past_chosen : (router : ℕ) (p : Cidr) → length routers ≤ router → chosen_at next router p ≡ []
  past_chosen router p le = ap (λ (rows : List BgpRowView). chosen_in rows p) (next_past router le)

  pub next_up : (router : ℕ) → Up (get_or next router [])
  next_up router = elim (cases_lt router (length routers)) [
    | inl lt ↦ subst Up (sym (next_at router lt)) (made_up (chosen_anew routers tables sessions table router) (prefixes routers) (prefixes_up routers))
    | inr le ↦ subst Up (sym (next_past router le)) (λ i j d less lt. absurd (omega arith))
  ]

  pub next_some : (router : ℕ) → HaveSome (get_or next router [])
  next_some router = elim (cases_lt router (length routers)) [
    | inl lt ↦ subst HaveSome (sym (next_at router lt)) (made_have (chosen_anew routers tables sessions table router) (prefixes routers))
    | inr le ↦ subst HaveSome (sym (next_past router le)) (All-nil (λ (row : BgpRowView). 0 < length row.chosen))
  ]

  -- a router has no more rows than there are prefixes
  pub next_few : (router : ℕ) → length (get_or next router []) ≤ length (prefixes routers)
  next_few router = elim (cases_lt router (length routers)) [
    | inl lt ↦ subst (λ (rows : List BgpRowView). length rows ≤ length (prefixes routers)) (sym (next_at router lt)) (made_few (row_at routers tables sessions table router) (prefixes routers))
    | inr le ↦ subst (λ (rows : List BgpRowView). length rows ≤ length (prefixes routers)) (sym (next_past router le)) (omega arith)
  ]

  -- nothing is chosen of a prefix that no router begins
  pub next_known : (router : ℕ) (p : Cidr) → (In p (prefixes routers) → ⊥) → chosen_at next router p ≡ []
  next_known router p none = elim (cases_lt router (length routers)) [
    | inl lt ↦ ap (λ (rows : List BgpRowView). chosen_in rows p) (next_at router lt) ∙ found_none (chosen_anew routers tables sessions table router) (prefixes routers) p none
    | inr le ↦ past_chosen router p le
  ]

  -- what is chosen in the next table of a prefix that some router begins is what is chosen anew
  pub next_inside : (router : ℕ) (p : Cidr) → router < length routers → In p (prefixes routers) → chosen_at next router p ≡ chosen_anew routers tables sessions table router p
  next_inside router p lt i =
      ap (λ (rows : List BgpRowView). chosen_in rows p) (next_at router lt) ∙ found_anew (chosen_anew routers tables sessions table router) (prefixes routers) p (inl i)

  -- of a prefix that no router begins nothing is chosen anew
  pub unknown_anew : ((router : ℕ) (p : Cidr) → (In p (prefixes routers) → ⊥) → chosen_at table router p ≡ []) → (router : ℕ) (p : Cidr) → (In p (prefixes routers) → ⊥) → chosen_anew routers tables sessions table router p ≡ []
  unknown_anew known router p none = nothing_anew router p (λ peer. known peer p none) (λ c e j. none (in_prefixes routers c p (in_by_get routers router c e) j))

  -- so is it of each prefix, where nothing else is chosen before
  pub next_chosen : ((router : ℕ) (p : Cidr) → (In p (prefixes routers) → ⊥) → chosen_at table router p ≡ []) → (router : ℕ) (p : Cidr) → router < length routers → chosen_at next router p ≡ chosen_anew routers tables sessions table router p
  next_chosen known router p lt =
      ap (λ (rows : List BgpRowView). chosen_in rows p) (next_at router lt)
      ∙ found_anew (chosen_anew routers tables sessions table router) (prefixes routers) p (on (among same_prefix same_prefix_is same_itself p (prefixes routers)))
    where
      on : In p (prefixes routers) ⊎ (In p (prefixes routers) → ⊥) → In p (prefixes routers) ⊎ (chosen_anew routers tables sessions table router p ≡ [])
      on (inl i) = inl i
      on (inr none) = inr (unknown_anew known router p none)
