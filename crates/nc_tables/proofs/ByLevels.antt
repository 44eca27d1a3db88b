-- Reach and forwarding by levels.
use Rattle.std.proofs.Common.{◌≡◌, ℕ, zero, suc, ◌<◌, Bool, true, false, cond, ◌||◌, ◌&&◌, nat_lt, List, [], ◌∷◌, ◌++◌, length, map, Option, Some, None, slice_get, refl, sym, ap, ◌∙◌, arith}
use Rattle.std.specs.List.{list_any, list_all, filter_map, flat_map, cons_option}
use Rattle.std.specs.Option.{option_map_or, is_none}
use Rattle.std.proofs.lemmas.List.FromFn.{get_or-map-range_with_len}
use Rattle.nc_types.specs.Config.{ConfigView}
use Rattle.nc_types.specs.Network.{PlaceIn, owner_of}
use Rattle.nc_tables.specs.declared.base.BaseRow.{BaseRow}
use Rattle.nc_tables.specs.declared.base.BaseFrom.{BaseFrom}
use Rattle.nc_tables.specs.declared.base.BaseFrom.TheVariants.{Connected, Static, Null}
use Rattle.nc_tables.specs.declared.bgp.MainRow.{MainRow}
use Rattle.nc_tables.specs.declared.bgp.MainFrom.{MainFrom}
use Rattle.nc_tables.specs.declared.bgp.MainFrom.TheVariants.{Base, Bgp, Discard}
use Rattle.nc_tables.specs.Longest.{longest}
use Rattle.nc_tables.specs.Reach.{rows_of, hits, leads_to, next_places, owns, reaches}
use Rattle.nc_tables.specs.Rounds.{BgpRowView}
use Rattle.nc_tables.specs.Forwarding.{Outcome, Deliver, Go, Lost, Alternative, going, arrives_by, some_way, each_way, mains_of, bgp_hop, outcome_by, ways_of, alternatives, traces, all_trace}
use Rattle.nc_tables.specs.Levels.{is_in, level_of, reach_level, trace_level, all_trace_level}
use Rattle.nc_tables.proofs.Owner.{next_within}

-- ---- lists

abbrev Each : {A : Type 0} → (A → Type 0) → List A → Type 0
Each P [] = Unit {0}
Each P (x ∷ xs) = P x × Each P xs

any_same : {A : Type 0} (f g : A → Bool) (xs : List A) → Each (λ x. f x ≡ g x) xs → list_any f xs ≡ list_any g xs
any_same f g [] same = refl
any_same f g (x ∷ xs) same = ap (λ b. b || list_any f xs) same.0 ∙ ap (λ b. g x || b) (any_same f g xs same.1)

all_same : {A : Type 0} (f g : A → Bool) (xs : List A) → Each (λ x. f x ≡ g x) xs → list_all f xs ≡ list_all g xs
all_same f g [] same = refl
all_same f g (x ∷ xs) same = ap (λ b. b && list_all f xs) same.0 ∙ ap (λ b. g x && b) (all_same f g xs same.1)

each_weaker : {A : Type 0} (P Q : A → Type 0) → ((x : A) → P x → Q x) → (xs : List A) → Each P xs → Each Q xs
each_weaker P Q weaker [] each = tt
each_weaker P Q weaker (x ∷ xs) each = (weaker x each.0, each_weaker P Q weaker xs each.1)

each_kept : {A B : Type 0} (P : B → Type 0) (f : A → Option B) → ((x : A) (y : B) → f x ≡ Some y → P y) → (xs : List A) → Each P (filter_map f xs)
each_kept P f holds [] = tt
each_kept {A} {B} P f holds (x ∷ xs) = on (f x) refl (each_kept P f holds xs)
  where
    on : (o : Option B) → f x ≡ o → Each P (filter_map f xs) → Each P (cons_option o (filter_map f xs))
    on None e rest = rest
    on (Some y) e rest = (holds x y e, rest)

each_map : {A B : Type 0} (P : B → Type 0) (f : A → B) → ((x : A) → P (f x)) → (xs : List A) → Each P (map f xs)
each_map P f holds [] = tt
each_map P f holds (x ∷ xs) = (holds x, each_map P f holds xs)

each_append : {A : Type 0} (P : A → Type 0) (xs ys : List A) → Each P xs → Each P ys → Each P (xs ++ ys)
each_append P [] ys each rest = rest
each_append P (x ∷ xs) ys each rest = (each.0, each_append P xs ys each.1 rest)

each_flat : {A B : Type 0} (P : B → Type 0) (f : A → List B) → ((x : A) → Each P (f x)) → (xs : List A) → Each P (flat_map f xs)
each_flat P f holds [] = tt
each_flat P f holds (x ∷ xs) = each_append P (f x) (flat_map f xs) (holds x) (each_flat P f holds xs)

-- ---- levels

module _ (routers : List ConfigView) where
  flag_is : (test : ℕ → Bool) (router : ℕ) → router < length routers → is_in (level_of routers test) router ≡ test router
  flag_is test router lt = get_or-map-range_with_len test 0 (length routers) router router false lt (omega arith)

  module _ (tables : List (List BaseRow)) where
    pub reach_same : (hops router addr : ℕ) → router < length routers → reaches routers tables hops router addr ≡ is_in (reach_level routers tables addr hops) router
    unfolding reaches reach_level
    reach_same zero router addr lt = sym (flag_is (λ r. owns routers r addr) router lt)
    reach_same (suc hops) router addr lt =
        ap (λ b. owns routers router addr || b) (any_same (λ (next : PlaceIn). reaches routers tables hops next.router addr) (λ (next : PlaceIn). is_in (reach_level routers tables addr hops) next.router) (next_places routers tables router addr)
        (each_kept _ (leads_to routers tables router addr) (λ place next e. reach_same hops next.router addr (next_within routers tables router addr place next e)) (hits tables router addr)))
        ∙ sym (flag_is (λ r. owns routers r addr || list_any (λ next. is_in (reach_level routers tables addr hops) next.router) (next_places routers tables r addr)) router lt)

    -- ---- forwarding

    -- a packet goes on to one of the routers
    abbrev Stays : Outcome → Type 0
    Stays Deliver = Unit {0}
    Stays (Go next) = next.router < length routers
    Stays Lost = Unit {0}

    going_stays : (o : Option PlaceIn) → ((next : PlaceIn) → o ≡ Some next → next.router < length routers) → Stays (going o)
    going_stays None within = tt
    going_stays (Some next) within = within next refl

    leads_stays : (router addr place : ℕ) → Stays (going (leads_to routers tables router addr place))
    leads_stays router addr place = going_stays (leads_to routers tables router addr place) (next_within routers tables router addr place)

    outcome_stays : (router addr place : ℕ) (from : BaseFrom) → Stays (outcome_by routers tables router addr place from)
    outcome_stays router addr place (Connected iface) = on (is_none (owner_of routers addr))
      where
        on : (b : Bool) → Stays (cond b Deliver (going (leads_to routers tables router addr place)))
        on true = tt
        on false = leads_stays router addr place
    outcome_stays router addr place (Static at iface) = leads_stays router addr place
    outcome_stays router addr place (Null at) = tt

    row_stays : (router addr place : ℕ) (o : Option BaseRow) → Stays (option_map_or (λ (row : BaseRow). outcome_by routers tables router addr place row.from) o Lost)
    row_stays router addr place None = tt
    row_stays router addr place (Some row) = outcome_stays router addr place row.from

    arrives_same : (f g : ℕ → Bool) → ((r : ℕ) → r < length routers → f r ≡ g r) → (o : Outcome) → Stays o → arrives_by f o ≡ arrives_by g o
    arrives_same f g same Deliver stays = refl
    arrives_same f g same (Go next) stays = same next.router stays
    arrives_same f g same Lost stays = refl

    module _ (table : List (List BgpRowView)) (mains : List (List MainRow)) where
      ways_stay : (router addr main : ℕ) (row : MainRow) (from : MainFrom) → Each (λ (way : Alternative). Stays way.outcome) (ways_of routers tables table mains router addr main row from)
      ways_stay router addr main row (Base place) = (row_stays router addr place (slice_get (rows_of tables router) place), tt)
      ways_stay router addr main row (Discard place) = (tt, tt)
      ways_stay router addr main row (Bgp place) = on (bgp_hop table router row place)
        where
          on : (o : Option ℕ) → Each (λ (way : Alternative). Stays way.outcome) (option_map_or (λ hop. map (λ hit. record { main = main; base = Some hit; outcome = going (leads_to routers tables router hop hit) }) (hits tables router hop)) o [])
          on None = tt
          on (Some hop) = each_map (λ (way : Alternative). Stays way.outcome) _ (λ hit. leads_stays router hop hit) (hits tables router hop)

      all_stay : (router addr : ℕ) → Each (λ (way : Alternative). Stays way.outcome) (alternatives routers tables table mains router addr)
      all_stay router addr = each_flat _ _ (λ main. on main (slice_get (mains_of mains router) main)) (longest (map (λ (row : MainRow). row.prefix) (mains_of mains router)) addr)
        where
          on : (main : ℕ) (o : Option MainRow) → Each (λ (way : Alternative). Stays way.outcome) (option_map_or (λ (row : MainRow). ways_of routers tables table mains router addr main row row.from) o [])
          on main None = tt
          on main (Some row) = ways_stay router addr main row row.from

      ways_same : (f g : ℕ → Bool) (router addr : ℕ) → ((r : ℕ) → r < length routers → f r ≡ g r)
          → Each (λ (way : Alternative). arrives_by f way.outcome ≡ arrives_by g way.outcome) (alternatives routers tables table mains router addr)
      ways_same f g router addr same =
          each_weaker (λ (way : Alternative). Stays way.outcome) (λ (way : Alternative). arrives_by f way.outcome ≡ arrives_by g way.outcome) (λ way stays. arrives_same f g same way.outcome stays) (alternatives routers tables table mains router addr) (all_stay router addr)

      some_same : (f g : ℕ → Bool) (router addr : ℕ) → ((r : ℕ) → r < length routers → f r ≡ g r)
          → some_way (λ way. arrives_by f way.outcome) (alternatives routers tables table mains router addr) ≡ some_way (λ way. arrives_by g way.outcome) (alternatives routers tables table mains router addr)
      some_same f g router addr same =
          any_same (λ (way : Alternative). arrives_by f way.outcome) (λ (way : Alternative). arrives_by g way.outcome) (alternatives routers tables table mains router addr) (ways_same f g router addr same)

      each_same : (f g : ℕ → Bool) (router addr : ℕ) → ((r : ℕ) → r < length routers → f r ≡ g r)
          → each_way (λ way. arrives_by f way.outcome) (alternatives routers tables table mains router addr) ≡ each_way (λ way. arrives_by g way.outcome) (alternatives routers tables table mains router addr)
      each_same f g router addr same =
          ap (λ b. nat_lt 0 (length (alternatives routers tables table mains router addr)) && b)
          (all_same (λ (way : Alternative). arrives_by f way.outcome) (λ (way : Alternative). arrives_by g way.outcome) (alternatives routers tables table mains router addr) (ways_same f g router addr same))

      -- the test of a level
      abbrev passes : ((Alternative → Bool) → List Alternative → Bool) → ℕ → List Bool → ℕ → Bool
      passes ways_pass addr level r = owns routers r addr || ways_pass (λ way. arrives_by (is_in level) way.outcome) (alternatives routers tables table mains r addr)

      pub trace_same : (hops router addr : ℕ) → router < length routers → traces routers tables table mains hops router addr ≡ is_in (trace_level routers tables table mains addr hops) router
      unfolding traces trace_level
      trace_same zero router addr lt = sym (flag_is (passes some_way addr []) router lt)
      trace_same (suc hops) router addr lt =
          ap (λ b. owns routers router addr || b) (some_same (λ r. traces routers tables table mains hops r addr) (is_in (trace_level routers tables table mains addr hops)) router addr (λ r below. trace_same hops r addr below))
          ∙ sym (flag_is (passes some_way addr (trace_level routers tables table mains addr hops)) router lt)

      pub all_trace_same : (hops router addr : ℕ) → router < length routers → all_trace routers tables table mains hops router addr ≡ is_in (all_trace_level routers tables table mains addr hops) router
      unfolding all_trace all_trace_level
      all_trace_same zero router addr lt = sym (flag_is (passes each_way addr []) router lt)
      all_trace_same (suc hops) router addr lt =
          ap (λ b. owns routers router addr || b) (each_same (λ r. all_trace routers tables table mains hops r addr) (is_in (all_trace_level routers tables table mains addr hops)) router addr (λ r below. all_trace_same hops r addr below))
          ∙ sym (flag_is (passes each_way addr (all_trace_level routers tables table mains addr hops)) router lt)
