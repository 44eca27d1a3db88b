-- Where the hits of a router lead, and how far base tables lead by them.
use Rattle.std.proofs.Common.{◌≡◌, ℕ, zero, suc, ◌+◌, ◌-◌, ◌≤◌, Bool, true, false, cond, ◌||◌, List, [], ◌∷◌, ◌++◌, length, map, filter, Option, None, refl, sym, ap, ◌∙◌, arith}
use Rattle.std.specs.List.{list_any, filter_map, cons_option, range_with_len}
use Rattle.std.specs.Option.{option_map_or}
use Rattle.std.proofs.lemmas.Bool.{or_left, or_right}
use Rattle.std.proofs.lemmas.List.{get_or_past, map-append}
use Rattle.std.proofs.lemmas.List.Elements.{filter_map-append}
use Rattle.std.proofs.lemmas.Option.{slice_get_past}
use Rattle.nc_types.proofs.Placing.{range_more}
use Rattle.nc_types.proofs.Truth.{or_false}
use Rattle.nc_types.specs.Config.{ConfigView}
use Rattle.nc_types.specs.Network.{PlaceIn}
use Rattle.nc_tables.specs.declared.base.BaseRow.{BaseRow}
use Rattle.nc_tables.specs.Base.{is_own}
use Rattle.nc_tables.specs.Longest.{longest}
use Rattle.nc_tables.specs.Reach.{rows_of, is_hit, leads_to, next_places, owns, reaches}
use Rattle.nc_underlay.specs.Distances.{nexts, passes, within}
use Rattle.nc_underlay.proofs.Fewest.{IsStepped}
use Rattle.nc_underlay.proofs.Hits.{leads_nowhere}

-- ---- tests of some of a list

pub any_map : {A B : Type 0} (f : B → Bool) (g : A → B) (xs : List A) → list_any f (map g xs) ≡ list_any (λ x. f (g x)) xs
any_map f g [] = refl
any_map f g (x ∷ xs) = ap (λ (b : Bool). f (g x) || b) (any_map f g xs)

any_never : (xs : List ℕ) → list_any (λ x. false) xs ≡ false
any_never [] = refl
any_never (x ∷ xs) = any_never xs

any_wider : (f g : ℕ → Bool) → ((r : ℕ) → f r ≡ true → g r ≡ true) → (xs : List ℕ) → list_any f xs ≡ true → list_any g xs ≡ true
any_wider f g weaker [] e = absurd cc
any_wider f g weaker (x ∷ xs) e = by_first (f x) refl e (any_wider f g weaker xs)
  where
    by_first : (b : Bool) → f x ≡ b → (b || list_any f xs) ≡ true → (list_any f xs ≡ true → list_any g xs ≡ true) → list_any g (x ∷ xs) ≡ true
    by_first true here e later = or_left (g x) (list_any g xs) (weaker x here)
    by_first false here e later = or_right (g x) (list_any g xs) (later e)

-- ---- what a filter leaves out gives nothing

kept_alone : {A B : Type 0} (kept : A → Bool) (f : A → Option B) → ((x : A) → kept x ≡ false → f x ≡ None) → (xs : List A) → filter_map f (filter kept xs) ≡ filter_map f xs
kept_alone kept f out [] = refl
kept_alone {A} {B} kept f out (x ∷ xs) = by_kept (kept x) refl ∙ ap (cons_option (f x)) (kept_alone kept f out xs)
  where
    by_kept : (b : Bool) → kept x ≡ b → filter_map f (cond b (x ∷ filter kept xs) (filter kept xs)) ≡ cons_option (f x) (filter_map f (filter kept xs))
    by_kept true e = refl
    by_kept false e = ap (λ (o : Option B). cons_option o (filter_map f (filter kept xs))) (sym (out x e))

module _ (routers : List ConfigView) (tables : List (List BaseRow)) (addr : ℕ) where
  -- the routers to which the rows at some places lead
  abbrev pub nexts_by : ℕ → List ℕ → List ℕ
  nexts_by router places = map (λ (next : PlaceIn). next.router) (filter_map (leads_to routers tables router addr) places)

  pub nexts_by_rows : (router from n : ℕ) → longest (map (λ row. row.prefix) (rows_of tables router)) addr ≡ range_with_len from n → nexts_by router (range_with_len from n) ≡ nexts routers tables addr router
  nexts_by_rows router from n rows =
      ap (nexts_by router) (sym rows)
      ∙ ap (map (λ (next : PlaceIn). next.router)) (sym (kept_alone (is_hit tables router) (leads_to routers tables router addr) (leads_nowhere routers tables router addr) (longest (map (λ (row : BaseRow). row.prefix) (rows_of tables router)) addr)))

  -- one row more
  pub nexts_more : (router from place : ℕ) (made : List ℕ) (q : Option PlaceIn) → from ≤ place → leads_to routers tables router addr place ≡ q → made ≡ nexts_by router (range_with_len from (place - from))
      → made ++ map (λ (next : PlaceIn). next.router) (cons_option q []) ≡ nexts_by router (range_with_len from (place + 1 - from))
  nexts_more router from place made q le is upto =
      ap (λ (ns : List ℕ). ns ++ map (λ (next : PlaceIn). next.router) (cons_option q [])) upto
      ∙ ap (λ (o : Option PlaceIn). nexts_by router (range_with_len from (place - from)) ++ map (λ (next : PlaceIn). next.router) (cons_option o [])) (sym is)
      ∙ sym (map-append (λ (next : PlaceIn). next.router) (filter_map (leads_to routers tables router addr) (range_with_len from (place - from))) (filter_map (leads_to routers tables router addr) (place ∷ [])))
      ∙ ap (map (λ (next : PlaceIn). next.router)) (sym (filter_map-append (leads_to routers tables router addr) (range_with_len from (place - from)) (place ∷ [])))
      ∙ ap (nexts_by router) (let last : from + (place - from) ≡ place = omega arith in ap (λ (k : ℕ). range_with_len from (place - from) ++ k ∷ []) (sym last) ∙ sym (range_more from (place - from)) ∙ (let count : suc (place - from) ≡ place + 1 - from = omega arith in ap (range_with_len from) count))

  -- ---- levels

  no_hop : (router : ℕ) → within routers tables addr 0 router ≡ passes routers tables addr (λ r. false) router
  unfolding reaches
  no_hop router = sym (ap (λ (b : Bool). owns routers router addr || b) (any_never (nexts routers tables addr router)) ∙ or_false (owns routers router addr))

  one_hop : (hops router : ℕ) → within routers tables addr (suc hops) router ≡ passes routers tables addr (within routers tables addr hops) router
  unfolding reaches
  one_hop hops router = ap (λ (b : Bool). owns routers router addr || b) (sym (any_map (within routers tables addr hops) (λ (next : PlaceIn). next.router) (next_places routers tables router addr)))

  pass_wider : (f g : ℕ → Bool) → ((r : ℕ) → f r ≡ true → g r ≡ true) → (router : ℕ) → passes routers tables addr f router ≡ true → passes routers tables addr g router ≡ true
  pass_wider f g weaker router e = by_own (owns routers router addr) e
    where
      by_own : (own : Bool) → (own || list_any f (nexts routers tables addr router)) ≡ true → (own || list_any g (nexts routers tables addr router)) ≡ true
      by_own true e = refl
      by_own false e = any_wider f g weaker (nexts routers tables addr router) e

  pub stepped : IsStepped (within routers tables addr) (passes routers tables addr)
  stepped = record { none = no_hop; more = one_hop; wider = pass_wider }

  -- ---- a router that isn't there

  pub no_nexts : (router : ℕ) → length tables ≤ router → nexts routers tables addr router ≡ []
  unfolding longest
  no_nexts router beyond =
      ap (λ (rows : List BaseRow). map (λ (next : PlaceIn). next.router) (filter_map (leads_to routers tables router addr) (filter (is_hit tables router) (longest (map (λ (row : BaseRow). row.prefix) rows) addr)))) (get_or_past tables router [] beyond)

  no_own : (router : ℕ) → length routers ≤ router → owns routers router addr ≡ false
  no_own router beyond = ap (λ (o : Option ConfigView). option_map_or (λ (c : ConfigView). is_own c.interfaces addr) o false) (slice_get_past routers router beyond)

  not_passed : (f : ℕ → Bool) (router : ℕ) → length routers ≤ router → nexts routers tables addr router ≡ [] → passes routers tables addr f router ≡ false
  not_passed f router beyond none = ap (λ (b : Bool). b || list_any f (nexts routers tables addr router)) (no_own router beyond) ∙ ap (list_any f) none

  pub not_within : (hops router : ℕ) → length routers ≤ router → nexts routers tables addr router ≡ [] → within routers tables addr hops router ≡ false
  not_within zero router beyond none = no_hop router ∙ not_passed (λ r. false) router beyond none
  not_within (suc hops) router beyond none = one_hop hops router ∙ not_passed (within routers tables addr hops) router beyond none
