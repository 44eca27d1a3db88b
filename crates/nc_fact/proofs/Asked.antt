-- The facts of rows that stand side by side, one row after another.
use Rattle.std.proofs.Common.{◌≡◌, ℕ, suc, ◌+◌, ◌-◌, ◌<◌, ◌≤◌, Bool, true, false, cond, ◌&&◌, List, [], ◌∷◌, ◌++◌, length, map, filter, Option, Some, slice_get, get_or, refl, sym, ap, ◌∙◌, arith}
use Rattle.std.specs.List.{range_with_len}
use Rattle.std.specs.Option.{option_map_or}
use Rattle.std.proofs.lemmas.List.{map-append}
use Rattle.std.proofs.lemmas.Option.{slice_get-get_or}
use Rattle.std.proofs.lemmas.List.Elements.{filter-append}
use Rattle.nc_types.specs.Cidr.{Cidr}
use Rattle.nc_types.specs.declared.addr.Addr.{Addr}
use Rattle.nc_types.specs.declared.config.RouterId.{RouterId}
use Rattle.nc_tables.specs.declared.bgp.MainRow.{MainRow}
use Rattle.nc_tables.specs.Base.{same_prefix}
use Rattle.nc_tables.specs.Longest.{places_from}
use Rattle.nc_tables.specs.State.{StateView}
use Rattle.nc_types.proofs.Placing.{range_more}
use Rattle.nc_fact.specs.declared.fact.Fact.{Fact}
use Rattle.nc_fact.specs.declared.fact.Fact.TheVariants.{Main}
use Rattle.nc_fact.specs.Facts.{main_rows, holds}
use Rattle.nc_fact.specs.Tested.{has_hop, asked_rows}

-- the places of those that pass both of two tests, of which the second is known by the place
both_placed : {A : Type 0} (p q : A → Bool) (at : ℕ → Bool) (place : ℕ) (xs : List A) → ((k : ℕ) (x : A) → slice_get xs k ≡ Some x → at (place + k) ≡ q x)
    → places_from (λ x. p x && q x) place xs ≡ filter at (places_from p place xs)
both_placed p q at place [] known = refl
both_placed p q at place (x ∷ xs) known =
    by_first (p x) (ap at here ∙ known 0 x refl)
    (both_placed p q at (place + 1) xs (λ k y e. (let behind : place + 1 + k ≡ place + suc k = omega arith in ap at behind) ∙ known (suc k) y e))
  where
    here : place ≡ place + 0
    here = omega arith

    by_kept : (b : Bool) → at place ≡ b → places_from (λ y. p y && q y) (place + 1) xs ≡ filter at (places_from p (place + 1) xs)
        → cond b (place ∷ places_from (λ y. p y && q y) (place + 1) xs) (places_from (λ y. p y && q y) (place + 1) xs) ≡ cond (at place) (place ∷ filter at (places_from p (place + 1) xs)) (filter at (places_from p (place + 1) xs))
    by_kept true e later = ap (λ (ks : List ℕ). place ∷ ks) later ∙ sym (ap (λ (b : Bool). cond b (place ∷ filter at (places_from p (place + 1) xs)) (filter at (places_from p (place + 1) xs))) e)
    by_kept false e later = later ∙ sym (ap (λ (b : Bool). cond b (place ∷ filter at (places_from p (place + 1) xs)) (filter at (places_from p (place + 1) xs))) e)

    by_first : (b : Bool) → at place ≡ q x → places_from (λ y. p y && q y) (place + 1) xs ≡ filter at (places_from p (place + 1) xs)
        → cond (b && q x) (place ∷ places_from (λ y. p y && q y) (place + 1) xs) (places_from (λ y. p y && q y) (place + 1) xs) ≡ filter at (cond b (place ∷ places_from p (place + 1) xs) (places_from p (place + 1) xs))
    by_first true e later = by_kept (q x) e later
    by_first false e later = later

module _ (s : StateView) (router : RouterId) (via : Option Addr) where
  -- whether the row at a place has the next hop that is asked for
  abbrev pub has_hop_at : ℕ → Bool
  has_hop_at place = option_map_or (has_hop s router.0 via) (slice_get (main_rows s router.0) place) false

  -- the facts of rows at places
  abbrev pub facts_at : List ℕ → List Fact
  facts_at places = filter (holds s) (map (Main router) (filter has_hop_at places))

  pub asked_by : (prefix : Cidr) (from n : ℕ) → places_from (λ row. same_prefix row.prefix prefix) 0 (main_rows s router.0) ≡ range_with_len from n
      → filter (holds s) (asked_rows s router.0 prefix via) ≡ facts_at (range_with_len from n)
  asked_by prefix from n places =
      ap (λ (ks : List ℕ). filter (holds s) (map (Main router) ks))
      (both_placed (λ (row : MainRow). same_prefix row.prefix prefix) (has_hop s router.0 via) has_hop_at 0 (main_rows s router.0)
      (λ k row e. (let here : 0 + k ≡ k = omega arith in ap has_hop_at here) ∙ ap (λ (o : Option MainRow). option_map_or (has_hop s router.0 via) o false) e)
      ∙ ap (filter has_hop_at) places)

  facts_more : (from n : ℕ) → facts_at (range_with_len from (suc n)) ≡ facts_at (range_with_len from n) ++ facts_at ((from + n) ∷ [])
  facts_more from n =
      ap facts_at (range_more from n)
      ∙ ap (λ (ks : List ℕ). filter (holds s) (map (Main router) ks)) (filter-append has_hop_at (range_with_len from n) ((from + n) ∷ []))
      ∙ ap (filter (holds s)) (map-append (Main router) (filter has_hop_at (range_with_len from n)) (filter has_hop_at ((from + n) ∷ [])))
      ∙ filter-append (holds s) (map (Main router) (filter has_hop_at (range_with_len from n))) (map (Main router) (filter has_hop_at ((from + n) ∷ [])))

  one_fact : (place : ℕ) (row : MainRow) (b : Bool) → slice_get (main_rows s router.0) place ≡ Some row → (has_hop s router.0 via row && holds s (Main router place)) ≡ b
      → facts_at (place ∷ []) ≡ cond b (Main router place ∷ []) []
  one_fact place row b at is =
      ap (λ (h : Bool). filter (holds s) (map (Main router) (cond h (place ∷ []) []))) (ap (λ (o : Option MainRow). option_map_or (has_hop s router.0 via) o false) at)
      ∙ by_hop (has_hop s router.0 via row) ∙ ap (λ (h : Bool). cond h (Main router place ∷ []) []) is
    where
      by_hop : (h : Bool) → filter (holds s) (map (Main router) (cond h (place ∷ []) [])) ≡ cond (h && holds s (Main router place)) (Main router place ∷ []) []
      by_hop true = refl
      by_hop false = refl

  -- one place more, at which the row and whether its fact is tested are known
  pub facts_step : (rows : List MainRow) (from place : ℕ) (row : MainRow) (b : Bool) (facts : List Fact) → rows ≡ main_rows s router.0 → from ≤ place → place < length rows → row ≡ get_or rows place row
      → (has_hop s router.0 via row && holds s (Main router place)) ≡ b → facts ≡ facts_at (range_with_len from (place - from)) → facts ++ cond b (Main router place ∷ []) [] ≡ facts_at (range_with_len from (place + 1 - from))
  facts_step rows from place row b facts are low lt at tested so_far =
      let more : suc (place - from) ≡ place + 1 - from = omega (arith, low) in
      let last : from + (place - from) ≡ place = omega (arith, low) in
      let there : slice_get (main_rows s router.0) place ≡ Some row = ap (λ (rs : List MainRow). slice_get rs place) (sym are) ∙ slice_get-get_or rows place row lt ∙ ap (λ (r : MainRow). Some r) (sym at) in
      ap (λ (fs : List Fact). fs ++ cond b (Main router place ∷ []) []) so_far
      ∙ ap (λ (fs : List Fact). facts_at (range_with_len from (place - from)) ++ fs) (sym (one_fact place row b there tested))
      ∙ ap (λ (k : ℕ). facts_at (range_with_len from (place - from)) ++ facts_at (k ∷ [])) (sym last)
      ∙ sym (facts_more from (place - from)) ∙ ap (λ (n : ℕ). facts_at (range_with_len from n)) more
