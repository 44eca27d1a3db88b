-- Items in order of their keys: the first of a key stands where those before it end.
use Rattle.std.proofs.Common.{◌≡◌, ℕ, zero, suc, ◌+◌, ◌<◌, ◌≤◌, Bool, true, false, cond, not, ◌&&◌, List, [], ◌∷◌, length, map, drop, filter, get_or, Option, Some, None, refl, sym, ap, ◌∙◌, arith, inl, inr}
use Rattle.std.specs.Prelude.{nat_lt}
use Rattle.std.specs.List.{dedup}
use Rattle.std.specs.Map.{lookup}
use Rattle.std.specs.List.Sorted.{IsPartitionPoint, IsPartitionedBy, IsSortedByKey, IsStableByKey, IsNonDecreasingBy, ties}
use Rattle.std.specs.Cmp.{IsTotalOrder}
use Rattle.std.specs.Ordering.{ordering_index, ordering_reverse, is_lt, is_eq}
use Rattle.std.specs.declared.cmp.Ordering.{Ordering}
use Rattle.std.specs.declared.cmp.Ordering.TheVariants.{Less, Equal, Greater}
use Rattle.std.proofs.lemmas.Bool.{cases_lt}
use Rattle.std.proofs.lemmas.Cmp.{on_total}
use Rattle.std.proofs.lemmas.List.Kept.{IsStrictlySortedBy-dedup}
use Rattle.std.proofs.lemmas.Map.Keys.{Less-from_sorted}
use Rattle.std.proofs.lemmas.List.{drop_all, get_or_default}
use Rattle.std.proofs.lemmas.List.Sorted.{searchable_from_sorted, IsPartitionedBy-ltb}
use Rattle.nc_types.proofs.Walks.{drop_read}

-- ---- what a comparison says

tied_is : (o : Ordering) → (not (is_lt o) && not (is_lt (ordering_reverse o))) ≡ is_eq o
tied_is Less = refl
tied_is Equal = refl
tied_is Greater = refl

below_not : (o : Ordering) → is_lt o ≡ true → is_eq o ≡ false
below_not Less e = refl
below_not Equal e = absurd cc
below_not Greater e = refl

above_is : (o : Ordering) → is_lt o ≡ false → is_eq o ≡ false → ordering_index o ≡ 2
above_is Less e f = absurd cc
above_is Equal e f = absurd cc
above_is Greater e f = refl

above_not : (o : Ordering) → 2 ≤ ordering_index o → is_eq o ≡ false
above_not Less above = refl
above_not Equal above = absurd (omega arith)
above_not Greater above = refl

below_is : (o : Ordering) → nat_lt (ordering_index o) 1 ≡ is_lt o
below_is Less = refl
below_is Equal = refl
below_is Greater = refl

-- items of a kind have keys and places, and the keys an order in which two are the same where neither is first
pub record Keyed (K P : Type 0) : Type 0 where
  pub key : P → K
  pub place : P → ℕ
  pub with_key : K → P
  pub keyed : (s : K) → key (with_key s) ≡ s
  pub cmp : K → K → Ordering
  pub same : K → K → Bool
  pub total : IsTotalOrder cmp
  pub same_by_cmp : (s t : K) → same s t ≡ is_eq (cmp s t)
  pub same_back : (s t : K) → same s t ≡ same t s
  -- of two that are the same both or none are the same as a third one
  pub same_both : (s a b : K) → same a b ≡ true → same s b ≡ false → same s a ≡ false

module _ {K P : Type 0} (o : Keyed K P) where
  -- the place of the first item that has a key
  abbrev pub place_at : K → List P → Option ℕ
  place_at s items = lookup (o.same s) (map (λ (x : P). (o.key x, o.place x)) items)

  -- ---- a stable sort keeps the first item of each key

  abbrev pub is_before : P → P → Bool
  is_before x y = is_lt (o.cmp (o.key x) (o.key y))

  -- the items that tie with one are those of its key
  ties_is : (x y : P) → ties is_before x y ≡ o.same (o.key x) (o.key y)
  ties_is x y =
      ap (λ (c : Ordering). not (is_lt (o.cmp (o.key x) (o.key y))) && not (is_lt c)) (o.total.antisymm (o.key y) (o.key x))
      ∙ tied_is (o.cmp (o.key x) (o.key y)) ∙ sym (o.same_by_cmp (o.key x) (o.key y))

  abbrev first_place : List P → Option ℕ
  first_place [] = None
  first_place (x ∷ xs) = Some (o.place x)

  first_tied : (p : P) (items : List P) → place_at (o.key p) items ≡ first_place (filter (ties is_before p) items)
  first_tied p [] = refl
  first_tied p (x ∷ xs) = ap (λ (b : Bool). cond b (Some (o.place x)) (place_at (o.key p) xs)) (sym (ties_is p x)) ∙ on (ties is_before p x) (first_tied p xs)
    where
      on : (b : Bool) → place_at (o.key p) xs ≡ first_place (filter (ties is_before p) xs)
          → cond b (Some (o.place x)) (place_at (o.key p) xs) ≡ first_place (cond b (x ∷ filter (ties is_before p) xs) (filter (ties is_before p) xs))
      on true rest = refl
      on false rest = rest

  pub same_places : (items sorted : List P) → IsStableByKey o.key o.cmp items sorted → (s : K) → place_at s sorted ≡ place_at s items
  same_places items sorted stable s =
      let p : P = o.with_key s in
      ap (λ (t : K). place_at t sorted) (sym (o.keyed s)) ∙ first_tied p sorted ∙ ap first_place (stable p) ∙ sym (first_tied p items) ∙ ap (λ (t : K). place_at t items) (o.keyed s)

  -- ---- of the items of one key only the first is kept

  abbrev pub is_same : P → P → Bool
  is_same x y = o.same (o.key x) (o.key y)

  kept_from : (s : K) (k : P) (xs : List P) → place_at s (dedup is_same (k ∷ xs)) ≡ place_at s (k ∷ xs)
  kept_from s k [] = refl
  kept_from s k (x ∷ xs) = on (is_same x k) refl (o.same s (o.key k)) refl (kept_from s k xs) (kept_from s x xs)
    where
      on : (b : Bool) → is_same x k ≡ b → (d : Bool) → o.same s (o.key k) ≡ d
          → place_at s (dedup is_same (k ∷ xs)) ≡ place_at s (k ∷ xs) → place_at s (dedup is_same (x ∷ xs)) ≡ place_at s (x ∷ xs)
          → place_at s (cond b (dedup is_same (k ∷ xs)) (k ∷ dedup is_same (x ∷ xs))) ≡ cond (o.same s (o.key k)) (Some (o.place k)) (place_at s (x ∷ xs))
      on false e d f one more = ap (cond (o.same s (o.key k)) (Some (o.place k))) more
      on true e true f one more =
          one ∙ ap (λ (c : Bool). cond c (Some (o.place k)) (place_at s xs)) f
          ∙ sym (ap (λ (c : Bool). cond c (Some (o.place k)) (place_at s (x ∷ xs))) f)
      on true e false f one more =
          one
          ∙ ap (cond (o.same s (o.key k)) (Some (o.place k))) (sym (ap (λ (c : Bool). cond c (Some (o.place x)) (place_at s xs)) (o.same_both s (o.key x) (o.key k) e f)))

  pub same_kept : (s : K) (xs : List P) → place_at s (dedup is_same xs) ≡ place_at s xs
  same_kept s [] = refl
  same_kept s (x ∷ xs) = kept_from s x xs

  -- they stay in order
  pub still_sorted : (xs : List P) → IsSortedByKey o.key o.cmp xs → IsSortedByKey o.key o.cmp (dedup is_same xs)
  still_sorted xs sorted k d low high =
      let strict = IsStrictlySortedBy-dedup (on_total o.key o.total) {E = is_same} (λ x y. o.same_by_cmp (o.key x) (o.key y)) xs sorted in
      let ks = dedup is_same xs in
      let less : o.cmp (o.key (get_or ks k d)) (o.key (get_or ks (k + 1) d)) ≡ Less = Less-from_sorted (λ (x y : P). o.cmp (o.key x) (o.key y)) ks k (k + 1) d strict (omega arith) high in
      ap is_lt (o.total.antisymm (o.key (get_or ks (k + 1) d)) (o.key (get_or ks k d)) ∙ ap ordering_reverse less)

  -- ---- what is in front of a place and what isn't

  -- where no item in front has a key, it is looked up behind
  behind : (s : K) (items : List P) (i : ℕ) → ((k : ℕ) (d : P) → k < i → o.same s (o.key (get_or items k d)) ≡ false) → place_at s items ≡ place_at s (drop i items)
  behind s [] i other = sym (ap (place_at s) (drop_all {X = P} i [] (omega arith)))
  behind s (x ∷ xs) zero other = refl
  behind s (x ∷ xs) (suc i) other =
      ap (λ (b : Bool). cond b (Some (o.place x)) (place_at s xs)) (other 0 x (omega arith))
      ∙ behind s xs i (λ k d lt. other (suc k) d (omega arith))

  -- no item has a key
  nowhere : (s : K) (items : List P) → ((k : ℕ) (d : P) → k < length items → o.same s (o.key (get_or items k d)) ≡ false) → place_at s items ≡ None
  nowhere s items other = behind s items (length items) other ∙ ap (place_at s) (drop_all (length items) items (omega arith))

  -- ---- a binary search

  -- the items before a key are in front of a place
  abbrev pub Parts : K → ℕ → List P → Type 0
  Parts s i items = IsPartitionPoint (λ (x : P). is_lt (o.cmp (o.key x) s) ≡ true) (λ (x : P). is_lt (o.cmp (o.key x) s) ≡ false) items i

  module _ (s : K) (items : List P) (sorted : IsSortedByKey o.key o.cmp items) where
    abbrev rank : P → ℕ
    rank x = ordering_index (o.cmp (o.key x) s)

    rises : IsNonDecreasingBy rank items
    rises = searchable_from_sorted o.total o.key items s sorted

    -- the items before a key are in front
    pub below_first : IsPartitionedBy (λ (x : P). is_lt (o.cmp (o.key x) s)) items
    below_first i j d le lt e =
        sym (below_is (o.cmp (o.key (get_or items i d)) s)) ∙ IsPartitionedBy-ltb rank items 1 rises i j d le lt (below_is (o.cmp (o.key (get_or items j d)) s) ∙ e)

    -- an item has the key, and none in front of it
    pub found_at : (i : ℕ) (x : P) → x ≡ get_or items i x → i < length items → o.same s (o.key x) ≡ true
        → ((k : ℕ) (d : P) → k < i → o.same s (o.key (get_or items k d)) ≡ false) → Some (o.place x) ≡ place_at s items
    found_at i x read inside same other =
        sym (behind s items i other ∙ ap (place_at s) (drop_read items i x read inside) ∙ ap (λ (b : Bool). cond b (Some (o.place x)) (place_at s (drop (i + 1) items))) same)

    -- where the item at a place is before the key, neither it nor one in front has the key
    pub others_upto : (i : ℕ) (y : P) → y ≡ get_or items i y → i < length items → is_lt (o.cmp (o.key y) s) ≡ true
        → (k : ℕ) (d : P) → k ≤ i → o.same s (o.key (get_or items k d)) ≡ false
    others_upto i y read inside less k d le =
        let c = o.cmp (o.key (get_or items k d)) s in
        let here : is_lt (o.cmp (o.key (get_or items i d)) s) ≡ true =
        ap (λ (x : P). is_lt (o.cmp (o.key x) s)) (get_or_default items i d y inside ∙ sym read) ∙ less in
        o.same_back s (o.key (get_or items k d)) ∙ o.same_by_cmp (o.key (get_or items k d)) s ∙ below_not c (below_first k i d le inside here)

    module _ (i : ℕ) (point : Parts s i items) where
      before : (k : ℕ) (d : P) → k < i → o.same s (o.key (get_or items k d)) ≡ false
      before k d lt =
          let c = o.cmp (o.key (get_or items k d)) s in
          o.same_back s (o.key (get_or items k d)) ∙ o.same_by_cmp (o.key (get_or items k d)) s ∙ below_not c (point.0 k d (omega arith) lt)

      -- all items are before the key
      pub none_behind : length items ≤ i → None ≡ place_at s items
      none_behind most = sym (nowhere s items (λ k d lt. before k d (omega arith)))

      module _ (x : P) (read : x ≡ get_or items i x) (inside : i < length items) where
        -- the first item that isn't has the key
        pub first_found : o.same s (o.key x) ≡ true → Some (o.place x) ≡ place_at s items
        first_found same =
            sym (behind s items i before ∙ ap (place_at s) (drop_read items i x read inside) ∙ ap (λ (b : Bool). cond b (Some (o.place x)) (place_at s (drop (i + 1) items))) same)

        -- it has another one
        pub none_found : o.same s (o.key x) ≡ false → None ≡ place_at s items
        none_found other = sym (nowhere s items each)
          where
            above : rank (get_or items i x) ≡ 2
            above =
                above_is (o.cmp (o.key (get_or items i x)) s) (point.1 i x (omega arith) inside)
                (sym (o.same_by_cmp (o.key (get_or items i x)) s) ∙ o.same_back (o.key (get_or items i x)) s ∙ ap (λ (y : P). o.same s (o.key y)) (sym read) ∙ other)

            each : (k : ℕ) (d : P) → k < length items → o.same s (o.key (get_or items k d)) ≡ false
            each k d lt = elim (cases_lt k i) [
              | inl front ↦ before k d front
              | inr back ↦
                  let up : rank (get_or items i d) ≤ rank (get_or items k d) = rises i k d back lt in
                  let same : rank (get_or items i d) ≡ 2 = ap rank (get_or_default items i d x inside) ∙ above in
                  o.same_back s (o.key (get_or items k d)) ∙ o.same_by_cmp (o.key (get_or items k d)) s ∙ above_not (o.cmp (o.key (get_or items k d)) s) (omega arith)
            ]
