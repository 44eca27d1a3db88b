-- Items by their keys, those of one key one behind the other.
use Rattle.std.proofs.Common.{◌≡◌, ℕ, zero, suc, ◌+◌, ◌-◌, ◌<◌, ◌≤◌, Bool, true, false, cond, List, [], ◌∷◌, length, map, drop, set, get_or, Option, Some, None, refl, sym, ap, ◌∙◌, arith, inl, inr}
use Rattle.std.specs.Prelude.{slice_get, position, ◌==◌}
use Rattle.std.specs.List.{position_from}
use Rattle.std.specs.Option.{unwrap_or}
use Rattle.std.proofs.lemmas.Bool.{cases_eq, eq-eqb, ne_eqb}
use Rattle.std.proofs.lemmas.Iterator.Adapters.{position_from-zero}
use Rattle.std.proofs.lemmas.List.{drop-map, drop_all, length-set, get_or-set_same, get_or-set_other}
use Rattle.std.proofs.lemmas.Option.{same_Some, slice_get-get_or, slice_get_within, slice_get_cases, get_or_from_slice_get}
use Rattle.nc_types.proofs.Walks.{drop_read}

pub not_before : {X : Type 0} (f : X → Bool) (k : ℕ) (xs : List X) (j : ℕ) → position_from f k xs ≡ Some j → k ≤ j
not_before f k [] j e = absurd cc
not_before f k (x ∷ xs) j e = by (f x) e (not_before f (k + 1) xs j)
  where
    by : (b : Bool) → cond b (Some k) (position_from f (k + 1) xs) ≡ Some j → (position_from f (k + 1) xs ≡ Some j → k + 1 ≤ j) → k ≤ j
    by true is later = let same : k ≡ j = same_Some k j is in omega arith
    by false is later = let least = later is in omega arith

module _ {K : Type 0} (same : K → K → Bool) (is : (k l : K) → same k l ≡ true → k ≡ l) where
  -- the place of the first of a key from a place on, and the same or the end
  abbrev pub first_from : K → ℕ → List K → Option ℕ
  first_from q from keys = position_from (same q) from (drop from keys)

  abbrev pub ahead : K → ℕ → List K → ℕ
  ahead q from keys = unwrap_or (first_from q from keys) (length keys)

  -- one item more at the front
  pub first_more : {X : Type 0} (key : X → K) (xs : List X) (place next : ℕ) (x : X) → place + 1 ≡ next → x ≡ get_or xs place x → place < length xs → (q : K)
      → first_from q place (map key xs) ≡ cond (same q (key x)) (Some place) (first_from q next (map key xs))
  first_more key xs place next x e read lt q =
      ap (position_from (same q) place) (drop-map key place xs ∙ ap (map key) (drop_read xs place x read lt))
      ∙ ap (λ (ks : List K). cond (same q (key x)) (Some place) (position_from (same q) (place + 1) ks)) (sym (drop-map key (place + 1) xs))
      ∙ ap (λ (n : ℕ). cond (same q (key x)) (Some place) (first_from q n (map key xs))) e

  -- each item from a place on knows the next one of its key
  abbrev pub IsNextFrom : List K → ℕ → List ℕ → Type 0
  IsNextFrom keys place next = (k : ℕ) (q : K) → place ≤ k → slice_get keys k ≡ Some q → slice_get next k ≡ Some (ahead q (k + 1) keys)

  pub next_more : (keys : List K) (next : List ℕ) (place later : ℕ) (mine : K) → length next ≡ length keys → slice_get keys place ≡ Some mine → later ≡ ahead mine (place + 1) keys
      → IsNextFrom keys (place + 1) next → IsNextFrom keys place (set next place later)
  next_more keys next place later mine count own after before k q least at =
      let lt : k < length keys = slice_get_within keys k q at in
      let here : k < length (set next place later) = omega (arith, length-set next place later) in
      slice_get-get_or (set next place later) k 0 here ∙ elim (cases_eq k place) [
        | inl same_place ↦
            let mine_is : mine ≡ q = same_Some mine q (sym own ∙ ap (slice_get keys) (sym same_place) ∙ at) in
            ap (λ (j : ℕ). Some (get_or (set next place later) j 0)) same_place
            ∙ ap (λ (j : ℕ). Some j) (get_or-set_same next place later 0 (omega arith) ∙ after)
            ∙ ap (λ (r : K). Some (ahead r (place + 1) keys)) mine_is
            ∙ ap (λ (j : ℕ). Some (ahead q (j + 1) keys)) (sym same_place)
        | inr other ↦
            ap (λ (j : ℕ). Some j) (get_or-set_other next place k later 0 other)
            ∙ sym (slice_get-get_or next k 0 (omega arith)) ∙ before k q (omega arith) at
      ]

  -- ---- how far the next one of a key is

  module _ (keys : List K) where
    here_or : (q : K) (place : ℕ) (x : K) → slice_get keys place ≡ Some x → ahead q place keys ≡ unwrap_or (cond (same q x) (Some place) (first_from q (place + 1) keys)) (length keys)
    here_or q place x at =
        ap (λ (ks : List K). unwrap_or (position_from (same q) place ks) (length keys)) (drop_read keys place x (sym (get_or_from_slice_get keys place x x at)) (slice_get_within keys place x at))

    pub ahead_past : (q : K) (place : ℕ) → length keys ≤ place → ahead q place keys ≡ length keys
    ahead_past q place past = ap (λ (ks : List K). unwrap_or (position_from (same q) place ks) (length keys)) (drop_all place keys past)

    pub ahead_here : (q : K) (place : ℕ) (x : K) → slice_get keys place ≡ Some x → same q x ≡ true → ahead q place keys ≡ place
    ahead_here q place x at e = here_or q place x at ∙ ap (λ (b : Bool). unwrap_or (cond b (Some place) (first_from q (place + 1) keys)) (length keys)) e

    pub ahead_on : (q : K) (place : ℕ) (x : K) → slice_get keys place ≡ Some x → same q x ≡ false → ahead q place keys ≡ ahead q (place + 1) keys
    ahead_on q place x at e = here_or q place x at ∙ ap (λ (b : Bool). unwrap_or (cond b (Some place) (first_from q (place + 1) keys)) (length keys)) e

    pub ahead_least : (q : K) (place : ℕ) → place ≤ length keys → place ≤ ahead q place keys
    ahead_least q place least = bound (first_from q place keys) refl
      where
        bound : (o : Option ℕ) → first_from q place keys ≡ o → place ≤ unwrap_or o (length keys)
        bound None e = least
        bound (Some k) e = not_before (same q) place (drop place keys) k e

    -- at the item where it stands, and before it
    pub ahead_is : (q : K) (place : ℕ) (x : K) → slice_get keys place ≡ Some x → ahead q place keys ≡ place → same q x ≡ true
    ahead_is q place x at e = by (same q x) refl
      where
        by : (b : Bool) → same q x ≡ b → same q x ≡ true
        by true found = found
        by false other = absurd (let far : place + 1 ≤ ahead q (place + 1) keys = ahead_least q (place + 1) (let lt = slice_get_within keys place x at in omega arith) in omega (arith, ahead_on q place x at other))

    not_here : (q : K) (place : ℕ) (x : K) → slice_get keys place ≡ Some x → place < ahead q place keys → same q x ≡ false
    not_here q place x at lt = by (same q x) refl
      where
        by : (b : Bool) → same q x ≡ b → same q x ≡ false
        by true found = absurd (omega (arith, ahead_here q place x at found))
        by false other = other

    pub ahead_kept : (q : K) (d place next : ℕ) → place + d ≡ next → next ≤ ahead q place keys → ahead q next keys ≡ ahead q place keys
    ahead_kept q zero place next e least = ap (λ (n : ℕ). ahead q n keys) (omega arith)
    ahead_kept q (suc d) place next e least = elim (slice_get_cases keys place).1 [
      | inl here ↦
          let x = here.0 in
          let on = ahead_on q place x here.2 (not_here q place x here.2 (omega arith)) in
          ahead_kept q d (place + 1) next (omega arith) (omega (arith, on)) ∙ sym on
      | inr past ↦ absurd (omega (arith, ahead_past q place past.0))
    ]

    pub before : (q : K) (place k : ℕ) (x : K) → place ≤ k → k < ahead q place keys → slice_get keys k ≡ Some x → same q x ≡ false
    before q place k x least lt at = not_here q k x at (omega (arith, ahead_kept q (k - place) place k (omega arith) (omega arith)))

    -- what stands ahead after the item at a place
    pub step : (q : K) (place : ℕ) (x : K) (old behind new : ℕ) → slice_get keys place ≡ Some x → old ≡ ahead q place keys → behind ≡ ahead x (place + 1) keys → new ≡ cond (old == place) behind old → new ≡ ahead q (place + 1) keys
    step q place x old behind new at stands later passes = passes ∙ by (same q x) refl
      where
        by : (b : Bool) → same q x ≡ b → cond (old == place) behind old ≡ ahead q (place + 1) keys
        by true found =
            ap (λ (b : Bool). cond b behind old) (eq-eqb old place (stands ∙ ahead_here q place x at found)) ∙ later ∙ ap (λ (r : K). ahead r (place + 1) keys) (sym (is q x found))
        by false other =
            let on = ahead_on q place x at other in
            let far : place + 1 ≤ ahead q (place + 1) keys = ahead_least q (place + 1) (let lt = slice_get_within keys place x at in omega arith) in
            ap (λ (b : Bool). cond b behind old) (ne_eqb old place (omega (arith, on, far, stands))) ∙ stands ∙ on

-- ---- a walk over the items that pass a test

module _ {X : Type 0} (test : X → Bool) (xs : List X) where
  -- what is found from a place on
  abbrev pub found_from : ℕ → Option ℕ
  found_from place = position_from test place (drop place xs)

  pub found_all : found_from 0 ≡ position test xs
  found_all = sym (position_from-zero test xs)

  pub found_none : (place : ℕ) → length xs ≤ place → found_from place ≡ None
  found_none place past = ap (position_from test place) (drop_all place xs past)

  found_at : (place : ℕ) (x : X) → slice_get xs place ≡ Some x → found_from place ≡ cond (test x) (Some place) (found_from (place + 1))
  found_at place x at = ap (position_from test place) (drop_read xs place x (sym (get_or_from_slice_get xs place x x at)) (slice_get_within xs place x at))

  pub found_here : (place : ℕ) (x : X) → slice_get xs place ≡ Some x → test x ≡ true → found_from place ≡ Some place
  found_here place x at e = found_at place x at ∙ ap (λ (b : Bool). cond b (Some place) (found_from (place + 1))) e

  pub found_on : (place : ℕ) (x : X) → slice_get xs place ≡ Some x → test x ≡ false → found_from place ≡ found_from (place + 1)
  found_on place x at e = found_at place x at ∙ ap (λ (b : Bool). cond b (Some place) (found_from (place + 1))) e

  -- over items that fail it
  pub found_over : (d place next : ℕ) → place + d ≡ next → ((k : ℕ) (x : X) → place ≤ k → k < next → slice_get xs k ≡ Some x → test x ≡ false) → found_from place ≡ found_from next
  found_over zero place next e fail = ap found_from (omega arith)
  found_over (suc d) place next e fail = elim (slice_get_cases xs place).1 [
    | inl here ↦
        found_on place here.0 here.2 (fail place here.0 (omega arith) (omega arith) here.2)
        ∙ found_over d (place + 1) next (omega arith) (λ k x least lt at. fail k x (omega arith) lt at)
    | inr past ↦ found_none place past.0 ∙ sym (found_none next (omega (arith, past.0)))
  ]
