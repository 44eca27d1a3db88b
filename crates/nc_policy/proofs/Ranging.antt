-- Clauses that ask for communities, in order of these.
use Rattle.std.proofs.Common.{◌≡◌, ℕ, zero, suc, ◌<◌, ◌≤◌, Bool, true, false, nat_eq, nat_lt, ◌&&◌, ◌||◌, List, [], ◌∷◌, ◌++◌, length, get_or, All, Some, refl, sym, ap, subst, ◌∙◌, arith, inl, inr}
use Rattle.std.specs.Prelude.{slice_get}
use Rattle.std.specs.List.{list_any}
use Rattle.std.specs.List.Sorted.{IsNonDecreasingBy, IsPartitionPoint}
use Rattle.std.proofs.lemmas.Bool.Decides.{nat_tests}
use Rattle.std.proofs.lemmas.List.Folds.{list_any-append}
use Rattle.std.proofs.lemmas.List.Elements.{All-get_or}
use Rattle.std.proofs.lemmas.Option.{get_or_from_slice_get, slice_get_cases, slice_get_within}
use Rattle.nc_types.proofs.Members.{all_by_in, all_in}
use Rattle.nc_types.specs.Communities.{has}
use Rattle.nc_policy.specs.Kept.{is_asked_by}
use Rattle.nc_policy.specs.declared.askers.Asker.{Asker}

-- ---- a search

abbrev pub Parts : ℕ → List Asker → ℕ → Type 0
Parts number xs i = IsPartitionPoint (λ (a : Asker). nat_lt a.community number ≡ true) (λ (a : Asker). nat_lt a.community number ≡ false) xs i

pub point_before : (xs : List Asker) (number i : ℕ) → Parts number xs i → (k : ℕ) (a : Asker) → slice_get xs k ≡ Some a → k < i → nat_lt a.community number ≡ true
point_before xs number i point k a at lt = subst (λ (b : Asker). nat_lt b.community number ≡ true) (get_or_from_slice_get xs k a a at) (point.0 k a (omega arith) lt)

pub point_behind : (xs : List Asker) (number i : ℕ) → Parts number xs i → (k : ℕ) (a : Asker) → slice_get xs k ≡ Some a → i ≤ k → nat_lt a.community number ≡ false
point_behind xs number i point k a at le = subst (λ (b : Asker). nat_lt b.community number ≡ false) (get_or_from_slice_get xs k a a at) (point.1 k a le (slice_get_within xs k a at))

-- each is of no lower community than one before it
pub rises : (xs : List Asker) → IsNonDecreasingBy (λ (a : Asker). a.community) xs → (i k : ℕ) (a b : Asker) → slice_get xs i ≡ Some a → slice_get xs k ≡ Some b → i ≤ k → a.community ≤ b.community
rises xs up i k a b at there le =
    let first : (get_or xs i b).community ≡ a.community = ap (λ (x : Asker). x.community) (get_or_from_slice_get xs i a b at) in
    let second : (get_or xs k b).community ≡ b.community = ap (λ (x : Asker). x.community) (get_or_from_slice_get xs k b b there) in
    let more : (get_or xs i b).community ≤ (get_or xs k b).community = up i k b le (slice_get_within xs k b there) in
    omega arith

pub apart : (a b : ℕ) → (a ≡ b → ⊥) → nat_eq a b ≡ false
apart a b other = grind (arith, nat_tests)

-- ---- which clauses are asked

first_false : (a b : Bool) → (a || b) ≡ false → a ≡ false
first_false true b e = e
first_false false b e = refl

second_false : (a b : Bool) → (a || b) ≡ false → b ≡ false
second_false true b e = absurd (cc)
second_false false b e = e

-- where one more isn't asked, the others aren't, and it isn't held
pub asked_left : (xs : List Asker) (a : Asker) (j : ℕ) (held : List ℕ) → is_asked_by (xs ++ a ∷ []) j held ≡ false → is_asked_by xs j held ≡ false
asked_left xs a j held e =
    let test = λ (x : Asker). nat_eq x.place j && has x.community held in
    first_false (list_any test xs) (list_any test (a ∷ [])) (sym (list_any-append test xs (a ∷ [])) ∙ e)

pub asked_last : (xs : List Asker) (a : Asker) (j : ℕ) (held : List ℕ) → a.place ≡ j → is_asked_by (xs ++ a ∷ []) j held ≡ false → has a.community held ≡ false
asked_last xs a j held same e =
    let test = λ (x : Asker). nat_eq x.place j && has x.community held in
    let own : nat_eq a.place j ≡ true = grind (arith, nat_tests) in
    let one = first_false (test a) false (second_false (list_any test xs) (list_any test (a ∷ [])) (sym (list_any-append test xs (a ∷ [])) ∙ e)) in
    sym (ap (λ (b : Bool). b && has a.community held) own) ∙ one

-- a route without communities meets none
pub none_bare : (xs : List Asker) (j : ℕ) → is_asked_by xs j [] ≡ false
none_bare [] j = refl
none_bare (x ∷ xs) j = ap (λ (b : Bool). b || is_asked_by xs j []) (on (nat_eq x.place j)) ∙ none_bare xs j
  where
    on : (b : Bool) → (b && false) ≡ false
    on true = refl
    on false = refl

-- one by which a clause is asked
pub asked_at : (test : Asker → Bool) (xs : List Asker) → list_any test xs ≡ true → (i : ℕ) × ((a : Asker) × ((slice_get xs i ≡ Some a) × (test a ≡ true)))
asked_at test [] e = absurd (cc)
asked_at test (x ∷ xs) e = on (test x) refl (λ rest. asked_at test xs rest) e
  where
    later : (i : ℕ) × ((a : Asker) × ((slice_get xs i ≡ Some a) × (test a ≡ true))) → (i : ℕ) × ((a : Asker) × ((slice_get (x ∷ xs) i ≡ Some a) × (test a ≡ true)))
    later found = (suc found.0, found.1)

    on : (b : Bool) → test x ≡ b → (list_any test xs ≡ true → (i : ℕ) × ((a : Asker) × ((slice_get xs i ≡ Some a) × (test a ≡ true)))) → (b || list_any test xs) ≡ true
        → (i : ℕ) × ((a : Asker) × ((slice_get (x ∷ xs) i ≡ Some a) × (test a ≡ true)))
    on true is rest e = (zero, (x, (refl, is)))
    on false is rest e = later (rest e)

-- none of some numbers is held
pub none_of : (xs held : List ℕ) → ((i d : ℕ) → i < length xs → has (get_or xs i d) held ≡ false) → list_any (λ (n : ℕ). has n held) xs ≡ false
none_of [] held none = refl
none_of (x ∷ xs) held none =
    ap (λ (b : Bool). b || list_any (λ (n : ℕ). has n held) xs) (none 0 x (omega arith))
    ∙ none_of xs held (λ i d lt. none (suc i) d (omega arith))

-- ---- the clause at a place of a table

module _ (xs : List Asker) (i : ℕ) where
  -- it stands where all do
  pub within_all : (n place : ℕ) → i < length xs → All (λ (a : Asker). a.place < n) xs → ((d : Asker) → place ≡ (get_or xs i d).place) → place < n
  within_all n place lt all is = elim (slice_get_cases xs i).1 [
    | inl r ↦ let own : (get_or xs i r.0).place < n = All-get_or (λ (a : Asker). a.place < n) xs i r.0 lt all in let same = is r.0 in omega arith
    | inr r ↦ absurd (omega (arith, r.0))
  ]

  -- and has the name of all
  pub named_all : (names : List (List ℕ)) (name : List ℕ) (place : ℕ) → i < length xs → All (λ (a : Asker). slice_get names a.place ≡ Some name) xs → ((d : Asker) → place ≡ (get_or xs i d).place) → slice_get names place ≡ Some name
  named_all names name place lt all is = elim (slice_get_cases xs i).1 [
    | inl r ↦ ap (slice_get names) (is r.0) ∙ All-get_or (λ (a : Asker). slice_get names a.place ≡ Some name) xs i r.0 lt all
    | inr r ↦ absurd (omega (arith, r.0))
  ]

-- those of a name stand among the clauses
pub all_within : (xs : List Asker) (names : List (List ℕ)) (name : List ℕ) (n : ℕ) → length names ≡ n → All (λ (a : Asker). slice_get names a.place ≡ Some name) xs → All (λ (a : Asker). a.place < n) xs
all_within xs names name n count all = all_by_in (λ (a : Asker). a.place < n) xs (λ a is.
    let within : a.place < length names = slice_get_within names a.place name (all_in (λ (a : Asker). slice_get names a.place ≡ Some name) xs all a is) in
    omega arith)

-- a number that none of others is isn't among them
pub none_among : (n : ℕ) (xs : List ℕ) → ((i d : ℕ) → i < length xs → nat_eq n (get_or xs i d) ≡ false) → has n xs ≡ false
none_among n [] none = refl
none_among n (x ∷ xs) none = ap (λ (b : Bool). b || has n xs) (none 0 x (omega arith)) ∙ none_among n xs (λ i d lt. none (suc i) d (omega arith))
