-- Lists: what is decided of their members, and pairs of what is made of their items.
use Rattle.std.proofs.Common.{◌≡◌, ◌⊎◌, ℕ, ◌<◌, ◌≤◌, Bool, true, false, ◌||◌, List, [], ◌∷◌, ◌++◌, length, map, get_or, All, Option, Some, None, refl, sym, ap, subst, ◌∙◌, arith, inl, inr}
use Rattle.std.specs.List.{AllPairs, cons_option, filter_map, flat_map, list_any, range_with_len}
use Rattle.std.proofs.lemmas.Bool.{cases_lt}
use Rattle.std.proofs.lemmas.List.{get_or_past}
use Rattle.std.proofs.lemmas.List.Elements.{All-nil, All-cons, All-head, All-tail, All-get_or}
use Rattle.std.proofs.lemmas.List.FromFn.{length-map-range_with_len, get_or-map-range_with_len}
use Rattle.nc_types.proofs.Members.{In, in_left, in_right, in_either, some_passes, passes_some, all_in, all_by_in}
use Rattle.nc_tables.proofs.ByPrefix.{pairs_cons, pairs_head, pairs_tail}

module _ {X : Type 0} where
  -- whether an item is among others, by a test of sameness
  pub among : (same : X → X → Bool) → ((a b : X) → same a b ≡ true → a ≡ b) → ((a : X) → same a a ≡ true) → (z : X) (xs : List X) → In z xs ⊎ (In z xs → ⊥)
  among same is itself z xs = on (list_any (same z) xs) refl
    where
      on : (b : Bool) → list_any (same z) xs ≡ b → In z xs ⊎ (In z xs → ⊥)
      on true some = let found = some_passes (same z) xs some in inl (subst (λ (y : X). In y xs) (sym (is z found.0 found.2)) found.1)
      on false none = inr (λ i. let some : list_any (same z) xs ≡ true = passes_some (same z) xs z i (itself z) in absurd cc)

  -- what holds of each list of some, and of the empty one, holds of that at any place
  pub all_at : (P : List X → Type 0) → P [] → (xss : List (List X)) → All P xss → (k : ℕ) → P (get_or xss k [])
  all_at P none xss each k = elim (cases_lt k (length xss)) [
    | inl lt ↦ All-get_or P xss k [] lt each
    | inr past ↦ subst P (sym (get_or_past xss k [] past)) none
  ]

  -- a list made for each number
  pub made_at : (f : ℕ → List X) (n k : ℕ) → k < n → get_or (map f (range_with_len 0 n)) k [] ≡ f k
  made_at f n k lt = get_or-map-range_with_len f 0 n k k [] lt (omega arith)

  pub made_past : (f : ℕ → List X) (n k : ℕ) → n ≤ k → get_or (map f (range_with_len 0 n)) k [] ≡ []
  made_past f n k le = get_or_past (map f (range_with_len 0 n)) k [] (omega (arith, length-map-range_with_len f 0 n))

module _ {X Y : Type 0} where
  pub in_flat_map : (f : X → List Y) (xs : List X) (x : X) (y : Y) → In x xs → In y (f x) → In y (flat_map f xs)
  in_flat_map f [] x y i j = absurd i
  in_flat_map f (z ∷ xs) x y (inl same) j = in_left (f z) (flat_map f xs) y (subst (λ (w : X). In y (f w)) (sym same) j)
  in_flat_map f (z ∷ xs) x y (inr i) j = in_right (f z) (flat_map f xs) y (in_flat_map f xs x y i j)

  pub in_filter_map : (f : X → Option Y) (xs : List X) (x : X) (y : Y) → In x xs → f x ≡ Some y → In y (filter_map f xs)
  in_filter_map f [] x y i e = absurd i
  in_filter_map f (z ∷ xs) x y (inl same) e = subst (λ (o : Option Y). In y (cons_option o (filter_map f xs))) (sym (ap f same ∙ e)) (inl refl)
  in_filter_map f (z ∷ xs) x y (inr i) e = on (f z) (in_filter_map f xs x y i e)
    where
      on : (o : Option Y) → In y (filter_map f xs) → In y (cons_option o (filter_map f xs))
      on None j = j
      on (Some w) j = inr j

  -- what holds of all that is made of items
  pub all_made : (P : Y → Type 0) (f : X → Option Y) (Q : X → Type 0) → ((x : X) (y : Y) → f x ≡ Some y → Q x → P y) → (xs : List X) → All Q xs → All P (filter_map f xs)
  all_made P f Q gives [] each = All-nil P
  all_made P f Q gives (x ∷ xs) each = on (f x) refl (all_made P f Q gives xs (All-tail Q x xs each))
    where
      on : (o : Option Y) → f x ≡ o → All P (filter_map f xs) → All P (cons_option o (filter_map f xs))
      on None e rest = rest
      on (Some y) e rest = All-cons P y (filter_map f xs) (gives x y e (All-head Q x xs each)) rest

  -- and of all pairs
  pub pairs_made : (R : Y → Y → Type 0) (f : X → Option Y) (S : X → X → Type 0) → ((a b : X) (x y : Y) → f a ≡ Some x → f b ≡ Some y → S a b → R x y) → (xs : List X) → AllPairs S xs → AllPairs R (filter_map f xs)
  pairs_made R f S gives [] pairs = λ i j d less lt. absurd (omega arith)
  pairs_made R f S gives (a ∷ xs) pairs = on (f a) refl (pairs_made R f S gives xs (pairs_tail S a xs pairs))
    where
      on : (o : Option Y) → f a ≡ o → AllPairs R (filter_map f xs) → AllPairs R (cons_option o (filter_map f xs))
      on None e rest = rest
      on (Some x) e rest = pairs_cons R x (filter_map f xs) (all_made (R x) f (S a) (λ b y made before. gives a b x y e made before) xs (pairs_head S a xs pairs)) rest

  pub all_over : (P : Y → Type 0) (f : X → Y) (xs : List X) → All (λ x. P (f x)) xs → All P (map f xs)
  all_over P f [] each = All-nil P
  all_over P f (x ∷ xs) each = All-cons P (f x) (map f xs) (All-head (λ (z : X). P (f z)) x xs each) (all_over P f xs (All-tail (λ (z : X). P (f z)) x xs each))

  pub pairs_over : (R : Y → Y → Type 0) (f : X → Y) (xs : List X) → AllPairs (λ a b. R (f a) (f b)) xs → AllPairs R (map f xs)
  pairs_over R f [] pairs = λ i j d less lt. absurd (omega arith)
  pairs_over R f (x ∷ xs) pairs =
      pairs_cons R (f x) (map f xs) (all_over (R (f x)) f xs (pairs_head (λ (a b : X). R (f a) (f b)) x xs pairs)) (pairs_over R f xs (pairs_tail (λ (a b : X). R (f a) (f b)) x xs pairs))

-- and of pairs in two lists, each of the first with each of the second
pub pairs_joined : {X : Type 0} (R : X → X → Type 0) (xs ys : List X) → AllPairs R xs → AllPairs R ys → ((x y : X) → In x xs → In y ys → R x y) → AllPairs R (xs ++ ys)
pairs_joined R [] ys first last between = last
pairs_joined R (x ∷ xs) ys first last between =
    pairs_cons R x (xs ++ ys)
    (all_by_in (R x) (xs ++ ys) (λ z i. elim (in_either xs ys z i) [
      | inl j ↦ all_in (R x) xs (pairs_head R x xs first) z j
      | inr j ↦ between x z (inl refl) j
    ]))
    (pairs_joined R xs ys (pairs_tail R x xs first) last (λ w z i j. between w z (inr i) j))

-- whether a test passes something made of one of some items
pub any_map : {X Y : Type 0} (test : Y → Bool) (f : X → Y) (xs : List X) → list_any test (map f xs) ≡ list_any (λ x. test (f x)) xs
any_map test f [] = refl
any_map test f (x ∷ xs) = ap (λ (b : Bool). test (f x) || b) (any_map test f xs)
