-- Lists that are made part by part: what is in them, and that they stand in order.
use Rattle.std.proofs.Common.{◌≡◌, ℕ, zero, suc, ◌+◌, ◌<◌, ◌≤◌, Bool, true, false, cond, List, [], ◌∷◌, ◌++◌, map, AllPairs, Option, Some, None, refl, sym, subst, arith, inl, inr}
use Rattle.std.specs.List.{cons_option, filter_map, find, flat_map, range_with_len}
use Rattle.std.proofs.lemmas.Bool.{cases_lt}
use Rattle.nc_types.proofs.Members.{In, in_left, in_right, in_either, in_by_map, in_by_flat_map, in_by_filter_map, all_in, all_by_in}
use Rattle.nc_tables.proofs.ByPrefix.{pairs_cons, pairs_head, pairs_tail}

-- ---- what is in a list

module _ {X Y : Type 0} where
  -- an item of a part
  pub in_part : (parts : X → List Y) (xs : List X) (y : Y) → (x : X) × (In x xs) × (In y (parts x)) → In y (flat_map parts xs)
  in_part parts [] y r = absurd (r.1)
  in_part parts (w ∷ xs) y r = on r.1 (λ there. in_part parts xs y (r.0, there, r.2))
    where
      on : In r.0 (w ∷ xs) → (In r.0 xs → In y (flat_map parts xs)) → In y (parts w ++ flat_map parts xs)
      on (inl same) behind = in_left (parts w) (flat_map parts xs) y (subst (λ (v : X). In y (parts v)) (sym same) r.2)
      on (inr there) behind = in_right (parts w) (flat_map parts xs) y (behind there)

-- what is found is in the list, and passes
pub found_in : {X : Type 0} (test : X → Bool) (xs : List X) (x : X) → find test xs ≡ Some x → In x xs × (test x ≡ true)
found_in test [] x e = absurd (cc)
found_in {X} test (w ∷ xs) x e = on (test w) refl (found_in test xs x) e
  where
    behind : In x xs × (test x ≡ true) → In x (w ∷ xs) × (test x ≡ true)
    behind r = (inr r.0, r.1)

    on : (b : Bool) → test w ≡ b → (find test xs ≡ Some x → In x xs × (test x ≡ true)) → cond b (Some w) (find test xs) ≡ Some x → In x (w ∷ xs) × (test x ≡ true)
    on true is later f = let same : w ≡ x = cc in (inl same, subst (λ (v : X). test v ≡ true) same is)
    on false is later f = behind (later f)

-- the numbers of a range
pub within : (from count k : ℕ) → In k (range_with_len from count) → (from ≤ k) × (k < from + count)
within from zero k there = absurd there
within from (suc count) k (inl same) = (omega arith, omega arith)
within from (suc count) k (inr there) = let r = within (from + 1) count k there in (let low : from + 1 ≤ k = r.0 in omega arith, let high : k < from + 1 + count = r.1 in omega arith)

pub among_range : (from count k : ℕ) → from ≤ k → k < from + count → In k (range_with_len from count)
among_range from zero k low high = absurd (omega arith)
among_range from (suc count) k low high = elim (cases_lt from k) [
  | inl lt ↦ inr (among_range (from + 1) count k (omega arith) (omega arith))
  | inr le ↦ inl (omega arith)
]

-- ---- order

pub no_pairs : {X : Type 0} (R : X → X → Type 0) → AllPairs R []
no_pairs R i j d before there = absurd (omega arith)

-- two lists, each in order and the one before the other
pub pairs_joined : {X : Type 0} (R : X → X → Type 0) (xs ys : List X) → AllPairs R xs → AllPairs R ys → ((x y : X) → In x xs → In y ys → R x y) → AllPairs R (xs ++ ys)
pairs_joined R [] ys first last between = last
pairs_joined R (x ∷ xs) ys first last between =
    pairs_cons R x (xs ++ ys)
    (all_by_in (R x) (xs ++ ys) (λ z i. elim (in_either xs ys z i) [
      | inl j ↦ all_in (R x) xs (pairs_head R x xs first) z j
      | inr j ↦ between x z (inl refl) j
    ]))
    (pairs_joined R xs ys (pairs_tail R x xs first) last (λ w z i j. between w z (inr i) j))

module _ {X Y : Type 0} (S : X → X → Type 0) (R : Y → Y → Type 0) where
  -- what is made of each item
  pub pairs_made : (make : X → Y) → ((a b : X) → S a b → R (make a) (make b)) → (xs : List X) → AllPairs S xs → AllPairs R (map make xs)
  pairs_made make step [] pairs = no_pairs R
  pairs_made make step (x ∷ xs) pairs =
      pairs_cons R (make x) (map make xs)
      (all_by_in (R (make x)) (map make xs) (λ z i. let r = in_by_map make xs z i in subst (R (make x)) r.2 (step x r.0 (all_in (S x) xs (pairs_head S x xs pairs) r.0 r.1))))
      (pairs_made make step xs (pairs_tail S x xs pairs))

  -- the parts of each item
  pub pairs_parts : (parts : X → List Y) → ((x : X) → AllPairs R (parts x)) → ((a b : X) → S a b → (y z : Y) → In y (parts a) → In z (parts b) → R y z) → (xs : List X) → AllPairs S xs → AllPairs R (flat_map parts xs)
  pairs_parts parts each step [] pairs = no_pairs R
  pairs_parts parts each step (x ∷ xs) pairs =
      pairs_joined R (parts x) (flat_map parts xs) (each x) (pairs_parts parts each step xs (pairs_tail S x xs pairs))
      (λ y z i j. let r = in_by_flat_map parts xs z j in step x r.0 (all_in (S x) xs (pairs_head S x xs pairs) r.0 r.1) y z i r.2)

pub range_rises : (from count : ℕ) → AllPairs (λ (a b : ℕ). a < b) (range_with_len from count)
range_rises from zero = no_pairs (λ (a b : ℕ). a < b)
range_rises from (suc count) =
    pairs_cons (λ (a b : ℕ). a < b) from (range_with_len (from + 1) count)
    (all_by_in (λ (b : ℕ). from < b) (range_with_len (from + 1) count) (λ k i. let low : from + 1 ≤ k = (within (from + 1) count k i).0 in omega arith))
    (range_rises (from + 1) count)

-- what is made of some numbers of a range, each told by what is made of it
pub made_rise : {X : Type 0} (make : ℕ → Option X) (key : X → ℕ) → ((k : ℕ) (x : X) → make k ≡ Some x → key x ≡ k) → (from count : ℕ) → AllPairs (λ (a b : X). key a < key b) (filter_map make (range_with_len from count))
made_rise {X} make key told from zero = no_pairs (λ (a b : X). key a < key b)
made_rise {X} make key told from (suc count) = on (make from) refl (made_rise make key told (from + 1) count)
  where
    rest : List X
    rest = filter_map make (range_with_len (from + 1) count)

    on : (o : Option X) → make from ≡ o → AllPairs (λ (a b : X). key a < key b) rest → AllPairs (λ (a b : X). key a < key b) (cons_option o rest)
    on None is later = later
    on (Some x) is later =
        pairs_cons (λ (a b : X). key a < key b) x rest
        (all_by_in (λ (z : X). key x < key z) rest (λ z i.
        let r = in_by_filter_map make (range_with_len (from + 1) count) z i in
        let first : key x ≡ from = told from x is in
        let next : key z ≡ r.0 = told r.0 z r.2 in
        let low : from + 1 ≤ r.0 = (within (from + 1) count r.0 r.1).0 in
        omega arith))
        later
