-- The elements of a list, and what holds of each of them and each later one.
use Rattle.std.proofs.Common.{◌≡◌, ℕ, zero, suc, ◌+◌, ◌<◌, ◌≤◌, Bool, List, [], ◌∷◌, ◌++◌, length, map, get_or, Option, Some, None, refl, sym, ap, ◌∙◌, subst, arith, inl, inr, filter}
use Rattle.std.specs.Prelude.{◌⊎◌}
use Rattle.std.specs.List.{filter_map, flat_map, cons_option, AllPairs}
use Rattle.std.specs.List.Sorted.{IsStrictlyIncreasing}
use Rattle.std.proofs.lemmas.Bool.{cond_both}
use Rattle.std.proofs.lemmas.List.Kept.{AllPairs-cons}
use Rattle.nc_types.proofs.Members.{In, in_map, in_by_map, in_by_filter, in_by_filter_map, in_right, in_either, in_by_flat_map, all_by_in, contains_by_in}

-- ---- elements

abbrev pub Has : {A : Type 0} → List A → A → Type 0
Has xs x = In x xs

-- ---- pairs

-- R holds of each element and each later one
abbrev pub Pairs : {A : Type 0} → (A → A → Type 0) → List A → Type 0
Pairs R [] = Unit {0}
Pairs {A} R (x ∷ xs) = ((y : A) → Has xs y → R x y) × Pairs R xs

pub all_pairs : {A : Type 0} (R : A → A → Type 0) (xs : List A) → Pairs R xs → AllPairs R xs
all_pairs R [] pairs = λ i j d less below. absurd (omega (arith, less, below))
all_pairs R (x ∷ xs) pairs = AllPairs-cons R x xs (all_by_in (R x) xs pairs.0) (all_pairs R xs pairs.1)

pub pairs_weaker : {A : Type 0} (R S : A → A → Type 0) (xs : List A) → ((x y : A) → Has xs x → Has xs y → R x y → S x y) → Pairs R xs → Pairs S xs
pairs_weaker R S [] to pairs = tt
pairs_weaker R S (x ∷ xs) to pairs = (λ y h. to x y (inl refl) (inr h) (pairs.0 y h), pairs_weaker R S xs (λ a b ha hb. to a b (inr ha) (inr hb)) pairs.1)

pub pairs_map : {A B : Type 0} (f : A → B) (R : A → A → Type 0) (S : B → B → Type 0) (xs : List A) → ((x y : A) → Has xs x → Has xs y → R x y → S (f x) (f y)) → Pairs R xs → Pairs S (map f xs)
pairs_map f R S [] to pairs = tt
pairs_map {A} {B} f R S (x ∷ xs) to pairs =
    (λ y h. let found = in_by_map f xs y h in subst (S (f x)) found.2 (to x found.0 (inl refl) (inr found.1) (pairs.0 found.0 found.1)), pairs_map f R S xs (λ a b ha hb. to a b (inr ha) (inr hb)) pairs.1)

-- what is made of elements, related as they are
pub pairs_by_map : {A B : Type 0} (f : A → B) (S : B → B → Type 0) (xs : List A) → Pairs S (map f xs) → Pairs (λ x y. S (f x) (f y)) xs
pairs_by_map f S [] pairs = tt
pairs_by_map f S (x ∷ xs) pairs = (λ y h. pairs.0 (f y) (in_map f xs y h), pairs_by_map f S xs pairs.1)

pairs_more : {B : Type 0} (S : B → B → Type 0) (o : Option B) (ys : List B) → ((u : B) → o ≡ Some u → (v : B) → Has ys v → S u v) → Pairs S ys → Pairs S (cons_option o ys)
pairs_more S None ys first rest = rest
pairs_more S (Some u) ys first rest = (first u refl, rest)

pub pairs_kept : {A B : Type 0} (f : A → Option B) (R : A → A → Type 0) (S : B → B → Type 0) (xs : List A)
    → ((x y : A) (u v : B) → Has xs x → Has xs y → R x y → f x ≡ Some u → f y ≡ Some v → S u v) → Pairs R xs → Pairs S (filter_map f xs)
pairs_kept f R S [] to pairs = tt
pairs_kept {A} {B} f R S (x ∷ xs) to pairs =
    pairs_more S (f x) (filter_map f xs)
    (λ u e v h. let found = in_by_filter_map f xs v h in to x found.0 u v (inl refl) (inr found.1) (pairs.0 found.0 found.1) e found.2)
    (pairs_kept f R S xs (λ a b u v ha hb. to a b u v (inr ha) (inr hb)) pairs.1)

pub pairs_append : {A : Type 0} (R : A → A → Type 0) (xs ys : List A) → Pairs R xs → Pairs R ys → ((x y : A) → Has xs x → Has ys y → R x y) → Pairs R (xs ++ ys)
pairs_append R [] ys left right cross = right
pairs_append {A} R (x ∷ xs) ys left right cross = (
  λ y h. elim (in_either xs ys y h) [
    | inl first ↦ left.0 y first
    | inr second ↦ cross x y (inl refl) second
  ],
  pairs_append R xs ys left.1 right (λ a b ha hb. cross a b (inr ha) hb),
)

pub pairs_filter : {A : Type 0} (p : A → Bool) (R : A → A → Type 0) (xs : List A) → Pairs R xs → Pairs R (filter p xs)
pairs_filter p R [] pairs = tt
pairs_filter {A} p R (x ∷ xs) pairs =
    let rest = pairs_filter p R xs pairs.1 in
    cond_both (p x) (x ∷ filter p xs) (filter p xs) (Pairs R) (λ e. ((λ y h. pairs.0 y (in_by_filter p xs y h).0), rest)) (λ e. rest)

-- what holds of each element of one list and each of another behind it
pub pairs_across : {A : Type 0} (R : A → A → Type 0) (xs ys : List A) → Pairs R (xs ++ ys) → (x y : A) → Has xs x → Has ys y → R x y
pairs_across R [] ys pairs x y hx hy = absurd hx
pairs_across {A} R (a ∷ xs) ys pairs x y (inl same) hy = subst (λ (z : A). R z y) same (pairs.0 y (in_right xs ys y hy))
pairs_across R (a ∷ xs) ys pairs x y (inr later) hy = pairs_across R xs ys pairs.1 x y later hy

-- two elements are one, or they are related
pub pairs_either : {A : Type 0} (R : A → A → Type 0) (xs : List A) → ((x y : A) → R x y → R y x) → Pairs R xs → (x y : A) → Has xs x → Has xs y → (x ≡ y) ⊎ R x y
pairs_either R [] turned pairs x y hx hy = absurd hx
pairs_either R (a ∷ xs) turned pairs x y (inl ex) (inl ey) = inl (sym ex ∙ ey)
pairs_either {A} R (a ∷ xs) turned pairs x y (inl ex) (inr hy) = inr (subst (λ (z : A). R z y) ex (pairs.0 y hy))
pairs_either {A} R (a ∷ xs) turned pairs x y (inr hx) (inl ey) = inr (turned y x (subst (λ (z : A). R z x) ey (pairs.0 x hx)))
pairs_either R (a ∷ xs) turned pairs x y (inr hx) (inr hy) = pairs_either R xs turned pairs.1 x y hx hy

-- ---- order

-- the numbers of the elements ascend from above one bound up to another
abbrev pub Ascends : {A : Type 0} → (A → ℕ) → ℕ → ℕ → List A → Type 0
Ascends f low high [] = Unit {0}
Ascends f low high (x ∷ xs) = (low < f x) × (f x ≤ high) × Ascends f (f x) high xs

ascends_weaker : {A : Type 0} (f : A → ℕ) (low next high : ℕ) (xs : List A) → low ≤ next → Ascends f next high xs → Ascends f low high xs
ascends_weaker f low next high [] le up = tt
ascends_weaker f low next high (x ∷ xs) le up = (omega (arith, le, up.0), up.1, up.2)

pub ascends_map : {A B : Type 0} (f : A → B) (g : B → ℕ) (low high : ℕ) (xs : List A) → Ascends (λ x. g (f x)) low high xs → Ascends g low high (map f xs)
ascends_map f g low high [] up = tt
ascends_map f g low high (x ∷ xs) up = (up.0, up.1, ascends_map f g (g (f x)) high xs up.2)

ascends_more : {B : Type 0} (g : B → ℕ) (low next high : ℕ) (o : Option B) (ys : List B) → low < next → next ≤ high → ((y : B) → o ≡ Some y → g y ≡ next) → Ascends g next high ys → Ascends g low high (cons_option o ys)
ascends_more g low next high None ys below within same rest = ascends_weaker g low next high ys (omega (arith, below)) rest
ascends_more g low next high (Some y) ys below within same rest =
    let is = same y refl in
    (omega (arith, is, below), omega (arith, is, within), subst (λ (k : ℕ). Ascends g k high ys) (sym is) rest)

pub ascends_kept : {A B : Type 0} (h : A → Option B) (f : A → ℕ) (g : B → ℕ) → ((x : A) (y : B) → h x ≡ Some y → g y ≡ f x) → (low high : ℕ) (xs : List A) → Ascends f low high xs → Ascends g low high (filter_map h xs)
ascends_kept h f g same low high [] up = tt
ascends_kept h f g same low high (x ∷ xs) up = ascends_more g low (f x) high (h x) (filter_map h xs) up.0 up.1 (same x) (ascends_kept h f g same (f x) high xs up.2)

pub ascends_filter : {A : Type 0} (p : A → Bool) (f : A → ℕ) (low high : ℕ) (xs : List A) → Ascends f low high xs → Ascends f low high (filter p xs)
ascends_filter p f low high [] up = tt
ascends_filter p f low high (x ∷ xs) up =
    let rest = ascends_filter p f (f x) high xs up.2 in
    cond_both (p x) (x ∷ filter p xs) (filter p xs) (Ascends f low high) (λ e. (up.0, up.1, rest)) (λ e. ascends_weaker f low (f x) high (filter p xs) (let below = up.0 in omega arith) rest)

pub ascends_within : {A : Type 0} (f : A → ℕ) (low high : ℕ) (xs : List A) → Ascends f low high xs → (x : A) → Has xs x → (low < f x) × (f x ≤ high)
ascends_within f low high [] up x h = absurd h
ascends_within {A} f low high (y ∷ ys) up x (inl e) = subst (λ (z : A). (low < f z) × (f z ≤ high)) e (up.0, up.1)
ascends_within f low high (y ∷ ys) up x (inr h) = let later = ascends_within f (f y) high ys up.2 x h in (omega (arith, later.0, up.0), later.1)

pub ascends_pairs : {A : Type 0} (f : A → ℕ) (low high : ℕ) (xs : List A) → Ascends f low high xs → Pairs (λ x y. f x < f y) xs
ascends_pairs f low high [] up = tt
ascends_pairs f low high (x ∷ xs) up = (λ y h. (ascends_within f (f x) high xs up.2 y h).0, ascends_pairs f (f x) high xs up.2)

-- elements of one number are one
pub ascends_one : {A : Type 0} (f : A → ℕ) (low high : ℕ) (xs : List A) → Ascends f low high xs → (x y : A) → Has xs x → Has xs y → f x ≡ f y → x ≡ y
ascends_one f low high [] up x y hx hy same = absurd hx
ascends_one f low high (a ∷ xs) up x y (inl ex) (inl ey) same = sym ex ∙ ey
ascends_one f low high (a ∷ xs) up x y (inl ex) (inr hy) same = absurd (let later = (ascends_within f (f a) high xs up.2 y hy).0 in let here = ap f ex in omega arith)
ascends_one f low high (a ∷ xs) up x y (inr hx) (inl ey) same = absurd (let later = (ascends_within f (f a) high xs up.2 x hx).0 in let here = ap f ey in omega arith)
ascends_one f low high (a ∷ xs) up x y (inr hx) (inr hy) same = ascends_one f (f a) high xs up.2 x y hx hy same

pub increasing : (low high : ℕ) (xs : List ℕ) → Ascends (λ k. k) low high xs → IsStrictlyIncreasing xs
increasing low high [] up k below = absurd (omega (arith, below))
increasing low high (x ∷ []) up k below = absurd (omega (arith, below))
increasing low high (x ∷ y ∷ xs) up zero below = up.2.0
increasing low high (x ∷ y ∷ xs) up (suc k) below =
    let e : suc (k + 1) ≡ suc k + 1 = omega arith in
    subst (λ (j : ℕ). get_or (y ∷ xs) k 0 < get_or (x ∷ y ∷ xs) j 0) e (increasing x high (y ∷ xs) up.2 k (omega (arith, below)))

-- numbers that increase, from above one bound up to another
pub ascends_from : (low high : ℕ) (xs : List ℕ) → IsStrictlyIncreasing xs → ((k : ℕ) → Has xs k → (low < k) × (k ≤ high)) → Ascends (λ k. k) low high xs
ascends_from low high [] up within = tt
ascends_from low high (x ∷ []) up within = ((within x (inl refl)).0, (within x (inl refl)).1, tt)
ascends_from low high (x ∷ y ∷ xs) up within =
    let rest : Ascends (λ (k : ℕ). k) low high (y ∷ xs) = ascends_from low high (y ∷ xs) (λ k lt. let e : suc k + 1 ≡ suc (k + 1) = omega arith in subst (λ (j : ℕ). get_or (y ∷ xs) k 0 < get_or (x ∷ y ∷ xs) j 0) e (up (suc k) (omega (arith, lt)))) (λ k h. within k (inr h)) in
    ((within x (inl refl)).0, (within x (inl refl)).1, (up 0 (omega arith), rest.1, rest.2))

-- ---- pairs by places, and of parts of parts

pub pairs_all : {A : Type 0} (R : A → A → Type 0) (xs : List A) → AllPairs R xs → Pairs R xs
pairs_all R [] all = tt
pairs_all {A} R (x ∷ xs) all = (
  λ y h. let at = contains_by_in xs y h in subst (R x) at.2 (all 0 (suc at.0) y (omega arith) (let lt : at.0 < length xs = at.1 in omega arith)),
  pairs_all R xs (λ i j d less below. all (suc i) (suc j) d (omega (arith, less)) (omega (arith, below))),
)

pub pairs_flat : {A B : Type 0} (f : A → List B) (R : A → A → Type 0) (S : B → B → Type 0) (xs : List A)
    → ((x : A) → Has xs x → Pairs S (f x)) → ((x y : A) → Has xs x → Has xs y → R x y → (u v : B) → Has (f x) u → Has (f y) v → S u v) → Pairs R xs → Pairs S (flat_map f xs)
pairs_flat f R S [] own to pairs = tt
pairs_flat {A} {B} f R S (x ∷ xs) own to pairs =
    pairs_append S (f x) (flat_map f xs) (own x (inl refl)) (pairs_flat f R S xs (λ y h. own y (inr h)) (λ y z hy hz. to y z (inr hy) (inr hz)) pairs.1)
    (λ u v hu hv. let at = in_by_flat_map f xs v hv in to x at.0 (inl refl) (inr at.1) (pairs.0 at.0 at.1) u v hu at.2)

-- ---- maps

pub kept_map : {A B C : Type 0} (h : B → Option C) (f : A → B) (xs : List A) → filter_map h (map f xs) ≡ filter_map (λ x. h (f x)) xs
kept_map h f [] = refl
kept_map {A} {B} {C} h f (x ∷ xs) = ap (cons_option (h (f x))) (kept_map h f xs)
