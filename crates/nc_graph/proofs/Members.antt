-- Membership by recursion on the list, and what the tests of a list say by it.
use Rattle.std.proofs.Common.{◌≡◌, ℕ, suc, zero, ◌<◌, ◌⊎◌, inl, inr, Bool, true, false, ◌||◌, ◌&&◌, List, [], ◌∷◌, ◌++◌, length, Some, slice_get, sym, ap, ◌∙◌, subst, refl, arith}
use Rattle.std.proofs.lemmas.Bool.{false≢true}
use Rattle.std.specs.List.{list_any, list_all, All, flat_map, AllByRecursion}
use Rattle.std.proofs.lemmas.List.Elements.{recursion_from_All, All-from_recursion}

abbrev pub In : {X : Type 0} → X → List X → Type 0
In x [] = ⊥
In x (y ∷ ys) = (y ≡ x) ⊎ In x ys

-- an element that passes
abbrev pub Found : {X : Type 0} → (X → Bool) → List X → Type 0
Found {X} p xs = (x : X) × In x xs × (p x ≡ true)

pub any_in : {X : Type 0} (p : X → Bool) (xs : List X) → list_any p xs ≡ true → Found p xs
any_in p [] h = absurd (false≢true h)
any_in p (y ∷ ys) h =
    elim (p y) as (λ b. p y ≡ b → (b || list_any p ys) ≡ true → Found p (y ∷ ys))
    [ true ↦ λ e w. (y, inl refl, e) | false ↦ λ e w. let r = any_in p ys w in (r.0, inr r.1, r.2) ] refl h

pub in_any : {X : Type 0} (p : X → Bool) (xs : List X) (x : X) → In x xs → p x ≡ true → list_any p xs ≡ true
in_any p [] x i h = absurd i
in_any p (y ∷ ys) x i h =
    elim i [ inl e ↦ ap (λ b. b || list_any p ys) (ap p e ∙ h) | inr i' ↦ or_right (p y) (list_any p ys) (in_any p ys x i' h) ]
  where
    or_right : (a b : Bool) → b ≡ true → (a || b) ≡ true
    or_right true b e = refl
    or_right false b e = e

pub all_in : {X : Type 0} (p : X → Bool) (xs : List X) (x : X) → list_all p xs ≡ true → In x xs → p x ≡ true
all_in p [] x h i = absurd i
all_in p (y ∷ ys) x h i =
    elim (p y) as (λ b. p y ≡ b → (b && list_all p ys) ≡ true → p x ≡ true)
    [ true ↦ λ e w. elim i [ inl s ↦ ap p (sym s) ∙ e | inr i' ↦ all_in p ys x w i' ] | false ↦ λ e w. absurd (false≢true w) ] refl h

pub in_all : {X : Type 0} (p : X → Bool) (xs : List X) → ((x : X) → In x xs → p x ≡ true) → list_all p xs ≡ true
in_all p [] h = refl
in_all p (y ∷ ys) h = ap (λ b. b && list_all p ys) (h y (inl refl)) ∙ in_all p ys (λ x i. h x (inr i))

-- two tests that agree on the list
pub any_same : {X : Type 0} (p q : X → Bool) (xs : List X) → ((x : X) → In x xs → p x ≡ q x) → list_any p xs ≡ list_any q xs
any_same p q [] h = refl
any_same p q (y ∷ ys) h =
    ap (λ b. b || list_any p ys) (h y (inl refl)) ∙ ap (λ b. q y || b) (any_same p q ys (λ x i. h x (inr i)))

pub all_same : {X : Type 0} (p q : X → Bool) (xs : List X) → ((x : X) → In x xs → p x ≡ q x) → list_all p xs ≡ list_all q xs
all_same p q [] h = refl
all_same p q (y ∷ ys) h =
    ap (λ b. b && list_all p ys) (h y (inl refl)) ∙ ap (λ b. q y && b) (all_same p q ys (λ x i. h x (inr i)))

-- an element by its place
pub get_in : {X : Type 0} (xs : List X) (n : ℕ) (x : X) → slice_get xs n ≡ Some x → In x xs
get_in [] n x h = absurd (cc)
get_in (y ∷ ys) zero x h = inl (cc)
get_in (y ∷ ys) (suc n) x h = inr (get_in ys n x h)

-- the element at a place within the list
abbrev pub At : {X : Type 0} → List X → ℕ → Type 0
At {X} xs n = (x : X) × (slice_get xs n ≡ Some x)

pub at_within : {X : Type 0} (xs : List X) (n : ℕ) → n < length xs → At xs n
at_within [] n h = absurd (omega arith)
at_within (y ∷ ys) zero h = (y, refl)
at_within (y ∷ ys) (suc n) h = at_within ys n (omega arith)

-- joined lists
pub in_left : {X : Type 0} (xs ys : List X) (x : X) → In x xs → In x (xs ++ ys)
in_left [] ys x i = absurd i
in_left (z ∷ zs) ys x i = elim i [ inl e ↦ inl e | inr i' ↦ inr (in_left zs ys x i') ]

pub in_right : {X : Type 0} (xs ys : List X) (x : X) → In x ys → In x (xs ++ ys)
in_right [] ys x i = i
in_right (z ∷ zs) ys x i = inr (in_right zs ys x i)

pub in_parts : {X : Type 0} (xs ys : List X) (x : X) → In x (xs ++ ys) → In x xs ⊎ In x ys
in_parts [] ys x i = inr i
in_parts (z ∷ zs) ys x i =
    elim i [ inl e ↦ inl (inl e) | inr i' ↦ elim (in_parts zs ys x i') [ inl a ↦ inl (inr a) | inr b ↦ inr b ] ]

pub in_flat_map : {X Y : Type 0} (f : X → List Y) (xs : List X) (x : X) (y : Y) → In x xs → In y (f x) → In y (flat_map f xs)
in_flat_map f [] x y i h = absurd i
in_flat_map f (z ∷ zs) x y i h =
    elim i [ inl e ↦ in_left (f z) (flat_map f zs) y (subst (λ w. In y (f w)) (sym e) h) | inr i' ↦ in_right (f z) (flat_map f zs) y (in_flat_map f zs x y i' h) ]

-- where an element of joined pieces comes from
abbrev pub From : {X Y : Type 0} → (X → List Y) → List X → Y → Type 0
From {X} f xs y = (x : X) × In x xs × In y (f x)

pub flat_map_in : {X Y : Type 0} (f : X → List Y) (xs : List X) (y : Y) → In y (flat_map f xs) → From f xs y
flat_map_in f [] y i = absurd i
flat_map_in f (z ∷ zs) y i =
    elim (in_parts (f z) (flat_map f zs) y i)
    [ inl a ↦ (z, inl refl, a) | inr b ↦ let r = flat_map_in f zs y b in (r.0, inr r.1, r.2) ]

-- what holds of all elements holds of each
pub of_all : {X : Type 0} (P : X → Type 0) (xs : List X) (x : X) → All P xs → In x xs → P x
of_all P xs x h i = by_rec xs (recursion_from_All P xs h) i
  where
    by_rec : (ys : List _) → AllByRecursion P ys → In x ys → P x
    by_rec [] h i = absurd i
    by_rec (y ∷ ys) h i = elim i [ inl e ↦ subst P e h.0 | inr i' ↦ by_rec ys h.1 i' ]

-- and what holds of each holds of all
pub all_from : {X : Type 0} (P : X → Type 0) (xs : List X) → ((x : X) → In x xs → P x) → All P xs
all_from P xs h = All-from_recursion P xs (each xs h)
  where
    each : (ys : List _) → ((x : _) → In x ys → P x) → AllByRecursion P ys
    each [] h = tt
    each (y ∷ ys) h = (h y (inl refl), each ys (λ x i. h x (inr i)))
