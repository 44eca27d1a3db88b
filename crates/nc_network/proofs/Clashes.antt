-- The earliest clash of lists that are put together.
use Rattle.std.proofs.Common.{◌≡◌, ℕ, List, [], ◌∷◌, ◌++◌, Option, Some, None, refl, sym, ap, ◌∙◌, ◌≤◌, length, drop}
use Rattle.std.specs.List.{flat_map, filter_map, cons_option}
use Rattle.std.specs.Option.{option_map_or, option_to_list}
use Rattle.std.proofs.lemmas.List.{drop_all}
use Rattle.nc_types.specs.Joining.{Clash, earlier, earliest, with_later}
use Rattle.nc_network.specs.Steps.{merge, first_of_all}
use Rattle.nc_network.proofs.ClashOrder.{merge-none, merge_assoc, merge_cross}

pub earliest-cons : (c : Clash) (cs : List Clash) → earliest (c ∷ cs) ≡ merge (Some c) (earliest cs)
earliest-cons c cs = on (earliest cs) where
  on : (o : Option Clash) → Some (option_map_or (earlier c) o c) ≡ merge (Some c) o
  on None = refl
  on (Some d) = refl

pub earliest-append : (cs ds : List Clash) → earliest (cs ++ ds) ≡ merge (earliest cs) (earliest ds)
earliest-append [] ds = refl
earliest-append (c ∷ cs) ds =
    earliest-cons c (cs ++ ds) ∙ ap (merge (Some c)) (earliest-append cs ds) ∙ sym (merge_assoc (Some c) (earliest cs) (earliest ds)) ∙ ap (λ (o : Option Clash). merge o (earliest ds)) (sym (earliest-cons c cs))

pub all-cons : {A : Type 0} (f : A → List Clash) (x : A) (xs : List A) → first_of_all f (x ∷ xs) ≡ merge (earliest (f x)) (first_of_all f xs)
all-cons f x xs = earliest-append (f x) (flat_map f xs)

-- what each item makes in two ways
pub all-both : {A : Type 0} (f g h : A → List Clash) → ((x : A) → earliest (h x) ≡ merge (earliest (f x)) (earliest (g x))) → (xs : List A) → first_of_all h xs ≡ merge (first_of_all f xs) (first_of_all g xs)
all-both f g h each [] = refl
all-both {A} f g h each (x ∷ xs) =
    all-cons h x xs ∙ ap (λ (o : Option Clash). merge o (first_of_all h xs)) (each x) ∙ ap (merge (merge (earliest (f x)) (earliest (g x)))) (all-both f g h each xs)
    ∙ merge_cross (earliest (f x)) (earliest (g x)) (first_of_all f xs) (first_of_all g xs)
    ∙ ap (λ (o : Option Clash). merge o (merge (earliest (g x)) (first_of_all g xs))) (sym (all-cons f x xs)) ∙ ap (merge (first_of_all f (x ∷ xs))) (sym (all-cons g x xs))

pub all-none : {A : Type 0} (xs : List A) → first_of_all (λ (x : A). []) xs ≡ None
all-none [] = refl
all-none (x ∷ xs) = all-none xs

pub all-same : {A : Type 0} (f g : A → List Clash) → ((x : A) → earliest (f x) ≡ earliest (g x)) → (xs : List A) → first_of_all f xs ≡ first_of_all g xs
all-same f g each [] = refl
all-same f g each (x ∷ xs) =
    all-cons f x xs ∙ ap (λ (o : Option Clash). merge o (first_of_all f xs)) (each x) ∙ ap (merge (earliest (g x))) (all-same f g each xs) ∙ sym (all-cons g x xs)

-- what the pairs of two lists make, whichever list goes first
pub all-turned : {A B : Type 0} (f : A → B → List Clash) (xs : List A) (ys : List B) → first_of_all (λ y. flat_map (λ x. f x y) xs) ys ≡ first_of_all (λ x. flat_map (f x) ys) xs
all-turned f [] ys = all-none ys
all-turned {A} {B} f (x ∷ xs) ys =
    all-both (f x) (λ (y : B). flat_map (λ (x : A). f x y) xs) (λ (y : B). f x y ++ flat_map (λ (x : A). f x y) xs) (λ y. earliest-append (f x y) (flat_map (λ (x : A). f x y) xs)) ys
    ∙ ap (merge (first_of_all (f x) ys)) (all-turned f xs ys) ∙ sym (all-cons (λ (x : A). flat_map (f x) ys) x xs)

pub all-append : {B : Type 0} (f : B → List Clash) (xs ys : List B) → first_of_all f (xs ++ ys) ≡ merge (first_of_all f xs) (first_of_all f ys)
all-append f [] ys = refl
all-append f (x ∷ xs) ys =
    all-cons f x (xs ++ ys) ∙ ap (merge (earliest (f x))) (all-append f xs ys) ∙ sym (merge_assoc (earliest (f x)) (first_of_all f xs) (first_of_all f ys)) ∙ ap (λ (o : Option Clash). merge o (first_of_all f ys)) (sym (all-cons f x xs))

-- a list of lists
pub all-joined : {A B : Type 0} (g : A → List B) (f : B → List Clash) (xs : List A) → first_of_all f (flat_map g xs) ≡ first_of_all (λ x. flat_map f (g x)) xs
all-joined g f [] = refl
all-joined {A} {B} g f (x ∷ xs) =
    all-append f (g x) (flat_map g xs) ∙ ap (merge (first_of_all f (g x))) (all-joined g f xs) ∙ sym (all-cons (λ (x : A). flat_map f (g x)) x xs)

-- ---- a search that has found something

-- one more item, and no more
pub found-more : {A : Type 0} (f : A → List Clash) (found : Option Clash) (x : A) (xs ys : List A) → ys ≡ x ∷ xs → merge (merge found (earliest (f x))) (first_of_all f xs) ≡ merge found (first_of_all f ys)
found-more {A} f found x xs ys e =
    merge_assoc found (earliest (f x)) (first_of_all f xs) ∙ ap (merge found) (sym (all-cons f x xs)) ∙ ap (λ (zs : List A). merge found (first_of_all f zs)) (sym e)

-- one more item with all later ones
pub pairs-more : {A : Type 0} (make : A → A → List Clash) (found : Option Clash) (x : A) (xs ys : List A) → ys ≡ x ∷ xs
    → merge (merge found (first_of_all (make x) xs)) (earliest (with_later make xs)) ≡ merge found (earliest (with_later make ys))
pairs-more {A} make found x xs ys e =
    merge_assoc found (first_of_all (make x) xs) (earliest (with_later make xs)) ∙ ap (merge found) (sym (earliest-append (flat_map (make x) xs) (with_later make xs)))
    ∙ ap (λ (zs : List A). merge found (earliest (with_later make zs))) (sym e)

-- what is kept of a list
pub all-kept : {A B : Type 0} (h : A → Option B) (f : B → List Clash) (xs : List A) → first_of_all f (filter_map h xs) ≡ first_of_all (λ x. flat_map f (option_to_list (h x))) xs
all-kept h f [] = refl
all-kept {A} {B} h f (x ∷ xs) =
    on (h x) ∙ ap (merge (first_of_all f (option_to_list (h x)))) (all-kept h f xs) ∙ sym (all-cons (λ (x : A). flat_map f (option_to_list (h x))) x xs) where
      on : (o : Option B) → first_of_all f (cons_option o (filter_map h xs)) ≡ merge (first_of_all f (option_to_list o)) (first_of_all f (filter_map h xs))
      on None = refl
      on (Some y) = all-cons f y (filter_map h xs) ∙ ap (λ (o : Option Clash). merge o (first_of_all f (filter_map h xs))) (sym (all-cons f y [] ∙ merge-none (earliest (f y))))

-- two searches, one after the other
pub found-two : (found r1 r2 : Option Clash) (ps qs : List Clash) → r1 ≡ merge found (earliest ps) → r2 ≡ merge r1 (earliest qs) → r2 ≡ merge found (earliest (ps ++ qs))
found-two found r1 r2 ps qs one two =
    two ∙ ap (λ (o : Option Clash). merge o (earliest qs)) one ∙ merge_assoc found (earliest ps) (earliest qs) ∙ ap (merge found) (sym (earliest-append ps qs))

pub all-one : {A : Type 0} (f : A → List Clash) (x : A) → first_of_all f (x ∷ []) ≡ earliest (f x)
all-one f x = all-cons f x [] ∙ merge-none (earliest (f x))

-- no item is left
pub found-all : {A : Type 0} (f : A → List Clash) (found total : Option Clash) (i : ℕ) (xs : List A) → length xs ≤ i → merge found (first_of_all f (drop i xs)) ≡ total → found ≡ total
found-all {A} f found total i xs past e = sym (merge-none found) ∙ ap (λ (ys : List A). merge found (first_of_all f ys)) (sym (drop_all i xs past)) ∙ e

-- where nothing was found, there is nothing
pub found-none : (o : Option Clash) (cs : List Clash) → o ≡ None → o ≡ earliest cs → cs ≡ []
found-none o [] none e = refl
found-none o (c ∷ cs) none e = absurd (let same : None ≡ Some (option_map_or (earlier c) (earliest cs) c) = sym none ∙ e in cc)
