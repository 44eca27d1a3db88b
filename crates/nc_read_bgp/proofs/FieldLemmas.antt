-- What statements one by one leave of each field, and what is decided by the last that speaks of it.
use Rattle.std.proofs.Common.{◌≡◌, Bool, true, false, ◌||◌, List, [], ◌∷◌, ◌++◌, map, Option, Some, None, refl, sym, ap, ◌∙◌}
use Rattle.std.specs.Prelude.{unwrap_or}
use Rattle.std.specs.List.{fold, filter_map, cons_option, last_or, list_any}
use Rattle.std.specs.Option.{option_map_or, option_or}
use Rattle.std.proofs.lemmas.List.{append_assoc}

-- ---- lists

-- what replaces each other leaves the last
fold_last : {A : Type 0} (a : A) (xs : List A) → fold (λ a x. x) a xs ≡ unwrap_or (last_or None xs) a
fold_last a [] = refl
fold_last {A} a (x ∷ xs) = fold_last x xs ∙ of_some x xs
  where
    of_some : (x : A) (xs : List A) → unwrap_or (last_or None xs) x ≡ unwrap_or (last_or (Some x) xs) a
    of_some x [] = refl
    of_some x (y ∷ ys) = sym (any_other y ys)
      where
        any_other : (y : A) (ys : List A) → unwrap_or (last_or (Some y) ys) a ≡ unwrap_or (last_or (Some y) ys) x
        any_other y [] = refl
        any_other y (z ∷ zs) = any_other z zs

pub push_all : {A : Type 0} (xs ys : List A) → fold (λ xs y. xs ++ y ∷ []) xs ys ≡ xs ++ ys
push_all [] [] = refl
push_all {A} (x ∷ xs) [] = ap (λ (ys : List A). x ∷ ys) (push_all xs [])
push_all xs (y ∷ ys) = push_all (xs ++ y ∷ []) ys ∙ append_assoc xs (y ∷ []) ys

-- ---- a field of what steps leave

module _ {P X : Type 0} (step : P → X → P) where
  -- where what some of the values say changes it
  pub field_behind : {E Y : Type 0} (get : P → E) (by : X → Option Y) (put : E → Y → E) → ((p : P) (x : X) → get (step p x) ≡ option_map_or (put (get p)) (by x) (get p))
      → (p : P) (xs : List X) → get (fold step p xs) ≡ fold put (get p) (filter_map by xs)
  field_behind get by put steps p [] = refl
  field_behind {E} {Y} get by put steps p (x ∷ xs) =
      field_behind get by put steps (step p x) xs ∙ ap (λ (e : E). fold put e (filter_map by xs)) (steps p x) ∙ on (by x)
    where
      on : (o : Option Y) → fold put (option_map_or (put (get p)) o (get p)) (filter_map by xs) ≡ fold put (get p) (cons_option o (filter_map by xs))
      on None = refl
      on (Some y) = refl

  -- where each value changes it
  pub field_by_all : {E Y : Type 0} (get : P → E) (of : X → Y) (put : E → Y → E) → ((p : P) (x : X) → get (step p x) ≡ put (get p) (of x))
      → (p : P) (xs : List X) → get (fold step p xs) ≡ fold put (get p) (map of xs)
  field_by_all get of put steps p [] = refl
  field_by_all {E} {Y} get of put steps p (x ∷ xs) = field_by_all get of put steps (step p x) xs ∙ ap (λ (e : E). fold put e (map of xs)) (steps p x)

  -- where the last decides
  pub last_behind : {E : Type 0} (get : P → E) (by : X → Option E) → ((p : P) (x : X) → get (step p x) ≡ option_map_or (λ e. e) (by x) (get p))
      → (p : P) (xs : List X) → get (fold step p xs) ≡ unwrap_or (last_or None (filter_map by xs)) (get p)
  last_behind get by steps p xs = field_behind get by (λ a e. e) steps p xs ∙ fold_last (get p) (filter_map by xs)

  -- where it may be missing
  pub option_behind : {E : Type 0} (get : P → Option E) (by : X → Option E) → ((p : P) (x : X) → get (step p x) ≡ option_or (by x) (get p))
      → (p : P) (xs : List X) → get (fold step p xs) ≡ last_or (get p) (filter_map by xs)
  option_behind get by steps p [] = refl
  option_behind {E} get by steps p (x ∷ xs) =
      option_behind get by steps (step p x) xs ∙ ap (λ (o : Option E). last_or o (filter_map by xs)) (steps p x) ∙ on (by x)
    where
      on : (o : Option E) → last_or (option_or o (get p)) (filter_map by xs) ≡ last_or (get p) (cons_option o (filter_map by xs))
      on None = refl
      on (Some y) = refl

  -- where one that says so is enough
  pub flag_behind : (get : P → Bool) (is : X → Bool) → ((p : P) (x : X) → get (step p x) ≡ (is x || get p)) → (p : P) (xs : List X) → get (fold step p xs) ≡ (list_any is xs || get p)
  flag_behind get is steps p [] = refl
  flag_behind get is steps p (x ∷ xs) =
      flag_behind get is steps (step p x) xs ∙ ap (λ (b : Bool). list_any is xs || b) (steps p x) ∙ turn (is x) (list_any is xs)
    where
      turn : (a b : Bool) → (b || (a || get p)) ≡ ((a || b) || get p)
      turn true true = refl
      turn true false = refl
      turn false b = refl
