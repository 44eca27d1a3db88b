-- The names of the access lists that are applied, and the lines that are odd, one by one.
use Rattle.std.proofs.Common.{◌≡◌, ℕ, ◌+◌, ◌<◌, Bool, false, ◌||◌, List, [], ◌∷◌, ◌++◌, length, take, get_or, Option, Some, None, refl, sym, ap, ◌∙◌}
use Rattle.std.specs.List.{filter_map, flat_map, cons_option, list_any}
use Rattle.std.specs.Str.{bytes_eq}
use Rattle.std.proofs.lemmas.Grind.{flat_map-append}
use Rattle.std.proofs.lemmas.List.{append-nil, append_assoc, take_more}
use Rattle.std.proofs.lemmas.List.Elements.{filter_map-append}
use Rattle.nc_types.proofs.Truth.{or_assoc}
use Rattle.nc_types.specs.Faults.{lowest}
use Rattle.nc_types.specs.declared.fault.Fault.{Fault}

-- one more name, if there is one
pub applied-more : (q : List ℕ) (o : Option (List ℕ)) (old new names : List (List ℕ)) → list_any (bytes_eq q) new ≡ (list_any (bytes_eq q) old || list_any (bytes_eq q) (cons_option o []))
    → (list_any (bytes_eq q) new || list_any (bytes_eq q) names) ≡ (list_any (bytes_eq q) old || list_any (bytes_eq q) (cons_option o names))
applied-more q o old new names e =
    ap (λ (b : Bool). b || list_any (bytes_eq q) names) e ∙ or_assoc (list_any (bytes_eq q) old) (list_any (bytes_eq q) (cons_option o [])) (list_any (bytes_eq q) names)
    ∙ ap (λ (b : Bool). list_any (bytes_eq q) old || b) (joins o)
  where
    joins : (o : Option (List ℕ)) → (list_any (bytes_eq q) (cons_option o []) || list_any (bytes_eq q) names) ≡ list_any (bytes_eq q) (cons_option o names)
    joins None = refl
    joins (Some name) = or_assoc (bytes_eq q name) false (list_any (bytes_eq q) names)

module _ {A B : Type 0} (h : A → Option B) where
  -- what is kept of one more
  kept-more : (xs : List A) (i : ℕ) (d : A) → i < length xs → filter_map h (take (i + 1) xs) ≡ filter_map h (take i xs) ++ cons_option (h (get_or xs i d)) []
  kept-more xs i d lt = ap (filter_map h) (take_more xs i d lt) ∙ filter_map-append h (take i xs) (get_or xs i d ∷ [])

-- the lowest fault with that of one more line
pub odd-more : {A : Type 0} (h : A → Option Fault) (fs : List Fault) (xs : List A) (i : ℕ) (d : A) → i < length xs
    → lowest ((fs ++ filter_map h (take i xs)) ++ cons_option (h (get_or xs i d)) []) ≡ lowest (fs ++ filter_map h (take (i + 1) xs))
odd-more h fs xs i d lt =
    ap (λ (gs : List Fault). lowest gs) (append_assoc fs (filter_map h (take i xs)) (cons_option (h (get_or xs i d)) [])) ∙ ap (λ (gs : List Fault). lowest (fs ++ gs)) (sym (kept-more h xs i d lt))

-- and with those of one more part
pub parts-more : {A B : Type 0} (h : B → Option Fault) (f : A → List B) (fs : List Fault) (xs : List A) (x : A)
    → lowest ((fs ++ filter_map h (flat_map f xs)) ++ filter_map h (f x)) ≡ lowest (fs ++ filter_map h (flat_map f (xs ++ x ∷ [])))
parts-more {A} {B} h f fs xs x =
    ap (λ (gs : List Fault). lowest gs) (append_assoc fs (filter_map h (flat_map f xs)) (filter_map h (f x)))
    ∙ ap (λ (gs : List Fault). lowest (fs ++ gs)) (sym (filter_map-append h (flat_map f xs) (f x)))
    ∙ ap (λ (ys : List B). lowest (fs ++ filter_map h ys)) (sym (flat_map-append f xs (x ∷ []) ∙ ap (λ (ys : List B). flat_map f xs ++ ys) (append-nil (f x))))
