-- Lists with one more at the end.
use Rattle.std.proofs.Common.{◌≡◌, List, [], ◌∷◌, ◌++◌, Option, Some, None, refl, ap, ◌∙◌}
use Rattle.std.specs.List.{filter_map, cons_option, last_or}
use Rattle.std.proofs.lemmas.List.{append-nil}
use Rattle.std.proofs.lemmas.List.Elements.{filter_map-append}

pub last_or-push : {A : Type 0} (o : Option A) (xs : List A) (x : A) → last_or o (xs ++ x ∷ []) ≡ Some x
last_or-push o [] x = refl
last_or-push o (y ∷ ys) x = last_or-push (Some y) ys x

pub filter_map-none : {X Y : Type 0} (h : X → Option Y) (xs : List X) (x : X) → h x ≡ None → filter_map h (xs ++ x ∷ []) ≡ filter_map h xs
filter_map-none {X} {Y} h xs x e = filter_map-append h xs (x ∷ []) ∙ ap (λ (o : Option Y). filter_map h xs ++ cons_option o []) e ∙ append-nil (filter_map h xs)

pub filter_map-some : {X Y : Type 0} (h : X → Option Y) (xs : List X) (x : X) (y : Y) → h x ≡ Some y → filter_map h (xs ++ x ∷ []) ≡ filter_map h xs ++ y ∷ []
filter_map-some {X} {Y} h xs x y e = filter_map-append h xs (x ∷ []) ∙ ap (λ (o : Option Y). filter_map h xs ++ cons_option o []) e
