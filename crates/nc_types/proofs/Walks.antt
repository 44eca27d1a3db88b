-- Walks over lists: what is left of a list at a place, through views of its items.
use Rattle.std.proofs.Common.{◌≡◌, ℕ, ◌+◌, ◌<◌, List, ◌∷◌, map, drop, get_or, length, sym, ap, ◌∙◌}
use Rattle.std.proofs.lemmas.List.{drop_more, drop-map}

pub drop_read : {X : Type 0} (xs : List X) (i : ℕ) (x : X) → x ≡ get_or xs i x → i < length xs → drop i xs ≡ x ∷ drop (i + 1) xs
drop_read {X} xs i x read lt = drop_more xs i x lt ∙ ap (λ (y : X). y ∷ drop (i + 1) xs) (sym read)

pub drop_view : {X Y : Type 0} (f : X → Y) (xs : List X) (i : ℕ) (x : X) → x ≡ get_or xs i x → i < length xs → drop i (map f xs) ≡ f x ∷ drop (i + 1) (map f xs)
drop_view {X} {Y} f xs i x read lt = drop-map f i xs ∙ ap (map f) (drop_read xs i x read lt) ∙ ap (λ (ys : List Y). f x ∷ ys) (sym (drop-map f (i + 1) xs))

-- through two views
pub drop_views : {X Y Z : Type 0} (f : Y → Z) (g : X → Y) (xs : List X) (i : ℕ) (x : X) → x ≡ get_or xs i x → i < length xs → drop i (map f (map g xs)) ≡ f (g x) ∷ drop (i + 1) (map f (map g xs))
drop_views {X} {Y} {Z} f g xs i x read lt =
    drop-map f i (map g xs) ∙ ap (map f) (drop_view g xs i x read lt) ∙ ap (λ (zs : List Z). f (g x) ∷ zs) (sym (drop-map f (i + 1) (map g xs)))

-- one place back
pub drop_back : {X : Type 0} (xs : List X) (i next : ℕ) (x : X) → i + 1 ≡ next → x ≡ get_or xs i x → i < length xs → drop i xs ≡ x ∷ drop next xs
drop_back {X} xs i next x e read lt = drop_read xs i x read lt ∙ ap (λ (n : ℕ). x ∷ drop n xs) e
