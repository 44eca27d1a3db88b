-- A set that takes names one by one knows those of the list.
use Rattle.std.proofs.Common.{◌≡◌, ℕ, Bool, ◌||◌, List, ◌∷◌, sym, ap, ◌∙◌}
use Rattle.std.specs.List.{list_any}
use Rattle.std.specs.Str.{bytes_eq}
use Rattle.nc_types.proofs.Truth.{or_assoc}

-- one more name of those that are left
pub known-more : (q name : List ℕ) (old new xs ys : List (List ℕ)) → list_any (bytes_eq q) new ≡ (list_any (bytes_eq q) old || bytes_eq q name) → ys ≡ name ∷ xs
    → (list_any (bytes_eq q) new || list_any (bytes_eq q) xs) ≡ (list_any (bytes_eq q) old || list_any (bytes_eq q) ys)
known-more q name old new xs ys e cut =
    ap (λ (b : Bool). b || list_any (bytes_eq q) xs) e ∙ or_assoc (list_any (bytes_eq q) old) (bytes_eq q name) (list_any (bytes_eq q) xs)
    ∙ ap (λ (zs : List (List ℕ)). list_any (bytes_eq q) old || list_any (bytes_eq q) zs) (sym cut)
