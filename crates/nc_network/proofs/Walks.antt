-- Walks over routers, numbered by their places.
use Rattle.std.specs.List.{filter_map, cons_option}
use Rattle.std.specs.Option.{option_to_list}
use Rattle.std.proofs.Common.{◌≡◌, ℕ, ◌+◌, ◌<◌, List, ◌∷◌, ◌++◌, Option, Some, None, refl, map, drop, get_or, length, sym, ap, ◌∙◌}
use Rattle.nc_types.specs.declared.config.RouterConfig.{RouterConfig}
use Rattle.nc_types.specs.Config.{config_view}
use Rattle.nc_types.specs.Joining.{Numbered, numbered_from}
use Rattle.nc_types.proofs.Walks.{drop_view}

abbrev pub numbered : ℕ → RouterConfig → Numbered
numbered router c = record { router = router; config = config_view c }

-- the routers from a place on, numbered from some number
pub numbered_at : (number next : ℕ) → number + 1 ≡ next → (xs : List RouterConfig) (i : ℕ) (x : RouterConfig) → x ≡ get_or xs i x → i < length xs
    → numbered_from number (drop i (map config_view xs)) ≡ numbered number x ∷ numbered_from next (drop (i + 1) (map config_view xs))
numbered_at number next e xs i x read lt =
    ap (numbered_from number) (drop_view config_view xs i x read lt) ∙ ap (λ (n : ℕ). numbered number x ∷ numbered_from n (drop (i + 1) (map config_view xs))) e

pub numbered_back : (xs : List RouterConfig) (i next : ℕ) (x : RouterConfig) → i + 1 ≡ next → x ≡ get_or xs i x → i < length xs
    → numbered_from i (drop i (map config_view xs)) ≡ numbered i x ∷ numbered_from next (drop next (map config_view xs))
numbered_back xs i next x e read lt =
    numbered_at i next e xs i x read lt ∙ ap (λ (n : ℕ). numbered i x ∷ numbered_from next (drop n (map config_view xs))) e

pub kept-before : {A B : Type 0} (h : A → Option B) (x : A) (xs ys : List A) (zs : List B) → ys ≡ x ∷ xs → option_to_list (h x) ++ (filter_map h xs ++ zs) ≡ filter_map h ys ++ zs
kept-before {A} {B} h x xs ys zs cut = by (h x) ∙ ap (λ (vs : List A). filter_map h vs ++ zs) (sym cut) where
  by : (o : Option B) → option_to_list o ++ (filter_map h xs ++ zs) ≡ cons_option o (filter_map h xs) ++ zs
  by None = refl
  by (Some y) = refl
