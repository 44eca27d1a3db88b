-- The rows of one router are set, in the tables of all.
use Rattle.std.proofs.Common.{◌≡◌, ℕ, zero, suc, ◌<◌, ◌==◌, Bool, true, false, cond, List, [], ◌∷◌, length, map, get_or, set, refl, ap, ◌∙◌, arith}
use Rattle.std.proofs.lemmas.Bool.{eqb-true, eq-eqb}

module _ {A B : Type 0} (f : A → List B) where
  set_here : (xs : List A) (i : ℕ) (y : A) → i < length xs → get_or (map f (set xs i y)) i [] ≡ f y
  set_here [] i y lt = absurd (omega arith)
  set_here (x ∷ xs) zero y lt = refl
  set_here (x ∷ xs) (suc i) y lt = set_here xs i y (omega arith)

  set_elsewhere : (xs : List A) (i : ℕ) (y : A) (r : ℕ) → (r ≡ i → ⊥) → get_or (map f (set xs i y)) r [] ≡ get_or (map f xs) r []
  set_elsewhere [] i y r other = refl
  set_elsewhere (x ∷ xs) zero y zero other = absurd (other refl)
  set_elsewhere (x ∷ xs) zero y (suc r) other = refl
  set_elsewhere (x ∷ xs) (suc i) y zero other = refl
  set_elsewhere (x ∷ xs) (suc i) y (suc r) other = set_elsewhere xs i y r (λ e. other (ap suc e))

  pub set_at : (xs : List A) (i : ℕ) (y : A) (r : ℕ) → i < length xs → get_or (map f (set xs i y)) r [] ≡ cond (r == i) (f y) (get_or (map f xs) r [])
  set_at xs i y r lt = on (r == i) refl
    where
      on : (b : Bool) → (r == i) ≡ b → get_or (map f (set xs i y)) r [] ≡ cond b (f y) (get_or (map f xs) r [])
      on true here = ap (λ (k : ℕ). get_or (map f (set xs i y)) k []) (eqb-true r i here) ∙ set_here xs i y lt
      on false other = set_elsewhere xs i y r (λ e. let same : (r == i) ≡ true = eq-eqb r i e in absurd cc)
