-- One more element among those whose marks were compared.
use Rattle.std.proofs.Common.{◌≡◌, ℕ, ◌+◌, ◌<◌, ◌⊎◌, inl, inr, Bool, true, false, ◌||◌, List, [], ◌∷◌, ◌++◌, All, Some, sym, ap, ◌∙◌, subst, refl, arith, nat_eq}
use Rattle.std.proofs.lemmas.Bool.{cases_eq, eq-eqb}
use Rattle.std.proofs.lemmas.List.Folds.{list_any-append}
use Rattle.std.specs.List.{list_any}
use Rattle.nc_marks.specs.Marks.{ElementMarks, mark_of}
use Rattle.nc_marks.specs.Sets.{has}
use Rattle.nc_marks.proofs.KeptLemmas.{all-append}

or_first : (a b : Bool) → (a || b) ≡ false → a ≡ false
or_first true b h = absurd (cc)
or_first false b h = refl

-- an element that was pushed is listed
pushed-has : (list : List ℕ) (k : ℕ) → has (list ++ k ∷ []) k ≡ true
pushed-has [] k = ap (λ b. b || false) (eq-eqb k k refl)
pushed-has (x ∷ xs) k = ap (λ b. nat_eq k x || b) (pushed-has xs k) ∙ or-true (nat_eq k x)
  where
    or-true : (b : Bool) → (b || true) ≡ true
    or-true true = refl
    or-true false = refl

module _ (old new : ElementMarks) (elements k : ℕ) (list next : List ℕ) (here : k < elements) where
  -- the element is listed, or has its mark still
  abbrev pub Compares : Type 0
  Compares = (next ≡ list ++ k ∷ []) ⊎ ((next ≡ list) × (mark_of new (Some k) ≡ mark_of old (Some k)))

  pub within-more : Compares → All (λ e. e < elements) list → All (λ e. e < elements) next
  within-more step all = elim step [
    | inl pushed ↦ subst (All (λ e. e < elements)) (sym pushed) (all-append (λ e. e < elements) list (k ∷ []) all (λ i d h. elim (cases_eq i 0) [
      | inl z ↦ subst (λ i. Rattle.std.specs.Prelude.slice_index_or (k ∷ []) i d < elements) (sym z) here
      | inr late ↦ absurd (omega (arith, h))
    ]))
    | inr same ↦ subst (All (λ e. e < elements)) (sym same.0) all
  ]

  pub others-more : Compares → ((e : ℕ) → e < k → has list e ≡ false → mark_of new (Some e) ≡ mark_of old (Some e))
      → (e : ℕ) → e < k + 1 → has next e ≡ false → mark_of new (Some e) ≡ mark_of old (Some e)
  others-more step others e lt none = elim step [
    | inl pushed ↦ elim (cases_eq e k) [
      | inl is ↦ (let yes : has next e ≡ true = ap (λ l. has l e) pushed ∙ subst (λ j. has (list ++ k ∷ []) j ≡ true) (sym is) (pushed-has list k) in absurd (cc))
      | inr ne ↦ others e (grind arith) (or_first (has list e) (has (k ∷ []) e) (sym (list_any-append (nat_eq e) list (k ∷ [])) ∙ sym (ap (λ l. has l e) pushed) ∙ none))
    ]
    | inr same ↦ elim (cases_eq e k) [
      | inl is ↦ subst (λ j. mark_of new (Some j) ≡ mark_of old (Some j)) (sym is) same.1
      | inr ne ↦ others e (grind arith) (sym (ap (λ l. has l e) same.0) ∙ none)
    ]
  ]
