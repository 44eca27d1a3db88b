-- Sets as lists, and flags.
use Rattle.std.proofs.Common.{◌≡◌, ℕ, ◌<◌, inl, inr, Bool, true, false, ◌||◌, ◌&&◌, cond, List, [], ◌∷◌, sym, ap, ◌∙◌, refl, nat_eq}
use Rattle.std.proofs.lemmas.Bool.{eqb-true}
use Rattle.std.specs.List.{filter}
use Rattle.nc_marks.specs.Sets.{has, flag, Lists}
use Rattle.nc_marks.proofs.ReachLemmas.{or_cases}

-- the elements of a set that pass a test
pub has-filter : (p : ℕ → Bool) (xs : List ℕ) (e : ℕ) → has (filter p xs) e ≡ (has xs e && p e)
has-filter p [] e = refl
has-filter p (x ∷ xs) e =
    elim (p x) as (λ b. p x ≡ b → has (cond b (x ∷ filter p xs) (filter p xs)) e ≡ ((nat_eq e x || has xs e) && p e)) [
      | true ↦ λ w. elim (nat_eq e x) as (λ b. nat_eq e x ≡ b → (b || has (filter p xs) e) ≡ ((b || has xs e) && p e)) [
        | true ↦ λ s. sym (ap p (eqb-true e x s) ∙ w)
        | false ↦ λ s. has-filter p xs e
      ] refl
      | false ↦ λ w. elim (nat_eq e x) as (λ b. nat_eq e x ≡ b → has (filter p xs) e ≡ ((b || has xs e) && p e)) [
        | true ↦ λ s. has-filter p xs e ∙ ap (λ b. has xs e && b) (ap p (eqb-true e x s) ∙ w) ∙ and_false (has xs e) ∙ sym (ap p (eqb-true e x s) ∙ w)
        | false ↦ λ s. has-filter p xs e
      ] refl
    ] refl
  where
    and_false : (b : Bool) → (b && false) ≡ false
    and_false true = refl
    and_false false = refl

-- flags after those of a set were given a value
abbrev pub Gives : ℕ → Bool → List ℕ → List Bool → List Bool → Type 0
Gives n value xs before after = (e : ℕ) → e < n → flag after e ≡ cond (has xs e) value (flag before e)

-- flags that tell a list, lowered for it and then raised for a set, tell that set
pub tells-set : (n : ℕ) (all set : List ℕ) (f0 f1 f2 : List Bool) → ((e : ℕ) → e < n → flag f0 e ≡ has all e) → Gives n false all f0 f1 → Gives n true set f1 f2
    → (e : ℕ) → e < n → flag f2 e ≡ has set e
tells-set n all set f0 f1 f2 told lowered raised e h =
    raised e h ∙ ap (cond (has set e) true) (lowered e h ∙ ap (cond (has all e) false) (told e h) ∙ none (has all e)) ∙ itself (has set e)
  where
    none : (b : Bool) → cond b false b ≡ false
    none true = refl
    none false = refl

    itself : (b : Bool) → cond b true false ≡ b
    itself true = refl
    itself false = refl

-- the elements of a list that such flags keep
pub keeps-common : (n : ℕ) (all set : List ℕ) (f0 f1 f2 : List Bool) → ((e : ℕ) → e < n → flag f0 e ≡ has all e) → Gives n false all f0 f1 → Gives n true set f1 f2
    → (e : ℕ) → e < n → has (filter (flag f2) all) e ≡ (has all e && has set e)
keeps-common n all set f0 f1 f2 told lowered raised e h =
    has-filter (flag f2) all e ∙ ap (λ b. has all e && b) (tells-set n all set f0 f1 f2 told lowered raised e h)

-- a list that went on twice
pub lists-more : (flags : List Bool) (p q r : ℕ → Bool) (xs ys zs : List ℕ) → ((e : ℕ) → r e ≡ (p e || q e)) → Lists flags p xs ys → Lists flags q ys zs → Lists flags r xs zs
lists-more flags p q r xs ys zs parts a b = record {
  kept = λ e h. b.kept e (a.kept e h);
  listed = λ e passes lt low. elim (or_cases (p e) (q e) (sym (parts e) ∙ passes)) [ inl x ↦ b.kept e (a.listed e x lt low) | inr x ↦ b.listed e x lt low ];
  within = λ all. b.within (a.within all);
}
