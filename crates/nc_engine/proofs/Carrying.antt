-- What carries tests, by evaluation and by derivations; and that a question has one answer.
use Rattle.std.proofs.Common.{◌≡◌, ◌↔◌, ◌⊎◌, ℕ, zero, suc, ◌<◌, Bool, true, false, ◌&&◌, List, [], ◌∷◌, All, Contains, inl, inr, refl, sym, ap, ◌∙◌, subst, arith}
use Rattle.std.specs.Prelude.{AllPairs}
use Rattle.std.specs.List.{list_all}
use Rattle.std.specs.List.Sorted.{IsStrictlyIncreasing}
use Rattle.std.proofs.lemmas.Bool.{cases_order, true≢false}
use Rattle.std.proofs.lemmas.List.Elements.{All-nil, All-cons, All-head, All-tail}
use Rattle.std.proofs.lemmas.List.Kept.{AllPairs-from_increasing}
use Rattle.nc_types.specs.Config.{ConfigView}
use Rattle.nc_graph.specs.Flow.{Flow}
use Rattle.nc_graph.specs.Derivation.{Carries, carried}
use Rattle.nc_diagram.specs.Sets.{Members, has, all_but}
use Rattle.nc_diagram.specs.Counter.{Implies, Separates, SameMembers, IsGreater, IsGreatest}
use Rattle.nc_formula.specs.Parts.{carrying_each}
use Rattle.nc_fact.specs.declared.fact.Fact.{Fact}
use Rattle.nc_engine.specs.Questions.{CarriesEach, IsImplied, TellsApart, IsGreatestApart, IsAnswer, no_of}

-- ---- by evaluation and by derivations

-- facts that hold
abbrev pub Hold : Flow Fact → List Fact → Type 0
Hold g fs = All (λ f. g.holds f ≡ true) fs

module _ (g : Flow Fact) (evaluated : (x : ℕ → Bool) (f : Fact) → g.holds f ≡ true → Carries g x f ↔ (carried g x f ≡ true)) where
  and_true : (a b : Bool) → a ≡ true → b ≡ true → (a && b) ≡ true
  and_true true b p q = q
  and_true false b p q = absurd (true≢false (sym p))

  first_true : (a b : Bool) → (a && b) ≡ true → a ≡ true
  first_true true b p = refl
  first_true false b p = absurd (true≢false (sym p))

  second_true : (a b : Bool) → (a && b) ≡ true → b ≡ true
  second_true true b p = p
  second_true false b p = absurd (true≢false (sym p))

  pub carry-to : (fs : List Fact) → Hold g fs → (set : Members) → CarriesEach g fs set → carrying_each g fs set ≡ true
  carry-to [] hold set all = refl
  carry-to (f ∷ fs) hold set all =
      and_true (carried g (has set) f) (list_all (λ h. carried g (has set) h) fs)
      ((evaluated (has set) f (All-head (λ h. g.holds h ≡ true) f fs hold)).0 (All-head (λ h. Carries g (has set) h) f fs all))
      (carry-to fs (All-tail (λ h. g.holds h ≡ true) f fs hold) set (All-tail (λ h. Carries g (has set) h) f fs all))

  pub carry-from : (fs : List Fact) → Hold g fs → (set : Members) → carrying_each g fs set ≡ true → CarriesEach g fs set
  carry-from [] hold set all = All-nil (λ h. Carries g (has set) h)
  carry-from (f ∷ fs) hold set all =
      All-cons (λ h. Carries g (has set) h) f fs
      ((evaluated (has set) f (All-head (λ h. g.holds h ≡ true) f fs hold)).1 (first_true (carried g (has set) f) (list_all (λ h. carried g (has set) h) fs) all))
      (carry-from fs (All-tail (λ h. g.holds h ≡ true) f fs hold) set (second_true (carried g (has set) f) (list_all (λ h. carried g (has set) h) fs) all))

  module _ (first second : List Fact) (holds : Hold g first) (hold : Hold g second) where
    pub implied : Implies (carrying_each g first) (carrying_each g second) → IsImplied g first second
    implied is set carries = carry-from second hold set (is set (carry-to first holds set carries))

    apart-to : (set : Members) → TellsApart g first second set → Separates (carrying_each g first) (carrying_each g second) set
    apart-to set apart = (carry-to first holds set apart.0, on (carrying_each g second set) refl)
      where
        on : (b : Bool) → carrying_each g second set ≡ b → carrying_each g second set ≡ false
        on true is = absurd (apart.1 (carry-from second hold set is))
        on false is = is

    apart-from : (set : Members) → Separates (carrying_each g first) (carrying_each g second) set → TellsApart g first second set
    apart-from set apart = (carry-from first holds set apart.0, λ carries. true≢false (sym (carry-to second hold set carries) ∙ apart.1))

    pub greatest : (set : Members) → IsGreatest (carrying_each g first) (carrying_each g second) set → IsGreatestApart g first second set
    greatest set is = record { apart = apart-from set is.separates; greatest = λ other apart. is.greatest other (apart-to other apart) }

-- ---- lists that ascend

-- two lists of numbers, each below those behind it, with the same members
pub same_rising : (xs ys : List ℕ) → AllPairs (λ x y. x < y) xs → AllPairs (λ x y. x < y) ys → ((v : ℕ) → Contains xs v → Contains ys v) → ((v : ℕ) → Contains ys v → Contains xs v) → xs ≡ ys
same_rising [] [] up rise to from = refl
same_rising [] (y ∷ ys) up rise to from = absurd (omega (arith, (from y (0, omega arith, refl)).1))
same_rising (x ∷ xs) [] up rise to from = absurd (omega (arith, (to x (0, omega arith, refl)).1))
same_rising (x ∷ xs) (y ∷ ys) up rise to from =
    ap (λ z. z ∷ xs) heads ∙ ap (λ l. y ∷ l) (same_rising xs ys (λ i j d lt within. up (suc i) (suc j) d (omega arith) (omega arith)) (λ i j d lt within. rise (suc i) (suc j) d (omega arith) (omega arith)) into out)
  where
    -- a member is the first, or stands behind it
    placed : (z : ℕ) (zs : List ℕ) (v : ℕ) → Contains (z ∷ zs) v → (z ≡ v) ⊎ Contains zs v
    placed z zs v (zero, within, is) = inl is
    placed z zs v (suc k, within, is) = inr (k, omega arith, is)

    behind : (z : ℕ) (zs : List ℕ) → AllPairs (λ a b. a < b) (z ∷ zs) → (v : ℕ) → Contains zs v → z < v
    behind z zs pairs v (k, within, is) = subst (λ (n : ℕ). z < n) is (pairs 0 (suc k) v (omega arith) (omega arith))

    heads : x ≡ y
    heads = on (placed y ys x (to x (0, omega arith, refl))) (placed x xs y (from y (0, omega arith, refl)))
      where
        on : (y ≡ x) ⊎ Contains ys x → (x ≡ y) ⊎ Contains xs y → x ≡ y
        on (inl same) other = sym same
        on (inr c) (inl same) = same
        on (inr c) (inr d) = let a = behind y ys rise x c in let b = behind x xs up y d in absurd (omega arith)

    into : (v : ℕ) → Contains xs v → Contains ys v
    into v c = on (placed y ys v (to v (suc c.0, omega (arith, c.1), c.2)))
      where
        on : (y ≡ v) ⊎ Contains ys v → Contains ys v
        on (inl same) = let a = behind x xs up v c in let h = heads in absurd (omega arith)
        on (inr d) = d

    out : (v : ℕ) → Contains ys v → Contains xs v
    out v c = on (placed x xs v (from v (suc c.0, omega (arith, c.1), c.2)))
      where
        on : (x ≡ v) ⊎ Contains xs v → Contains xs v
        on (inl same) = let a = behind y ys rise v c in let h = heads in absurd (omega arith)
        on (inr d) = d

-- ---- one answer

module _ (lacks : (missing : List ℕ) (v : ℕ) → IsStrictlyIncreasing missing → (has (all_but missing) v ≡ false) ↔ Contains missing v) where
  same_missing : (xs ys : List ℕ) → IsStrictlyIncreasing xs → IsStrictlyIncreasing ys → SameMembers (all_but xs) (all_but ys) → xs ≡ ys
  same_missing xs ys up rise same =
      same_rising xs ys (AllPairs-from_increasing xs up) (AllPairs-from_increasing ys rise)
      (λ v c. (lacks ys v rise).0 (sym (same v) ∙ (lacks xs v up).1 c)) (λ v c. (lacks xs v up).0 (same v ∙ (lacks ys v rise).1 c))

  not_both_greater : (s t : Members) → IsGreater s t → IsGreater t s → ⊥
  not_both_greater s t p q = elim (cases_order p.variable q.variable) [
    | inl same ↦ true≢false (sym p.member ∙ ap (has s) same ∙ q.missing)
    | inr other ↦ elim other [
      | inl before ↦ true≢false (sym p.member ∙ sym (q.same_below p.variable before) ∙ p.missing)
      | inr after ↦ true≢false (sym q.member ∙ sym (p.same_below q.variable after) ∙ q.missing)
    ]
  ]

  module _ (g : Flow Fact) (first second : List Fact) where
    pub missing_once : (xs ys : List ℕ) → IsStrictlyIncreasing xs → IsStrictlyIncreasing ys → IsGreatestApart g first second (all_but xs) → IsGreatestApart g first second (all_but ys) → xs ≡ ys
    missing_once xs ys up rise p q = on (p.greatest (all_but ys) q.apart) (q.greatest (all_but xs) p.apart)
      where
        on : SameMembers (all_but xs) (all_but ys) ⊎ IsGreater (all_but xs) (all_but ys) → SameMembers (all_but ys) (all_but xs) ⊎ IsGreater (all_but ys) (all_but xs) → xs ≡ ys
        on (inl same) other = same_missing xs ys up rise same
        on (inr a) (inl same) = same_missing xs ys up rise (λ v. sym (same v))
        on (inr a) (inr b) = absurd (not_both_greater (all_but xs) (all_but ys) a b)

    module _ (routers : List ConfigView) (m n : ℕ) where
      pub answer_once : (r t : List ℕ) → IsAnswer g routers first second m n r → IsAnswer g routers first second m n t → r ≡ t
      answer_once r t (inl p) (inl q) = p.1 ∙ sym q.1
      answer_once r t (inl p) (inr q) = absurd (q.greatest.apart.1 (p.0 (all_but q.missing) q.greatest.apart.0))
      answer_once r t (inr p) (inl q) = absurd (p.greatest.apart.1 (q.0 (all_but p.missing) p.greatest.apart.0))
      answer_once r t (inr p) (inr q) =
          p.text ∙ ap (no_of routers m n) (missing_once p.missing q.missing p.ascend q.ascend p.greatest q.greatest) ∙ sym q.text
