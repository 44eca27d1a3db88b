-- Suites of tests: there is one, and there is no other.
use Rattle.std.proofs.Common.{◌≡◌, ◌↔◌, ◌⊎◌, ℕ, zero, suc, ◌<◌, true, List, [], ◌∷◌, length, take, All, Some, refl, sym, ap, ◌∙◌, subst, inl, inr, arith}
use Rattle.std.specs.Prelude.{slice_index_or}
use Rattle.std.proofs.lemmas.Bool.{cases_eq, cases_lt}
use Rattle.std.proofs.lemmas.List.{get_or_past}
use Rattle.std.proofs.lemmas.List.Elements.{All-nil, All-cons, All-head, All-tail, All-append, All-take, All-get_or}
use Rattle.nc_types.specs.Network.{element_count}
use Rattle.nc_graph.specs.Flow.{Flow}
use Rattle.nc_graph.specs.Derivation.{IsStrong, IsInSome, strong, occurs}
use Rattle.nc_marks.specs.Marks.{IsMark}
use Rattle.nc_marks.specs.declared.mark.Mark.{Mark}
use Rattle.nc_marks.specs.declared.mark.Mark.TheVariants.{Strong, Weak, Uncovered, Outside}
use Rattle.nc_tables.specs.State.{StateView}
use Rattle.nc_fact.specs.declared.fact.Fact.{Fact}
use Rattle.nc_rules.specs.Rules.{flow_of}
use Rattle.nc_suite.specs.Suite.{HasSameMarks, IsSpare, IsSuite, Leaves, facts_of, still, tests_at}
use Rattle.nc_engine.specs.Suites.{IsSuiteTold, suite_of}
use Rattle.nc_engine.proofs.Carrying.{Hold}
use Rattle.nc_engine.proofs.Marked.{element_mark, mark_once}

-- ---- no other

module _ (g : Flow Fact) (elements : ℕ) (tests : List (List Fact)) where
  leaves_once : (turn : ℕ) (stay one other : List ℕ) → Leaves g elements tests turn stay one → Leaves g elements tests turn stay other → one ≡ other
  leaves_once zero stay one other p q = p ∙ sym q
  leaves_once (suc turn) stay one other (inl p) (inl q) = leaves_once turn stay one other p.1 q.1
  leaves_once (suc turn) stay one other (inl p) (inr q) = absurd (q.0 p.0)
  leaves_once (suc turn) stay one other (inr p) (inl q) = absurd (p.0 q.0)
  leaves_once (suc turn) stay one other (inr p) (inr q) = leaves_once turn (turn ∷ stay) one other p.1 q.1

pub suite_once : (s : StateView) (tests : List (List Fact)) (r t : List ℕ) → IsSuiteTold s tests r → IsSuiteTold s tests t → r ≡ t
suite_once s tests r t p q =
    p.text ∙ ap suite_of (leaves_once (flow_of s) (element_count s.routers) tests (length tests) [] p.kept q.kept p.suite q.suite) ∙ sym q.text

-- ---- there is one

-- something that is so or isn't of each number is so of all below n, or it isn't
all_or : (P : ℕ → Type 0) → ((e : ℕ) → P e ⊎ (P e → ⊥)) → (n : ℕ) → ((e : ℕ) → e < n → P e) ⊎ (((e : ℕ) → e < n → P e) → ⊥)
all_or P each zero = inl (λ e lt. absurd (omega arith))
all_or P each (suc n) = on (all_or P each n) (each n)
  where
    on : ((e : ℕ) → e < n → P e) ⊎ (((e : ℕ) → e < n → P e) → ⊥) → P n ⊎ (P n → ⊥) → ((e : ℕ) → e < suc n → P e) ⊎ (((e : ℕ) → e < suc n → P e) → ⊥)
    on (inr un) here = inr (λ all. un (λ e lt. all e (omega arith)))
    on (inl below) (inr un) = inr (λ all. un (all n (omega arith)))
    on (inl below) (inl here) = inl (λ e lt. elim (cases_eq e n) [
      | inl same ↦ subst P (sym same) here
      | inr other ↦ below e (omega arith)
    ])

-- two marks are one, or they aren't
same_mark : (m n : Mark) → (m ≡ n) ⊎ ((m ≡ n) → ⊥)
same_mark Strong Strong = inl refl
same_mark Strong Weak = inr (λ e. absurd cc)
same_mark Strong Uncovered = inr (λ e. absurd cc)
same_mark Strong Outside = inr (λ e. absurd cc)
same_mark Weak Strong = inr (λ e. absurd cc)
same_mark Weak Weak = inl refl
same_mark Weak Uncovered = inr (λ e. absurd cc)
same_mark Weak Outside = inr (λ e. absurd cc)
same_mark Uncovered Strong = inr (λ e. absurd cc)
same_mark Uncovered Weak = inr (λ e. absurd cc)
same_mark Uncovered Uncovered = inl refl
same_mark Uncovered Outside = inr (λ e. absurd cc)
same_mark Outside Strong = inr (λ e. absurd cc)
same_mark Outside Weak = inr (λ e. absurd cc)
same_mark Outside Uncovered = inr (λ e. absurd cc)
same_mark Outside Outside = inl refl

-- the facts of tests that all hold
all_facts : (P : Fact → Type 0) (tests : List (List Fact)) → All (All P) tests → All P (facts_of tests)
all_facts P [] each = All-nil P
all_facts P (test ∷ tests) each = All-append P test (facts_of tests) (All-head (All P) test tests each) (all_facts P tests (All-tail (All P) test tests each))

at_or_none : (P : Fact → Type 0) (tests : List (List Fact)) (place : ℕ) → All (All P) tests → All P (slice_index_or tests place [])
at_or_none P tests place each = elim (cases_lt place (length tests)) [
  | inl lt ↦ All-get_or (All P) tests place [] lt each
  | inr ge ↦ subst (All P) (sym (get_or_past tests place [] (omega (arith, ge)))) (All-nil P)
]

all_at : (P : Fact → Type 0) (tests : List (List Fact)) (places : List ℕ) → All (All P) tests → All (All P) (tests_at tests places)
all_at P tests [] each = All-nil (All P)
all_at P tests (place ∷ places) each = All-cons (All P) (slice_index_or tests place []) (tests_at tests places) (at_or_none P tests place each) (all_at P tests places each)

module _ (g : Flow Fact) (strongs : (e : ℕ) (f : Fact) → g.holds f ≡ true → IsStrong g e f ↔ (strong g e f ≡ true))
    (somes : (e : ℕ) (f : Fact) → g.holds f ≡ true → IsInSome g e f ↔ (occurs g e f ≡ true)) (elements : ℕ) where
  -- an element has the same mark for two lists of facts, or it hasn't
  mark_alike : (xs ys : List Fact) → Hold g xs → Hold g ys → (e : ℕ)
      → ((mark : Mark) → IsMark g xs (Some e) mark ↔ IsMark g ys (Some e) mark) ⊎ (((mark : Mark) → IsMark g xs (Some e) mark ↔ IsMark g ys (Some e) mark) → ⊥)
  mark_alike xs ys holds hold e = on (same_mark first.0 second.0)
    where
      first : (m : Mark) × IsMark g xs (Some e) m
      first = element_mark g strongs somes xs holds e

      second : (m : Mark) × IsMark g ys (Some e) m
      second = element_mark g strongs somes ys hold e

      on : (first.0 ≡ second.0) ⊎ ((first.0 ≡ second.0) → ⊥)
          → ((mark : Mark) → IsMark g xs (Some e) mark ↔ IsMark g ys (Some e) mark) ⊎ (((mark : Mark) → IsMark g xs (Some e) mark ↔ IsMark g ys (Some e) mark) → ⊥)
      on (inl same) = inl (λ mark. (
        (λ is. subst (IsMark g ys (Some e)) (sym same ∙ mark_once g xs (Some e) first.0 mark first.1 is) second.1),
        (λ is. subst (IsMark g xs (Some e)) (same ∙ mark_once g ys (Some e) second.0 mark second.1 is) first.1),
      ))
      on (inr differ) = inr (λ alike. differ (mark_once g ys (Some e) first.0 second.0 ((alike first.0).0 first.1) second.1))

  same_or : (xs ys : List Fact) → Hold g xs → Hold g ys → HasSameMarks g elements xs ys ⊎ (HasSameMarks g elements xs ys → ⊥)
  same_or xs ys holds hold = all_or (λ e. (mark : Mark) → IsMark g xs (Some e) mark ↔ IsMark g ys (Some e) mark) (mark_alike xs ys holds hold) elements

  module _ (tests : List (List Fact)) (each : All (Hold g) tests) where
    still_hold : (turn : ℕ) (stay : List ℕ) → Hold g (facts_of (still tests turn stay))
    still_hold turn stay =
        all_facts (λ f. g.holds f ≡ true) (still tests turn stay)
        (All-append (Hold g) (take turn tests) (tests_at tests stay) (All-take (Hold g) turn tests each) (all_at (λ f. g.holds f ≡ true) tests stay each))

    leaves_some : (turn : ℕ) (stay : List ℕ) → (suite : List ℕ) × Leaves g elements tests turn stay suite
    leaves_some zero stay = (stay, refl)
    leaves_some (suc turn) stay =
        on (same_or (facts_of (still tests turn stay)) (facts_of (still tests (suc turn) stay)) (still_hold turn stay) (still_hold (suc turn) stay))
        (leaves_some turn stay) (leaves_some turn (turn ∷ stay))
      where
        on : IsSpare g elements tests turn stay ⊎ (IsSpare g elements tests turn stay → ⊥) → (suite : List ℕ) × Leaves g elements tests turn stay suite
            → (suite : List ℕ) × Leaves g elements tests turn (turn ∷ stay) suite → (suite : List ℕ) × Leaves g elements tests (suc turn) stay suite
        on (inl spare) left kept = (left.0, inl (spare, left.1))
        on (inr needed) left kept = (kept.0, inr (needed, kept.1))

    pub suite_some : (suite : List ℕ) × IsSuite g elements tests suite
    suite_some = leaves_some (length tests) []
