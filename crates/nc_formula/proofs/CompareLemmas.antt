-- A comparison of two tests: functions that are the same, and what both tests gain.
use Rattle.std.proofs.Common.{ℕ, Bool, List, Option, Some, None, inl, inr, sym, ◌∙◌, MatchOption}
use Rattle.std.specs.List.Sorted.{IsStrictlyIncreasing}
use Rattle.nc_graph.specs.Flow.{Flow}
use Rattle.nc_diagram.specs.Counter.{Implies, IsGreatest}
use Rattle.nc_diagram.specs.Sets.{Members, Same, all_but}
use Rattle.nc_diagram.specs.Diagrams.{Diagrams}
use Rattle.nc_formula.specs.Parts.{IsBaseOfTest, IsBaseOfBoth, Gains, IsCrowdedBy}
use Rattle.nc_formula.proofs.GainLemmas.{gains-wider, gains-more, crowded-wider, crowded-before}

module _ (f g h k : Members → Bool) (left : Same f h) (right : Same g k) where
  pub implies-same : Implies f g → Implies h k
  implies-same is s t = sym (right s) ∙ is s (left s ∙ t)

  pub greatest-same : (s : Members) → IsGreatest f g s → IsGreatest h k s
  greatest-same s is = record {
    separates = (sym (left s) ∙ is.separates.0, sym (right s) ∙ is.separates.1);
    greatest = λ t apart. is.greatest t (left t ∙ apart.0, right t ∙ apart.1);
  }

  -- the answer of a comparison
  pub answer-same : {X : Type 0} (items : X → List ℕ) (o : Option X) → MatchOption o (Implies f g) (λ m. IsStrictlyIncreasing (items m) × IsGreatest f g (all_but (items m)))
      → MatchOption o (Implies h k) (λ m. IsStrictlyIncreasing (items m) × IsGreatest h k (all_but (items m)))
  answer-same items None a = implies-same a
  answer-same items (Some m) a = (a.0, greatest-same (all_but (items m)) a.1)

-- two tests, one after the other
module _ (g : Flow ℕ) (firsts seconds : List ℕ) where
  pub first-crowded : (old : Diagrams) → IsCrowdedBy (IsBaseOfTest g firsts) old → IsCrowdedBy (IsBaseOfBoth g firsts seconds) old
  first-crowded old c = crowded-wider (IsBaseOfTest g firsts) (IsBaseOfBoth g firsts seconds) old (λ b w. inl w) c

  module _ (old mid : Diagrams) (one : Gains (IsBaseOfTest g firsts) old mid) where
    first-gained : Gains (IsBaseOfBoth g firsts seconds) old mid
    first-gained = gains-wider (IsBaseOfTest g firsts) (IsBaseOfBoth g firsts seconds) old mid (λ b w. inl w) one

    pub both-gained : (new : Diagrams) → Gains (IsBaseOfTest g seconds) mid new → Gains (IsBaseOfBoth g firsts seconds) old new
    both-gained new next = gains-more (IsBaseOfBoth g firsts seconds) old mid new first-gained
        (gains-wider (IsBaseOfTest g seconds) (IsBaseOfBoth g firsts seconds) mid new (λ b w. inr w) next)

    pub second-crowded : IsCrowdedBy (IsBaseOfTest g seconds) mid → IsCrowdedBy (IsBaseOfBoth g firsts seconds) old
    second-crowded c = crowded-before (IsBaseOfBoth g firsts seconds) old mid first-gained
        (crowded-wider (IsBaseOfTest g seconds) (IsBaseOfBoth g firsts seconds) mid (λ b w. inr w) c)
