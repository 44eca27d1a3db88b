-- Going through a list of what a test touches.
use Rattle.std.proofs.Common.{◌≡◌, ℕ, ◌+◌, ◌<◌, ◌≤◌, inl, inr, Bool, true, false, List, length, take, get_or, sym, ap, ◌∙◌, subst, refl, arith, nat_eq}
use Rattle.std.proofs.lemmas.Bool.{eqb-true}
use Rattle.nc_marks.specs.declared.mark.Mark.{Mark}
use Rattle.nc_marks.specs.declared.mark.Mark.TheVariants.{Strong, Weak, Uncovered, Outside}
use Rattle.nc_suite.specs.declared.touch.Touch.{Touch}
use Rattle.nc_suite.specs.Counts.{Counts, counted, strong_count, covered_count, strong_by, covered_by, Adds, AreAmong, IsSpared, AreSpared, AreApart, is_covered, over, marked_if, mark_in}
use Rattle.nc_suite.proofs.CountLemmas.{OneCounts, IsSum, sum-over, by-first, adds-both, adds-other, spared-over, spared-first}
use Rattle.nc_suite.proofs.TouchLemmas.{absent-before, first-at, mark_in-more}

-- what is read of a list
abbrev pub at : List Touch → ℕ → Touch
at ts i = get_or ts i (record { element = 0; mark = Strong })

same-none : (m n : Mark) → (strong_by (over m (over n Uncovered)) ≡ strong_by (over m n)) × (covered_by (over m (over n Uncovered)) ≡ covered_by (over m n))
same-none Strong n = (refl, refl)
same-none Weak n = (refl, refl)
same-none Uncovered Strong = (refl, refl)
same-none Uncovered Weak = (refl, refl)
same-none Uncovered Uncovered = (refl, refl)
same-none Uncovered Outside = (refl, refl)
same-none Outside Strong = (refl, refl)
same-none Outside Weak = (refl, refl)
same-none Outside Uncovered = (refl, refl)
same-none Outside Outside = (refl, refl)

module _ (ts : List Touch) (i count : ℕ) (lt : i < length ts) (apart : AreApart count ts) where
  pub inside : (at ts i).element < count
  inside = apart.within i (record { element = 0; mark = Strong }) lt

  absent : mark_in (take i ts) (at ts i).element ≡ Uncovered
  absent = absent-before (record { element = 0; mark = Strong }) ts i lt apart.distinct

  sum-more : (e : ℕ) → IsSum (mark_in (take (i + 1) ts) e) (mark_in (take i ts) e) (marked_if (nat_eq e (at ts i).element) (at ts i).mark)
  sum-more e =
      let m = mark_in (take i ts) e in
      let n = marked_if (nat_eq e (at ts i).element) (at ts i).mark in
      let step = mark_in-more (record { element = 0; mark = Strong }) ts i lt e in
      let sum = sum-over m n (one (nat_eq e (at ts i).element) refl) in
      (ap strong_by step ∙ (same-none m n).0 ∙ sum.0, ap covered_by step ∙ (same-none m n).1 ∙ sum.1)
    where
      one : (b : Bool) → nat_eq e (at ts i).element ≡ b → OneCounts (mark_in (take i ts) e) (marked_if b (at ts i).mark)
      one true s = inl (ap is_covered (ap (mark_in (take i ts)) (eqb-true e (at ts i).element s) ∙ absent))
      one false s = inr refl

  pub touches-added : (a b c : Counts) → Adds (mark_in (take i ts)) a b → Adds (λ e. marked_if (nat_eq e (at ts i).element) (at ts i).mark) b c → Adds (mark_in (take (i + 1) ts)) a c
  touches-added a b c = adds-both (mark_in (take i ts)) (λ e. marked_if (nat_eq e (at ts i).element) (at ts i).mark) (mark_in (take (i + 1) ts)) a b c sum-more

  pub touches-taken : (a b c : Counts) → Adds (λ e. marked_if (nat_eq e (at ts i).element) (at ts i).mark) a b → Adds (mark_in (take i ts)) b c → Adds (mark_in (take (i + 1) ts)) a c
  touches-taken a b c = adds-other (mark_in (take i ts)) (λ e. marked_if (nat_eq e (at ts i).element) (at ts i).mark) (mark_in (take (i + 1) ts)) a b c sum-more

  -- the counts of the next element are as they were
  pub counts-stay : (a b : Counts) → (at ts i).element < counted a → Adds (mark_in (take i ts)) a b
      → (strong_count b (at ts i).element ≡ strong_count a (at ts i).element) × (covered_count b (at ts i).element ≡ covered_count a (at ts i).element)
  counts-stay a b within adds =
      let s = adds.strong (at ts i).element within in
      let w = adds.covered (at ts i).element within in
      let x = ap strong_by absent in
      let y = ap covered_by absent in
      (omega arith, omega arith)

  pub among-next : (a : Counts) → (at ts i).element < counted a → AreAmong (mark_in ts) a
      → (strong_by (at ts i).mark ≤ strong_count a (at ts i).element) × (covered_by (at ts i).mark ≤ covered_count a (at ts i).element)
  among-next a within among =
      let r = first-at (record { element = 0; mark = Strong }) ts i lt apart.distinct in
      let f = by-first (at ts i).mark r.0 in
      let s = among.strong (at ts i).element within in
      let w = among.covered (at ts i).element within in
      let x = ap strong_by r.1 in
      let y = ap covered_by r.1 in
      (omega (arith, f.0), omega (arith, f.1))

  pub spared-next : (c : Counts) → (at ts i).element < counted c → AreSpared (mark_in ts) c → IsSpared c (at ts i).element (at ts i).mark
  spared-next c within all =
      let r = first-at (record { element = 0; mark = Strong }) ts i lt apart.distinct in
      spared-first c (at ts i).element (at ts i).mark r.0 (subst (IsSpared c (at ts i).element) r.1 (all (at ts i).element within))

  pub spared-more : (c : Counts) → AreSpared (mark_in (take i ts)) c → IsSpared c (at ts i).element (at ts i).mark → AreSpared (mark_in (take (i + 1) ts)) c
  spared-more c all this e below =
      subst (IsSpared c e) (sym (mark_in-more (record { element = 0; mark = Strong }) ts i lt e))
      (spared-over c e (mark_in (take i ts) e) (over (marked_if (nat_eq e (at ts i).element) (at ts i).mark) Uncovered) (all e below)
      (spared-over c e (marked_if (nat_eq e (at ts i).element) (at ts i).mark) Uncovered (here (nat_eq e (at ts i).element) refl) tt))
    where
      here : (b : Bool) → nat_eq e (at ts i).element ≡ b → IsSpared c e (marked_if b (at ts i).mark)
      here true s = subst (λ k. IsSpared c k (at ts i).mark) (sym (eqb-true e (at ts i).element s)) this
      here false s = tt
