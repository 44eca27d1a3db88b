-- The mark of an element for facts that hold: there is one, and there is no other.
use Rattle.std.proofs.Common.{◌≡◌, ◌↔◌, ℕ, Bool, true, false, List, All, Any, Option, Some, None, refl, subst}
use Rattle.std.specs.List.{list_any}
use Rattle.std.proofs.lemmas.Bool.{both_ways}
use Rattle.std.proofs.lemmas.List.Elements.{All-get_or}
use Rattle.std.proofs.lemmas.List.Folds.{Any-from_list_any, list_any-from_Any}
use Rattle.nc_graph.specs.Flow.{Flow}
use Rattle.nc_graph.specs.Derivation.{IsStrong, IsInSome, strong, occurs}
use Rattle.nc_marks.specs.Marks.{IsMark}
use Rattle.nc_marks.specs.declared.mark.Mark.{Mark}
use Rattle.nc_marks.specs.declared.mark.Mark.TheVariants.{Strong, Weak, Uncovered, Outside}
use Rattle.nc_fact.specs.declared.fact.Fact.{Fact}
use Rattle.nc_engine.proofs.Carrying.{Hold}

-- a line has one mark
module _ (g : Flow Fact) (tested : List Fact) where
  pub mark_once : (o : Option ℕ) (m n : Mark) → IsMark g tested o m → IsMark g tested o n → m ≡ n
  mark_once None Outside Outside p q = refl
  mark_once None Outside Strong p q = absurd q
  mark_once None Outside Weak p q = absurd q
  mark_once None Outside Uncovered p q = absurd q
  mark_once None Strong n p q = absurd p
  mark_once None Weak n p q = absurd p
  mark_once None Uncovered n p q = absurd p
  mark_once (Some e) Strong Strong p q = refl
  mark_once (Some e) Strong Weak p q = absurd (q.0 p)
  mark_once (Some e) Strong Uncovered p q = absurd (q.0 p)
  mark_once (Some e) Strong Outside p q = absurd q
  mark_once (Some e) Weak Strong p q = absurd (p.0 q)
  mark_once (Some e) Weak Weak p q = refl
  mark_once (Some e) Weak Uncovered p q = absurd (q.1 p.1)
  mark_once (Some e) Weak Outside p q = absurd q
  mark_once (Some e) Uncovered Strong p q = absurd (p.0 q)
  mark_once (Some e) Uncovered Weak p q = absurd (p.1 q.1)
  mark_once (Some e) Uncovered Uncovered p q = refl
  mark_once (Some e) Uncovered Outside p q = absurd q
  mark_once (Some e) Outside n p q = absurd p

-- what some item is of those of which H holds
any_weaker : {A : Type 0} (H P Q : A → Type 0) (xs : List A) → All H xs → ((x : A) → H x → P x → Q x) → Any P xs → Any Q xs
any_weaker H P Q xs hold weaker a = (a.0, a.1, a.2, a.3, weaker a.1 (subst H a.3 (All-get_or H xs a.0 a.1 a.2 hold)) a.4)

module _ (g : Flow Fact) (strongs : (e : ℕ) (f : Fact) → g.holds f ≡ true → IsStrong g e f ↔ (strong g e f ≡ true))
    (somes : (e : ℕ) (f : Fact) → g.holds f ≡ true → IsInSome g e f ↔ (occurs g e f ≡ true)) where
  module _ (tested : List Fact) (hold : Hold g tested) (e : ℕ) where
    pub strong_yes : list_any (strong g e) tested ≡ true → Any (IsStrong g e) tested
    strong_yes is = any_weaker (λ f. g.holds f ≡ true) (λ f. strong g e f ≡ true) (IsStrong g e) tested hold (λ f h. (strongs e f h).1) (Any-from_list_any (strong g e) tested is)

    pub strong_no : list_any (strong g e) tested ≡ false → ¬ Any (IsStrong g e) tested
    strong_no is some =
        let found : list_any (strong g e) tested ≡ true =
        list_any-from_Any (strong g e) tested (any_weaker (λ f. g.holds f ≡ true) (IsStrong g e) (λ f. strong g e f ≡ true) tested hold (λ f h. (strongs e f h).0) some) in
        both_ways (list_any (strong g e) tested) is found

    pub some_yes : list_any (occurs g e) tested ≡ true → Any (IsInSome g e) tested
    some_yes is = any_weaker (λ f. g.holds f ≡ true) (λ f. occurs g e f ≡ true) (IsInSome g e) tested hold (λ f h. (somes e f h).1) (Any-from_list_any (occurs g e) tested is)

    pub some_no : list_any (occurs g e) tested ≡ false → ¬ Any (IsInSome g e) tested
    some_no is some =
        let found : list_any (occurs g e) tested ≡ true =
        list_any-from_Any (occurs g e) tested (any_weaker (λ f. g.holds f ≡ true) (IsInSome g e) (λ f. occurs g e f ≡ true) tested hold (λ f h. (somes e f h).0) some) in
        both_ways (list_any (occurs g e) tested) is found

    -- each element has a mark
    pub element_mark : (m : Mark) × IsMark g tested (Some e) m
    element_mark = on (list_any (strong g e) tested) (list_any (occurs g e) tested) refl refl
      where
        on : (b c : Bool) → list_any (strong g e) tested ≡ b → list_any (occurs g e) tested ≡ c → (m : Mark) × IsMark g tested (Some e) m
        on true c is in-some = (Strong, strong_yes is)
        on false true is in-some = (Weak, (strong_no is, some_yes in-some))
        on false false is in-some = (Uncovered, (strong_no is, some_no in-some))
