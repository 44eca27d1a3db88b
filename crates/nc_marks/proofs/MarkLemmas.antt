-- The marks by flags are those of the definition.
use Rattle.std.proofs.Common.{◌≡◌, ◌↔◌, ℕ, ◌<◌, Bool, true, false, cond, List, length, get_or, Some, None, Option, sym, ◌∙◌, subst, refl, All}
use Rattle.std.proofs.lemmas.Bool.{lt-ltb}
use Rattle.std.specs.Option.{ForSome}
use Rattle.std.specs.List.{list_any, Any}
use Rattle.std.proofs.lemmas.List.Elements.{All-contains}
use Rattle.std.proofs.lemmas.List.Folds.{Any-from_list_any, list_any-from_Any}
use Rattle.nc_graph.specs.Derivation.{IsStrong, IsInSome, strong, occurs}
use Rattle.nc_graph.specs.Nodes.{Nodes, node_flow, IsGraph}
use Rattle.nc_graph.proofs.DerivationLaws.{IsStrong-is, IsInSome-is}
use Rattle.nc_marks.specs.declared.mark.Mark.TheVariants.{Strong, Weak, Uncovered}
use Rattle.nc_marks.specs.Marks.{IsMark, AreMarks, ElementMarks, mark_of}

same-some : (x y : ℕ) → Some x ≡ Some y → x ≡ y
same-some x y e = cc

-- P of some element, where a test decides P of each
module _ (P : ℕ → Type 0) (b : ℕ → Bool) (xs : List ℕ) (decides : All (λ x. P x ↔ (b x ≡ true)) xs) where
  pub any-true : list_any b xs ≡ true → Any P xs
  any-true e = let r = Any-from_list_any b xs e in
      (r.0, r.1, r.2, r.3, (All-contains (λ x. P x ↔ (b x ≡ true)) xs r.1 decides (r.0, r.2, r.3)).1 r.4)

  pub true-any : Any P xs → list_any b xs ≡ true
  true-any a = list_any-from_Any b xs (a.0, a.1, a.2, a.3, (All-contains (λ x. P x ↔ (b x ≡ true)) xs a.1 decides (a.0, a.2, a.3)).0 a.4)

module _ {F : Type 0} (n : Nodes F) (is : IsGraph n) (tops : List ℕ) (valid : All (λ i. i < length n.facts) tops) (e : ℕ) where
  strongs : All (λ i. IsStrong (node_flow n) e i ↔ (strong (node_flow n) e i ≡ true)) tops
  strongs k d h = IsStrong-is (node_flow n) is.flow e (get_or tops k d) (lt-ltb (get_or tops k d) (length n.facts) (valid k d h))

  somes : All (λ i. IsInSome (node_flow n) e i ↔ (occurs (node_flow n) e i ≡ true)) tops
  somes k d h = IsInSome-is (node_flow n) is.flow e (get_or tops k d) (lt-ltb (get_or tops k d) (length n.facts) (valid k d h))

  -- the mark of an element by its two flags
  mark-is : (m : ElementMarks) (s w : Bool) → get_or m.strong e false ≡ s → get_or m.some e false ≡ w
      → get_or m.strong e false ≡ list_any (strong (node_flow n) e) tops → (get_or m.strong e false ≡ false → get_or m.some e false ≡ list_any (occurs (node_flow n) e) tops)
      → IsMark (node_flow n) tops (Some e) (mark_of m (Some e))
  mark-is m true w a b strong-is some-is =
      rw a (any-true (IsStrong (node_flow n) e) (strong (node_flow n) e) tops strongs (sym strong-is ∙ a))
  mark-is m false true a b strong-is some-is =
      let no : list_any (strong (node_flow n) e) tops ≡ false = sym strong-is ∙ a in
      rw a (rw b (
        λ x. let yes = true-any (IsStrong (node_flow n) e) (strong (node_flow n) e) tops strongs x in cc,
        any-true (IsInSome (node_flow n) e) (occurs (node_flow n) e) tops somes (sym (some-is a) ∙ b),
      ))
  mark-is m false false a b strong-is some-is =
      let no : list_any (strong (node_flow n) e) tops ≡ false = sym strong-is ∙ a in
      let none : list_any (occurs (node_flow n) e) tops ≡ false = sym (some-is a) ∙ b in
      rw a (rw b (
        λ x. let yes = true-any (IsStrong (node_flow n) e) (strong (node_flow n) e) tops strongs x in cc,
        λ x. let yes = true-any (IsInSome (node_flow n) e) (occurs (node_flow n) e) tops somes x in cc,
      ))

  -- and what the mark tells of them: the first is so where some node needs the element
  flag-is : (b : Bool) → ((b ≡ true) → Any (IsStrong (node_flow n) e) tops) → ((b ≡ false) → ¬ Any (IsStrong (node_flow n) e) tops) → b ≡ list_any (strong (node_flow n) e) tops
  flag-is true found none = sym (true-any (IsStrong (node_flow n) e) (strong (node_flow n) e) tops strongs (found refl))
  flag-is false found none =
      elim (list_any (strong (node_flow n) e) tops) as (λ v. list_any (strong (node_flow n) e) tops ≡ v → false ≡ v) [
        | true ↦ λ w. absurd (none refl (any-true (IsStrong (node_flow n) e) (strong (node_flow n) e) tops strongs w))
        | false ↦ λ w. refl
      ] refl

  some-flag-is : (b : Bool) → ((b ≡ true) → Any (IsInSome (node_flow n) e) tops) → ((b ≡ false) → ¬ Any (IsInSome (node_flow n) e) tops) → b ≡ list_any (occurs (node_flow n) e) tops
  some-flag-is true found none = sym (true-any (IsInSome (node_flow n) e) (occurs (node_flow n) e) tops somes (found refl))
  some-flag-is false found none =
      elim (list_any (occurs (node_flow n) e) tops) as (λ v. list_any (occurs (node_flow n) e) tops ≡ v → false ≡ v) [
        | true ↦ λ w. absurd (none refl (any-true (IsInSome (node_flow n) e) (occurs (node_flow n) e) tops somes w))
        | false ↦ λ w. refl
      ] refl

  -- the mark of an element by the values of its flags
  abbrev MarkBy : Bool → Bool → Type 0
  MarkBy s w = IsMark (node_flow n) tops (Some e) (cond s Strong (cond w Weak Uncovered))

  strong-by : (s w : Bool) → MarkBy s w → s ≡ list_any (strong (node_flow n) e) tops
  strong-by true w m = flag-is true (λ x. m) (λ x. absurd (cc))
  strong-by false true m = flag-is false (λ x. absurd (cc)) (λ x. m.0)
  strong-by false false m = flag-is false (λ x. absurd (cc)) (λ x. m.0)

  some-by : (s w : Bool) → MarkBy s w → s ≡ false → w ≡ list_any (occurs (node_flow n) e) tops
  some-by true w m unset = absurd (cc)
  some-by false true m unset = some-flag-is true (λ x. m.1) (λ x. absurd (cc))
  some-by false false m unset = some-flag-is false (λ x. absurd (cc)) (λ x. m.1)

  pub strong-told : (elements : ℕ) (m : ElementMarks) → AreMarks (node_flow n) tops elements m → e < elements → get_or m.strong e false ≡ list_any (strong (node_flow n) e) tops
  strong-told elements m are lt = strong-by (get_or m.strong e false) (get_or m.some e false) (are.each (Some e) (λ x s. subst (λ y. y < elements) (same-some e x s) lt))

  pub some-told : (elements : ℕ) (m : ElementMarks) → AreMarks (node_flow n) tops elements m → e < elements → get_or m.strong e false ≡ false
      → get_or m.some e false ≡ list_any (occurs (node_flow n) e) tops
  some-told elements m are lt = some-by (get_or m.strong e false) (get_or m.some e false) (are.each (Some e) (λ x s. subst (λ y. y < elements) (same-some e x s) lt))

pub marks-are : {F : Type 0} (n : Nodes F) → IsGraph n → (tops : List ℕ) → All (λ i. i < length n.facts) tops → (elements : ℕ) (m : ElementMarks) → length m.strong ≡ elements
    → ((e : ℕ) → e < elements → get_or m.strong e false ≡ list_any (strong (node_flow n) e) tops)
    → ((e : ℕ) → e < elements → get_or m.strong e false ≡ false → get_or m.some e false ≡ list_any (occurs (node_flow n) e) tops) → AreMarks (node_flow n) tops elements m
marks-are n is tops valid elements m long strong-is some-is = record { count = long; each = each }
  where
    each : (owner : Option ℕ) → ForSome owner (λ e. e < elements) → IsMark (node_flow n) tops owner (mark_of m owner)
    each None known = tt
    each (Some e) known = mark-is n is tops valid e m (get_or m.strong e false) (get_or m.some e false) refl refl (strong-is e (known e refl)) (some-is e (known e refl))
