-- The laws of marks: over a graph that extends another, and over facts in place of nodes.
use Rattle.std.proofs.Common.{◌≡◌, ◌↔◌, ℕ, ◌<◌, Bool, true, List, length, map, Some, None, Option, slice_get, nat_eq, nat_lt, sym, ap, ◌∙◌, subst, arith, All}
use Rattle.std.proofs.lemmas.Bool.{lt-ltb}
use Rattle.std.specs.List.{list_any, list_all, Any}
use Rattle.nc_graph.specs.declared.node.NodeId.{NodeId}
use Rattle.nc_graph.specs.Derivation.{IsStrong, IsInSome, strong, occurs}
use Rattle.nc_graph.specs.Flow.{Flow, IsFlow, by_kind}
use Rattle.nc_graph.specs.Nodes.{Nodes, node_flow, IsGraph, Mirrors, Extends}
use Rattle.nc_graph.proofs.Members.{In, any_same, all_same, of_all}
use Rattle.nc_graph.proofs.DerivationLaws.{by_rank, strong-step, occurs-step, IsStrong-is, IsInSome-is}
use Rattle.nc_graph.proofs.NodeLaws.{IsStrong-node, IsInSome-node}
use Rattle.nc_graph.proofs.WalkLemmas.{Contains-in, in-Contains}
use Rattle.nc_graph.proofs.Extension.{holds-new, kind-same, parents-same}
use Rattle.nc_graph.proofs.FactLemmas.{With, fact-of, node-of}
use Rattle.nc_marks.specs.declared.mark.Mark.{Mark}
use Rattle.nc_marks.specs.declared.mark.Mark.TheVariants.{Strong, Weak, Uncovered, Outside}
use Rattle.nc_marks.specs.Kept.{Kept, AreKept}
use Rattle.nc_marks.specs.Marks.{IsMark, AreMarks, ElementMarks, mark_of}
use Rattle.nc_marks.specs.Reach.{AreReached}
use Rattle.nc_marks.specs.Sets.{flag}
use Rattle.nc_marks.proofs.ReachLemmas.{flag-within}

any-from : {X Y : Type 0} (P : X → Type 0) (Q : Y → Type 0) (xs : List X) (ys : List Y) → ((x : X) → In x xs → P x → With Q ys) → Any P xs → Any Q ys
any-from P Q xs ys f a =
    let r = f a.1 (Contains-in xs a.1 (a.0, a.2, a.3)) a.4 in
    let c = in-Contains ys r.0 r.1 in
    (c.0, r.0, c.1, c.2, r.2)

each-both : {X : Type 0} (V P Q : X → Type 0) (xs : List X) → All V xs → ((x : X) → V x → P x ↔ Q x) → Any P xs ↔ Any Q xs
each-both V P Q xs valid both = (
  any-from P Q xs xs (λ x i p. (x, i, (both x (of_all V xs x valid i)).0 p)),
  any-from Q P xs xs (λ x i q. (x, i, (both x (of_all V xs x valid i)).1 q)),
)

module _ {X Y : Type 0} (g : Flow X) (xs : List X) (h : Flow Y) (ys : List Y)
    (strongs : (e : ℕ) → Any (IsStrong g e) xs ↔ Any (IsStrong h e) ys) (somes : (e : ℕ) → Any (IsInSome g e) xs ↔ Any (IsInSome h e) ys) where
  pub mark-carried : (owner : Option ℕ) (m : Mark) → IsMark g xs owner m → IsMark h ys owner m
  mark-carried (Some e) Strong m = (strongs e).0 m
  mark-carried (Some e) Weak m = (λ a. m.0 ((strongs e).1 a), (somes e).0 m.1)
  mark-carried (Some e) Uncovered m = (λ a. m.0 ((strongs e).1 a), λ a. m.1 ((somes e).1 a))
  mark-carried (Some e) Outside m = m
  mark-carried None Strong m = m
  mark-carried None Weak m = m
  mark-carried None Uncovered m = m
  mark-carried None Outside m = m

  -- where the same elements are strong and in some derivation, the marks are the same
  pub marks-carried : (elements : ℕ) (m : ElementMarks) → AreMarks g xs elements m → AreMarks h ys elements m
  marks-carried elements m are = record { count = are.count; each = λ owner known. mark-carried owner (mark_of m owner) (are.each owner known) }

-- ---- a graph that extends another

module _ {F : Type 0} (old new : Nodes F) (is : IsGraph old) (longer : IsGraph new) (ext : Extends old new) where
  strong-same : (e i : ℕ) → nat_lt i (length old.facts) ≡ true → strong (node_flow new) e i ≡ strong (node_flow old) e i
  strong-same e = by_rank (node_flow old) is.flow (λ i. strong (node_flow new) e i ≡ strong (node_flow old) e i) (λ i h below.
      let ps = (node_flow old).parents i in
      strong-step (node_flow new) longer.flow e i (holds-new old new is longer ext i h)
      ∙ ap (λ k. by_kind k (nat_eq e) (list_any (strong (node_flow new) e) ((node_flow new).parents i)) (list_all (strong (node_flow new) e) ((node_flow new).parents i))) (kind-same old new is longer ext i h)
      ∙ ap (λ qs. by_kind ((node_flow old).kind i) (nat_eq e) (list_any (strong (node_flow new) e) qs) (list_all (strong (node_flow new) e) qs)) (parents-same old new is longer ext i h)
      ∙ ap (λ b. by_kind ((node_flow old).kind i) (nat_eq e) b (list_all (strong (node_flow new) e) ps)) (any_same (strong (node_flow new) e) (strong (node_flow old) e) ps below)
      ∙ ap (λ b. by_kind ((node_flow old).kind i) (nat_eq e) (list_any (strong (node_flow old) e) ps) b) (all_same (strong (node_flow new) e) (strong (node_flow old) e) ps below)
      ∙ sym (strong-step (node_flow old) is.flow e i h))

  occurs-same : (e i : ℕ) → nat_lt i (length old.facts) ≡ true → occurs (node_flow new) e i ≡ occurs (node_flow old) e i
  occurs-same e = by_rank (node_flow old) is.flow (λ i. occurs (node_flow new) e i ≡ occurs (node_flow old) e i) (λ i h below.
      let ps = (node_flow old).parents i in
      occurs-step (node_flow new) longer.flow e i (holds-new old new is longer ext i h)
      ∙ ap (λ k. by_kind k (nat_eq e) (list_any (occurs (node_flow new) e) ((node_flow new).parents i)) (list_any (occurs (node_flow new) e) ((node_flow new).parents i))) (kind-same old new is longer ext i h)
      ∙ ap (λ qs. by_kind ((node_flow old).kind i) (nat_eq e) (list_any (occurs (node_flow new) e) qs) (list_any (occurs (node_flow new) e) qs)) (parents-same old new is longer ext i h)
      ∙ ap (λ b. by_kind ((node_flow old).kind i) (nat_eq e) b b) (any_same (occurs (node_flow new) e) (occurs (node_flow old) e) ps below)
      ∙ sym (occurs-step (node_flow old) is.flow e i h))

  strong-both : (e i : ℕ) → i < length old.facts → IsStrong (node_flow old) e i ↔ IsStrong (node_flow new) e i
  strong-both e i lt =
      let h = lt-ltb i (length old.facts) lt in
      let here = IsStrong-is (node_flow old) is.flow e i h in
      let there = IsStrong-is (node_flow new) longer.flow e i (holds-new old new is longer ext i h) in
      (λ s. there.1 (strong-same e i h ∙ here.0 s), λ s. here.1 (sym (strong-same e i h) ∙ there.0 s))

  some-both : (e i : ℕ) → i < length old.facts → IsInSome (node_flow old) e i ↔ IsInSome (node_flow new) e i
  some-both e i lt =
      let h = lt-ltb i (length old.facts) lt in
      let here = IsInSome-is (node_flow old) is.flow e i h in
      let there = IsInSome-is (node_flow new) longer.flow e i (holds-new old new is longer ext i h) in
      (λ s. there.1 (occurs-same e i h ∙ here.0 s), λ s. here.1 (sym (occurs-same e i h) ∙ there.0 s))

  reached-extended : (tested : List ℕ) (flags : List Bool) → length flags ≡ length old.facts → AreReached (node_flow old) tested flags → AreReached (node_flow new) tested flags
  reached-extended tested flags long r = record {
    tops = r.tops;
    closed = record { each = λ i low h. subst (All (λ p. flag flags p ≡ true)) (sym (parents-same old new is longer ext i (here i h))) (r.closed.each i low h) };
    within = λ e. record {
      each = λ i h o.
          let there = (r.within e).each i h (sym (occurs-same e i (here i h)) ∙ o) in
          any_same (occurs (node_flow new) e) (occurs (node_flow old) e) tested (λ j k. occurs-same e j (here j (of_all (λ i. flag flags i ≡ true) tested j r.tops k))) ∙ there;
    };
  }
    where
      here : (i : ℕ) → flag flags i ≡ true → nat_lt i (length old.facts) ≡ true
      here i h = let lt = flag-within flags i h in lt-ltb i (length old.facts) (omega arith)

  pub kept-extended : (tested : List ℕ) (elements : ℕ) (k : Kept) → AreKept (node_flow old) (length old.facts) tested elements k → AreKept (node_flow new) (length old.facts) tested elements k
  kept-extended tested elements k are = record {
    nodes = are.nodes;
    within = are.within;
    sets = λ i lt e below. are.sets i lt e below ∙ sym (strong-same e i (lt-ltb i (length old.facts) lt));
    flags = are.flags;
    reached = reached-extended tested k.reached are.flags are.reached;
    marks = marks-carried (node_flow old) tested (node_flow new) tested
        (λ e. each-both (λ i. i < length old.facts) (IsStrong (node_flow old) e) (IsStrong (node_flow new) e) tested are.within (strong-both e))
        (λ e. each-both (λ i. i < length old.facts) (IsInSome (node_flow old) e) (IsInSome (node_flow new) e) tested are.within (some-both e)) elements k.marks are.marks;
  }

-- ---- facts in place of nodes

module _ {F : Type 0} (g : Flow F) (law : IsFlow g) (n : Nodes F) (is : IsGraph n) (m : Mirrors g n) (ids : List NodeId) (facts : List F)
    (are : map (λ p. slice_get n.facts p.0) ids ≡ map Some facts) where
  -- P of some node is Q of some fact, where P of each node is Q of its fact
  pub nodes-both : (P : ℕ → Type 0) (Q : F → Type 0) → ((j : ℕ) (f : F) → slice_get n.facts j ≡ Some f → P j ↔ Q f) → Any P (map (λ p. p.0) ids) ↔ Any Q facts
  nodes-both P Q both = (
    any-from P Q (map (λ p. p.0) ids) facts (λ j i p. let r = fact-of n ids facts are j i in (r.0, r.1, (both j r.0 r.2).0 p)),
    any-from Q P facts (map (λ p. p.0) ids) (λ f i q. let r = node-of n ids facts are f i in (r.0, r.1, (both r.0 f r.2).1 q)),
  )

  pub marks-of-facts : (elements : ℕ) (marks : ElementMarks) → AreMarks (node_flow n) (map (λ p. p.0) ids) elements marks → AreMarks g facts elements marks
  marks-of-facts = marks-carried (node_flow n) (map (λ p. p.0) ids) g facts
      (λ e. nodes-both (IsStrong (node_flow n) e) (IsStrong g e) (λ j f at. IsStrong-node g law n is m e j f at))
      (λ e. nodes-both (IsInSome (node_flow n) e) (IsInSome g e) (λ j f at. IsInSome-node g law n is m e j f at))
