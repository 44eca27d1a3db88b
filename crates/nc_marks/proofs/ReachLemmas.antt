-- What is reached downward from nodes, and which elements are at the leaves there.
use Rattle.std.proofs.Common.{◌≡◌, ℕ, suc, zero, ◌+◌, ◌<◌, ◌≤◌, ◌⊎◌, inl, inr, Bool, true, false, ◌||◌, List, [], ◌∷◌, ◌++◌, take, length, map, sym, ap, ◌∙◌, subst, refl, arith, nat_eq, nat_lt, All}
use Rattle.std.proofs.lemmas.Bool.{eqb-true, eq-eqb, lt-ltb, ltb-true, cases_eq}
use Rattle.std.specs.List.{list_any}
use Rattle.std.proofs.Math.Seq.{take-append_seam}
use Rattle.nc_graph.specs.declared.node.NodeKind.{NodeKind}
use Rattle.nc_graph.specs.declared.node.NodeKind.TheVariants.{Leaf, Every, Any}
use Rattle.nc_graph.specs.declared.node.NodeId.{NodeId}
use Rattle.nc_graph.specs.Flow.{Flow, by_kind}
use Rattle.nc_graph.specs.Derivation.{occurs}
use Rattle.nc_graph.specs.Nodes.{Nodes, node_flow, IsGraph}
use Rattle.nc_types.proofs.Truth.{same_truth}
use Rattle.nc_graph.proofs.Members.{In, any_in, in_any, of_all, all_from}
use Rattle.nc_graph.proofs.DerivationLaws.{by_rank, parent_lower, occurs-step}
use Rattle.nc_marks.specs.Sets.{has, has_node, flag}
use Rattle.nc_marks.specs.Reach.{is_leaf_of, occurs_in, IsClosed, IsReached, IsAtLeaf, TellsLeaf}

-- a listed number is an element, and the other way round
pub has-in : (xs : List ℕ) (x : ℕ) → has xs x ≡ true → In x xs
has-in xs x h = let r = any_in (nat_eq x) xs h in subst (λ y. In y xs) (sym (eqb-true x r.0 r.2)) r.1

pub in-has : (xs : List ℕ) (x : ℕ) → In x xs → has xs x ≡ true
in-has xs x i = in_any (nat_eq x) xs x i (eq-eqb x x refl)

pub has_node-map : (ps : List NodeId) (i : ℕ) → has_node ps i ≡ has (map (λ p. p.0) ps) i
has_node-map [] i = refl
has_node-map (p ∷ ps) i = ap (λ b. nat_eq i p.0 || b) (has_node-map ps i)

-- ---- truth values

pub or_cases : (a b : Bool) → (a || b) ≡ true → (a ≡ true) ⊎ (b ≡ true)
or_cases true b e = inl refl
or_cases false b e = inr e

pub or_left : (a b : Bool) → a ≡ true → (a || b) ≡ true
or_left a b e = ap (λ v. v || b) e

pub or_right : (a b : Bool) → b ≡ true → (a || b) ≡ true
or_right true b e = refl
or_right false b e = e

module _ {F : Type 0} (n : Nodes F) (is : IsGraph n) where
  -- an element that occurs at a parent occurs at the node
  pub occurs-up : (e i p : ℕ) → nat_lt i (length n.facts) ≡ true → In p ((node_flow n).parents i) → occurs (node_flow n) e p ≡ true → occurs (node_flow n) e i ≡ true
  occurs-up e i p h within o =
      occurs-step (node_flow n) is.flow e i h ∙ by_cases ((node_flow n).kind i) refl
    where
      some : list_any (occurs (node_flow n) e) ((node_flow n).parents i) ≡ true
      some = in_any (occurs (node_flow n) e) ((node_flow n).parents i) p within o

      by_cases : (k : NodeKind) → (node_flow n).kind i ≡ k
          → by_kind k (nat_eq e) (list_any (occurs (node_flow n) e) ((node_flow n).parents i)) (list_any (occurs (node_flow n) e) ((node_flow n).parents i)) ≡ true
      by_cases (Leaf m) s = let none : In p [] = subst (λ xs. In p xs) (is.flow.bare i m h s) within in absurd none
      by_cases Every s = some
      by_cases Any s = some

  module _ (number : ℕ) (lt : number < length n.facts) (before after : List Bool)
      (here : flag before number ≡ true) (flagged : (i : ℕ) → flag after i ≡ (has ((node_flow n).parents number) i || flag before i)) where
    pub flag-stays : (i : ℕ) → flag before i ≡ true → flag after i ≡ true
    flag-stays i h = flagged i ∙ or_right (has ((node_flow n).parents number) i) (flag before i) h

    -- one more node whose parents are flagged
    pub closed-more : IsClosed (node_flow n) (number + 1) before → IsClosed (node_flow n) number after
    closed-more closed = record {
      each = λ i low h. elim (cases_eq i number) [
        | inl e ↦ all_from (λ p. flag after p ≡ true) ((node_flow n).parents i)
            (λ p within. flagged p ∙ or_left (has ((node_flow n).parents number) p) (flag before p) (in-has ((node_flow n).parents number) p (subst (λ j. In p ((node_flow n).parents j)) e within)))
        | inr ne ↦ let above : number + 1 ≤ i = grind arith in
            all_from (λ p. flag after p ≡ true) ((node_flow n).parents i)
            (λ p within. flag-stays p (of_all (λ p. flag before p ≡ true) ((node_flow n).parents i) p (closed.each i above (old i above (sym (flagged i) ∙ h))) within))
      ];
    }
      where
        old : (i : ℕ) → number + 1 ≤ i → (has ((node_flow n).parents number) i || flag before i) ≡ true → flag before i ≡ true
        old i above h = elim (or_cases (has ((node_flow n).parents number) i) (flag before i) h) [
          | inl a ↦ let low : i < number = parent_lower (node_flow n) is.flow number i (lt-ltb number (length n.facts) lt) (has-in ((node_flow n).parents number) i a) in absurd (omega arith)
          | inr b ↦ b
        ]

    -- what is below a parent is below the node
    pub reached-more : (e : ℕ) (tops : List ℕ) → IsReached (node_flow n) e tops before → IsReached (node_flow n) e tops after
    reached-more e tops r = record {
      each = λ i h o. elim (or_cases (has ((node_flow n).parents number) i) (flag before i) (sym (flagged i) ∙ h)) [
        | inl a ↦ r.each number here (occurs-up e number i (lt-ltb number (length n.facts) lt) (has-in ((node_flow n).parents number) i a) o)
        | inr b ↦ r.each i b o
      ];
    }

  -- one more node among those whose leaves are told
  pub tells-more : (flags : List Bool) (high e : ℕ) (old new : Bool) → flag flags high ≡ true → new ≡ (is_leaf_of e ((node_flow n).kind high) || old)
      → TellsLeaf (node_flow n) flags high e old → TellsLeaf (node_flow n) flags (high + 1) e new
  tells-more flags high e old new here made t = record {
    only = λ h. elim (or_cases (is_leaf_of e ((node_flow n).kind high)) old (sym made ∙ h)) [
      | inl a ↦ (high, omega arith, here, a)
      | inr b ↦ let r = t.only b in let l : r.0 < high = r.1 in (r.0, omega arith, r.2, r.3)
    ];
    each = λ r. elim (cases_eq r.0 high) [
      | inl s ↦ made ∙ or_left (is_leaf_of e ((node_flow n).kind high)) old (subst (λ i. is_leaf_of e ((node_flow n).kind i) ≡ true) s r.3)
      | inr ne ↦ let l : r.0 < high + 1 = r.1 in let low : r.0 < high = grind arith in made ∙ or_right (is_leaf_of e ((node_flow n).kind high)) old (t.each (r.0, low, r.2, r.3))
    ];
  }

  pub tells-same : (flags : List Bool) (high e : ℕ) (value : Bool) → flag flags high ≡ false
      → TellsLeaf (node_flow n) flags high e value → TellsLeaf (node_flow n) flags (high + 1) e value
  tells-same flags high e value here t = record {
    only = λ h. let r = t.only h in let l : r.0 < high = r.1 in (r.0, omega arith, r.2, r.3);
    each = λ r. elim (cases_eq r.0 high) [
      | inl s ↦ let yes : flag flags high ≡ true = subst (λ i. flag flags i ≡ true) s r.2 in absurd (cc)
      | inr ne ↦ let l : r.0 < high + 1 = r.1 in let low : r.0 < high = grind arith in t.each (r.0, low, r.2, r.3)
    ];
  }

  module _ (flags : List Bool) (closed : IsClosed (node_flow n) 0 flags) (e : ℕ) where
    -- below a flagged node at which the element occurs there is its leaf
    pub leaf-below : (i : ℕ) → nat_lt i (length n.facts) ≡ true → flag flags i ≡ true → occurs (node_flow n) e i ≡ true → IsAtLeaf (node_flow n) flags (length n.facts) e
    leaf-below = by_rank (node_flow n) is.flow (λ i. flag flags i ≡ true → occurs (node_flow n) e i ≡ true → IsAtLeaf (node_flow n) flags (length n.facts) e)
        (λ i h below f o. at_kind i h below f (sym (occurs-step (node_flow n) is.flow e i h) ∙ o) ((node_flow n).kind i) refl)
      where
        by_parent : (i : ℕ) → ((p : ℕ) → In p ((node_flow n).parents i) → flag flags p ≡ true → occurs (node_flow n) e p ≡ true → IsAtLeaf (node_flow n) flags (length n.facts) e)
            → flag flags i ≡ true → list_any (occurs (node_flow n) e) ((node_flow n).parents i) ≡ true → IsAtLeaf (node_flow n) flags (length n.facts) e
        by_parent i below f o =
            let r = any_in (occurs (node_flow n) e) ((node_flow n).parents i) o in
            below r.0 r.1 (of_all (λ p. flag flags p ≡ true) ((node_flow n).parents i) r.0 (closed.each i (omega arith) f) r.1) r.2

        at_kind : (i : ℕ) → nat_lt i (length n.facts) ≡ true
            → ((p : ℕ) → In p ((node_flow n).parents i) → flag flags p ≡ true → occurs (node_flow n) e p ≡ true → IsAtLeaf (node_flow n) flags (length n.facts) e)
            → flag flags i ≡ true
            → by_kind ((node_flow n).kind i) (nat_eq e) (list_any (occurs (node_flow n) e) ((node_flow n).parents i)) (list_any (occurs (node_flow n) e) ((node_flow n).parents i)) ≡ true
            → (k : NodeKind) → (node_flow n).kind i ≡ k → IsAtLeaf (node_flow n) flags (length n.facts) e
        at_kind i h below f o (Leaf m) s = (i, ltb-true i (length n.facts) h, f, ap (is_leaf_of e) s ∙ sym (ap (λ k. by_kind k (nat_eq e) (list_any (occurs (node_flow n) e) ((node_flow n).parents i)) (list_any (occurs (node_flow n) e) ((node_flow n).parents i))) s) ∙ o)
        at_kind i h below f o Every s = by_parent i below f (sym (ap (λ k. by_kind k (nat_eq e) (list_any (occurs (node_flow n) e) ((node_flow n).parents i)) (list_any (occurs (node_flow n) e) ((node_flow n).parents i))) s) ∙ o)
        at_kind i h below f o Any s = by_parent i below f (sym (ap (λ k. by_kind k (nat_eq e) (list_any (occurs (node_flow n) e) ((node_flow n).parents i)) (list_any (occurs (node_flow n) e) ((node_flow n).parents i))) s) ∙ o)

    -- the element occurs at its leaf
    pub leaf-occurs : (i : ℕ) → nat_lt i (length n.facts) ≡ true → (k : NodeKind) → (node_flow n).kind i ≡ k → is_leaf_of e k ≡ true → occurs (node_flow n) e i ≡ true
    leaf-occurs i h (Leaf m) s l = occurs-step (node_flow n) is.flow e i h ∙ ap (λ k. by_kind k (nat_eq e) (list_any (occurs (node_flow n) e) ((node_flow n).parents i)) (list_any (occurs (node_flow n) e) ((node_flow n).parents i))) s ∙ l
    leaf-occurs i h Every s l = absurd (cc)
    leaf-occurs i h Any s l = absurd (cc)

    -- the leaves among all flagged nodes tell what is in some derivation of the nodes above
    pub tells-all : (tops : List ℕ) → All (λ i. i < length n.facts) tops → All (λ i. flag flags i ≡ true) tops → IsReached (node_flow n) e tops flags
        → (value : Bool) → TellsLeaf (node_flow n) flags (length n.facts) e value → value ≡ occurs_in (node_flow n) e tops
    tells-all tops valid flagged r value t = same_truth value (occurs_in (node_flow n) e tops)
        (λ h. let l = t.only h in r.each l.0 l.2 (leaf-occurs l.0 (lt-ltb l.0 (length n.facts) l.1) ((node_flow n).kind l.0) refl l.3))
        (λ h. let a = any_in (occurs (node_flow n) e) tops h in
        t.each (leaf-below a.0 (lt-ltb a.0 (length n.facts) (of_all (λ i. i < length n.facts) tops a.0 valid a.1)) (of_all (λ i. flag flags i ≡ true) tops a.0 flagged a.1) a.2))

-- a raised flag is one of the flags
pub flag-within : (flags : List Bool) (i : ℕ) → flag flags i ≡ true → i < length flags
flag-within [] i h = absurd (cc)
flag-within (b ∷ bs) zero h = omega arith
flag-within (b ∷ bs) (suc i) h = omega (arith, flag-within bs i h)

-- where only the flags of the nodes are raised
pub reached-first : (g : Flow ℕ) (e : ℕ) (ps : List NodeId) (before after : List Bool) → ((i : ℕ) → i < length before → flag before i ≡ false)
    → ((i : ℕ) → flag after i ≡ (has_node ps i || flag before i)) → IsReached g e (map (λ p. p.0) ps) after
reached-first g e ps before after low flagged = record {
  each = λ i h o. elim (or_cases (has_node ps i) (flag before i) (sym (flagged i) ∙ h)) [
    | inl a ↦ in_any (occurs g e) (map (λ p. p.0) ps) i (has-in (map (λ p. p.0) ps) i (sym (has_node-map ps i) ∙ a)) o
    | inr b ↦ let no = low i (flag-within before i b) in absurd (cc)
  ];
}

-- each of the nodes has its flag raised
pub flags-of : (ps : List NodeId) (before after last : List Bool) → ((i : ℕ) → flag after i ≡ (has_node ps i || flag before i))
    → ((i : ℕ) → flag after i ≡ true → flag last i ≡ true) → All (λ p. flag last p.0 ≡ true) ps
flags-of ps before after last flagged kept = all_from (λ p. flag last p.0 ≡ true) ps
    (λ p within. kept p.0 (flagged p.0 ∙ or_left (has_node ps p.0) (flag before p.0) (in_any (λ q. nat_eq p.0 q.0) ps p within (eq-eqb p.0 p.0 refl))))

-- there is no leaf among no nodes
pub tells-none : (g : Flow ℕ) (flags : List Bool) (e : ℕ) (value : Bool) → value ≡ false → TellsLeaf g flags 0 e value
tells-none g flags e value unset = record { only = λ h. absurd (cc); each = λ r. let l : r.0 < 0 = r.1 in absurd (omega arith) }

-- a flag in a vector after flags were written through a slice of all of it
pub written : (flags rest : List Bool) (len e : ℕ) → length flags ≡ len → flag (take len (flags ++ rest)) e ≡ flag flags e
written flags rest len e long = ap (λ m. flag (take m (flags ++ rest)) e) (sym long) ∙ ap (λ fs. flag fs e) (take-append_seam flags rest)
