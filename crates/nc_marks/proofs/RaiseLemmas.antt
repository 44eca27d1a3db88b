-- Raising the flags of all that nodes reach, one node after another.
use Rattle.std.proofs.Common.{◌≡◌, ℕ, zero, suc, ◌+◌, ◌<◌, inl, inr, Bool, true, false, ◌||◌, List, [], ◌∷◌, ◌++◌, length, get_or, map, drop, sym, ap, ◌∙◌, subst, refl, arith, append_assoc, nat_eq, nat_lt, cond, All}
use Rattle.std.proofs.lemmas.Bool.{eqb-true, eq-eqb, lt-ltb, cases_eq}
use Rattle.std.proofs.lemmas.List.{get_or_default, drop_more, drop-append-le, same_lists}
use Rattle.std.proofs.lemmas.List.Folds.{list_any-append}
use Rattle.std.specs.List.{list_any}
use Rattle.nc_graph.specs.declared.node.NodeId.{NodeId}
use Rattle.nc_graph.specs.Derivation.{occurs}
use Rattle.nc_graph.specs.Flow.{Flow}
use Rattle.nc_graph.specs.Nodes.{Nodes, node_flow, IsGraph}
use Rattle.nc_graph.proofs.Members.{In, in_any, any_in, in_parts, in_right, of_all, all_from}
use Rattle.nc_marks.specs.Sets.{flag, has, has_node}
use Rattle.nc_marks.specs.Reach.{AreReached, IsClosed, IsReached, IsOpenAt, Raises}
use Rattle.nc_marks.proofs.ReachLemmas.{has-in, in-has, has_node-map, or_cases, or_left, or_right, occurs-up, flag-within}

-- a node that is listed
pub node-in : (ps : List NodeId) (p : NodeId) → In p ps → has_node ps p.0 ≡ true
node-in ps p i = in_any (λ q. nat_eq p.0 q.0) ps p i (eq-eqb p.0 p.0 refl)

or_none : (a b : Bool) → (a || b) ≡ false → (a ≡ false) × (b ≡ false)
or_none true b h = absurd (cc)
or_none false b h = (refl, h)

or_order : (a b c : Bool) → (b || (a || c)) ≡ ((a || b) || c)
or_order true true c = refl
or_order true false c = refl
or_order false b c = refl

-- nodes are raised, and then others
pub raises-trans : (xs ys zs : List NodeId) (a b c : List Bool) → Raises xs ys a b → Raises ys zs b c → Raises xs zs a c
raises-trans xs ys zs a b c r s = record {
  more = r.more ++ s.more;
  next_is = s.next_is ∙ ap (λ l. l ++ s.more) r.next_is ∙ append_assoc xs r.more s.more;
  len = s.len ∙ r.len;
  each = λ i. s.each i ∙ ap (λ v. has_node s.more i || v) (r.each i) ∙ or_order (has_node r.more i) (has_node s.more i) (flag a i)
      ∙ ap (λ v. v || flag a i) (sym (list_any-append (λ p. nat_eq i p.0) r.more s.more));
  fresh = all_from (λ p. flag a p.0 ≡ false) (r.more ++ s.more) (λ p i. elim (in_parts r.more s.more p i) [
    | inl j ↦ of_all (λ p. flag a p.0 ≡ false) r.more p r.fresh j
    | inr j ↦ (or_none (has_node r.more p.0) (flag a p.0) (sym (r.each p.0) ∙ of_all (λ p. flag b p.0 ≡ false) s.more p s.fresh j)).1
  ]);
  count = s.count ∙ r.count;
}

-- what is raised stays so
pub still : (xs ys : List NodeId) (a b : List Bool) → Raises xs ys a b → (i : ℕ) → flag a i ≡ true → flag b i ≡ true
still xs ys a b r i h = r.each i ∙ or_right (has_node r.more i) (flag a i) h

-- each of the listed nodes is raised
pub all-raised : (xs ys : List NodeId) (a b : List Bool) → Raises xs ys a b → All (λ p. flag a p.0 ≡ true) xs → All (λ p. flag b p.0 ≡ true) ys
all-raised xs ys a b r all = subst (All (λ p. flag b p.0 ≡ true)) (sym r.next_is) (all_from (λ p. flag b p.0 ≡ true) (xs ++ r.more) (λ p i. elim (in_parts xs r.more p i) [
  | inl j ↦ still xs ys a b r p.0 (of_all (λ p. flag a p.0 ≡ true) xs p all j)
  | inr j ↦ r.each p.0 ∙ or_left (has_node r.more p.0) (flag a p.0) (node-in r.more p j)
]))

-- the nodes that were raised are lowered
pub lowered-back : (more : List NodeId) (before after back : List Bool) → Raises [] more before after → length back ≡ length after
    → ((i : ℕ) → flag back i ≡ cond (has_node more i) false (flag after i)) → back ≡ before
lowered-back more before after back r long lower = same_lists back before (long ∙ r.len) (λ k d lt. other back k d lt ∙ at k ∙ sym (other before k d (let l = r.len in omega arith)))
  where
    other : (xs : List Bool) (k : ℕ) (d : Bool) → k < length xs → get_or xs k d ≡ flag xs k
    other xs k d lt = get_or_default xs k d false lt

    each : (i : ℕ) → flag after i ≡ (has_node more i || flag before i)
    each i = subst (λ (ps : List NodeId). flag after i ≡ (has_node ps i || flag before i)) (sym r.next_is) (r.each i)

    fresh : (i : ℕ) → has_node more i ≡ true → flag before i ≡ false
    fresh i h = let p = any_in (λ (q : NodeId). nat_eq i q.0) more h in
        ap (flag before) (eqb-true i p.0.0 p.2) ∙ of_all (λ q. flag before q.0 ≡ false) r.more p.0 r.fresh (subst (In p.0) r.next_is p.1)

    at : (i : ℕ) → flag back i ≡ flag before i
    at i = lower i ∙ elim (has_node more i) as (λ b. has_node more i ≡ b → cond b false (flag after i) ≡ flag before i) [
      | true ↦ λ h. sym (fresh i h)
      | false ↦ λ h. each i ∙ ap (λ b. b || flag before i) h
    ] refl

-- flags that are raised at the same nodes tell the same
pub reached-same : (g : Flow ℕ) (nodes : List ℕ) (a b : List Bool) → ((i : ℕ) → flag b i ≡ flag a i) → AreReached g nodes a → AreReached g nodes b
reached-same g nodes a b same r = record {
  tops = all_from (λ i. flag b i ≡ true) nodes (λ i j. same i ∙ of_all (λ i. flag a i ≡ true) nodes i r.tops j);
  closed = record { each = λ i low h. all_from (λ p. flag b p ≡ true) (g.parents i) (λ p j. same p ∙ of_all (λ p. flag a p ≡ true) (g.parents i) p (r.closed.each i low (sym (same i) ∙ h)) j) };
  within = λ e. record { each = λ i h o. (r.within e).each i (sym (same i) ∙ h) o };
}

-- nodes are raised whose parents may not be
pub open-first : (g : Flow ℕ) (nodes : List ℕ) (ys : List NodeId) (a b : List Bool) → AreReached g nodes a → Raises [] ys a b → IsOpenAt g ys b
open-first g nodes ys a b are r = record {
  each = λ i h out.
      let old : flag a i ≡ true = elim (or_cases (has_node r.more i) (flag a i) (sym (r.each i) ∙ h)) [
        | inl x ↦ let listed : has_node ys i ≡ true = ap (λ (ps : List NodeId). has_node ps i) r.next_is ∙ x in absurd (cc)
        | inr x ↦ x
      ] in
      all_from (λ p. flag b p ≡ true) (g.parents i) (λ p j. still [] ys a b r p (of_all (λ p. flag a p ≡ true) (g.parents i) p (are.closed.each i (omega arith) old) j));
}

module _ {F : Type 0} (n : Nodes F) (is : IsGraph n) (xs ys : List NodeId) (at : ℕ) (a b : List Bool) (node : NodeId) (long : length a ≡ length n.facts) (lt : at < length xs) (at-is : get_or xs at node ≡ node)
    (flagged : All (λ p. flag a p.0 ≡ true) xs) (r : Raises xs ys a b) (made : (i : ℕ) → flag b i ≡ (has ((node_flow n).parents node.0) i || flag a i)) where
  here : flag a node.0 ≡ true
  here = subst (λ (p : NodeId). flag a p.0 ≡ true) at-is (flagged at node lt)

  -- the parents of the node at a place are raised: those of the nodes behind it may not be yet
  pub open-more : IsOpenAt (node_flow n) (drop at xs) a → IsOpenAt (node_flow n) (drop (at + 1) ys) b
  open-more o = record {
    each = λ i h out.
        let parts = or_none (has_node (drop (at + 1) xs) i) (has_node r.more i) (sym (list_any-append (λ p. nat_eq i p.0) (drop (at + 1) xs) r.more) ∙ ap (λ (ps : List NodeId). has_node ps i) (sym rest) ∙ out) in
        let old : flag a i ≡ true = elim (or_cases (has_node r.more i) (flag a i) (sym (r.each i) ∙ h)) [ inl x ↦ absurd (let none = parts.1 in cc) | inr x ↦ x ] in
        elim (cases_eq i node.0) [
          | inl e ↦ all_from (λ p. flag b p ≡ true) ((node_flow n).parents i)
              (λ p j. made p ∙ or_left (has ((node_flow n).parents node.0) p) (flag a p) (in-has ((node_flow n).parents node.0) p (subst (λ k. In p ((node_flow n).parents k)) e j)))
          | inr ne ↦ all_from (λ p. flag b p ≡ true) ((node_flow n).parents i)
              (λ p j. still xs ys a b r p (of_all (λ p. flag a p ≡ true) ((node_flow n).parents i) p (o.each i old (first i ne parts.0)) j))
        ];
  }
    where
      rest : drop (at + 1) ys ≡ drop (at + 1) xs ++ r.more
      rest = ap (drop (at + 1)) r.next_is ∙ drop-append-le (at + 1) xs r.more (omega arith)

      head : (i : ℕ) (v : Bool) → (i ≡ node.0 → ⊥) → nat_eq i node.0 ≡ v → has_node (drop (at + 1) xs) i ≡ false → (nat_eq i node.0 || has_node (drop (at + 1) xs) i) ≡ false
      head i true ne e none = absurd (ne (eqb-true i node.0 e))
      head i false ne e none = ap (λ v. v || has_node (drop (at + 1) xs) i) e ∙ none

      first : (i : ℕ) → (i ≡ node.0 → ⊥) → has_node (drop (at + 1) xs) i ≡ false → has_node (drop at xs) i ≡ false
      first i ne none = ap (λ (ps : List NodeId). has_node ps i) (drop_more xs at node lt ∙ ap (λ p. p ∷ drop (at + 1) xs) at-is) ∙ head i (nat_eq i node.0) ne refl none

  -- what is below a parent is below the node
  pub within-more : (e : ℕ) (tops : List ℕ) → IsReached (node_flow n) e tops a → IsReached (node_flow n) e tops b
  within-more e tops w = record {
    each = λ i h o. elim (or_cases (has ((node_flow n).parents node.0) i) (flag a i) (sym (made i) ∙ h)) [
      | inl x ↦ w.each node.0 here (occurs-up n is e node.0 i inside (has-in ((node_flow n).parents node.0) i x) o)
      | inr x ↦ w.each i x o
    ];
  }
    where
      inside : nat_lt node.0 (length n.facts) ≡ true
      inside = let l = flag-within a node.0 here in lt-ltb node.0 (length n.facts) (omega arith)

-- the flags tell what more nodes reach
pub reached-all : (g : Flow ℕ) (before : List ℕ) (ps ys zs : List NodeId) (a mid b : List Bool) → AreReached g before a → Raises [] ys a mid → ((i : ℕ) → flag mid i ≡ (has_node ps i || flag a i))
    → Raises ys zs mid b → IsClosed g 0 b → ((e : ℕ) (tops : List ℕ) → IsReached g e tops mid → IsReached g e tops b) → AreReached g (before ++ map (λ p. p.0) ps) b
reached-all g before ps ys zs a mid b are r made s closed within = record {
  tops = all_from (λ i. flag b i ≡ true) tops (λ i j. elim (in_parts before numbers i j) [
    | inl k ↦ still ys zs mid b s i (still [] ys a mid r i (of_all (λ i. flag a i ≡ true) before i are.tops k))
    | inr k ↦ still ys zs mid b s i (made i ∙ or_left (has_node ps i) (flag a i) (has_node-map ps i ∙ in-has numbers i k))
  ]);
  closed = closed;
  within = λ e. within e tops (record {
    each = λ i h o. elim (or_cases (has_node ps i) (flag a i) (sym (made i) ∙ h)) [
      | inl x ↦ in_any (occurs g e) tops i (in_right before numbers i (has-in numbers i (sym (has_node-map ps i) ∙ x))) o
      | inr x ↦ list_any-append (occurs g e) before numbers ∙ or_left (list_any (occurs g e) before) (list_any (occurs g e) numbers) ((are.within e).each i x o)
    ];
  });
}
  where
    numbers : List ℕ
    numbers = map (λ p. p.0) ps

    tops : List ℕ
    tops = before ++ numbers

-- a lowered flag at the end
pub flag-push : (flags : List Bool) (i : ℕ) → flag (flags ++ false ∷ []) i ≡ flag flags i
flag-push [] zero = refl
flag-push [] (suc i) = refl
flag-push (b ∷ bs) zero = refl
flag-push (b ∷ bs) (suc i) = flag-push bs i
