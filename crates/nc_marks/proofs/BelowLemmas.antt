-- The leaves among the nodes that are raised from nodes, where none was, are those at which elements occur below these.
use Rattle.std.proofs.Common.{◌≡◌, ℕ, inl, inr, Bool, true, false, List, [], length, sym, ap, ◌∙◌, subst, refl, arith, nat_eq, nat_lt}
use Rattle.std.proofs.lemmas.Bool.{eqb-true, lt-ltb}
use Rattle.std.specs.List.{list_any}
use Rattle.nc_graph.specs.declared.node.NodeId.{NodeId}
use Rattle.nc_graph.specs.Derivation.{occurs}
use Rattle.nc_graph.specs.Flow.{Flow}
use Rattle.nc_graph.specs.Nodes.{Nodes, node_flow, IsGraph}
use Rattle.nc_types.proofs.Truth.{same_truth}
use Rattle.nc_graph.proofs.Members.{In, any_in, in_any, of_all, all_from}
use Rattle.nc_marks.specs.Reach.{is_leaf_of, leaf_in, AreReached, Raises}
use Rattle.nc_marks.specs.Sets.{has_node, flag}
use Rattle.nc_marks.proofs.RaiseLemmas.{node-in}
use Rattle.nc_marks.proofs.ReachLemmas.{or_cases, or_left, leaf-below, leaf-occurs, flag-within}

-- no flag is raised for no nodes
pub none-reached : (g : Flow ℕ) (flags : List Bool) → ((i : ℕ) → flag flags i ≡ false) → AreReached g [] flags
none-reached g flags low = record {
  tops = all_from (λ i. flag flags i ≡ true) [] (λ i x. absurd x);
  closed = record { each = λ i l h. let no = low i in absurd (cc) };
  within = λ e. record { each = λ i h o. let no = low i in absurd (cc) };
}

module _ {F : Type 0} (n : Nodes F) (is : IsGraph n) (tested : List ℕ) (before flags : List Bool) (raised : List NodeId) (long : length flags ≡ length n.facts) (low : (i : ℕ) → flag before i ≡ false)
    (r : Raises [] raised before flags) (reached : AreReached (node_flow n) tested flags) where
  inside : (i : ℕ) → flag flags i ≡ true → nat_lt i (length n.facts) ≡ true
  inside i h = let lt = flag-within flags i h in lt-ltb i (length n.facts) (omega arith)

  listed : (i : ℕ) → flag flags i ≡ true → has_node raised i ≡ true
  listed i h = elim (or_cases (has_node r.more i) (flag before i) (sym (r.each i) ∙ h)) [
    | inl x ↦ ap (λ (ps : List NodeId). has_node ps i) r.next_is ∙ x
    | inr x ↦ let no = low i in absurd (cc)
  ]

  raised-flag : (p : NodeId) → In p raised → flag flags p.0 ≡ true
  raised-flag p i = r.each p.0 ∙ or_left (has_node r.more p.0) (flag before p.0) (subst (λ (ps : List NodeId). has_node ps p.0 ≡ true) r.next_is (node-in raised p i))

  pub leaves-below : (e : ℕ) → leaf_in (node_flow n) e raised ≡ list_any (occurs (node_flow n) e) tested
  leaves-below e = same_truth (leaf_in (node_flow n) e raised) (list_any (occurs (node_flow n) e) tested) only each
    where
      leaf : NodeId → Bool
      leaf p = is_leaf_of e ((node_flow n).kind p.0)

      only : leaf_in (node_flow n) e raised ≡ true → list_any (occurs (node_flow n) e) tested ≡ true
      only h =
          let q = any_in leaf raised h in
          let up = raised-flag q.0 q.1 in
          (reached.within e).each q.0.0 up (leaf-occurs n is flags reached.closed e q.0.0 (inside q.0.0 up) ((node_flow n).kind q.0.0) refl q.2)

      each : list_any (occurs (node_flow n) e) tested ≡ true → leaf_in (node_flow n) e raised ≡ true
      each h =
          let t = any_in (occurs (node_flow n) e) tested h in
          let top : flag flags t.0 ≡ true = of_all (λ i. flag flags i ≡ true) tested t.0 reached.tops t.1 in
          let l = leaf-below n is flags reached.closed e t.0 (inside t.0 top) top t.2 in
          let q = any_in (λ (p : NodeId). nat_eq l.0 p.0) raised (listed l.0 l.2) in
          in_any leaf raised q.0 q.1 (subst (λ (i : ℕ). is_leaf_of e ((node_flow n).kind i) ≡ true) (eqb-true l.0 q.0.0 q.2) l.3)
