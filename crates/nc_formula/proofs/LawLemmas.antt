-- The laws of formulas: over a graph that extends another, and over facts in place of nodes.
use Rattle.std.proofs.Common.{◌≡◌, ◌↔◌, ℕ, inl, inr, true, false, not, if◌then◌else◌, List, [], ◌∷◌, Some, Option, slice_get, sym, ap, ◌∙◌}
use Rattle.std.proofs.lemmas.Bool.{cases_eq, eq-eqb, ne_eqb}
use Rattle.nc_graph.specs.Flow.{Flow, IsFlow}
use Rattle.nc_graph.specs.Derivation.{Carries, IsStrong, carried, all_but as all_elements_but}
use Rattle.nc_graph.specs.Nodes.{Nodes, node_flow, IsGraph, Mirrors, Extends}
use Rattle.nc_graph.proofs.DerivationLaws.{Carries-is, IsStrong-carried}
use Rattle.nc_graph.proofs.NodeLaws.{Carries-node, IsStrong-node}
use Rattle.nc_graph.proofs.Extension.{holds-new, carried-same}
use Rattle.nc_diagram.specs.declared.node.Node.{Node}
use Rattle.nc_diagram.specs.Sets.{Members, has, all_but}
use Rattle.nc_diagram.specs.Diagrams.{meaning}
use Rattle.nc_diagram.proofs.SetLemmas.{has-all_but_one}
use Rattle.nc_formula.specs.Formulas.{known, AreFormulas}

module _ {F : Type 0} (old new : Nodes F) (is : IsGraph old) (longer : IsGraph new) (ext : Extends old new) where
  pub formulas-extended : (nodes : List Node) (table : List (Option ℕ)) → AreFormulas (node_flow old) nodes table → AreFormulas (node_flow new) nodes table
  formulas-extended nodes table are = record {
    each = λ i r e.
        let d = are.each i r e in
        record { holds = holds-new old new is longer ext i d.holds; belongs = d.belongs; means = λ s. d.means s ∙ sym (carried-same old new is longer ext (has s) i d.holds) };
  }

-- the set of all variables but one is that of all elements but one
pub alike_but : (e m : ℕ) → has (all_but (e ∷ [])) m ≡ all_elements_but e m
alike_but e m =
    has-all_but_one e m ∙ elim (cases_eq m e) [
      | inl same ↦ ap (λ b. if b then false else true) (eq-eqb m e same) ∙ sym (ap not (eq-eqb e m (sym same)))
      | inr apart ↦ ap (λ b. if b then false else true) (ne_eqb m e apart) ∙ sym (ap not (ne_eqb e m (λ q. apart (sym q))))
    ]

module _ {F : Type 0} (g : Flow F) (law : IsFlow g) (n : Nodes F) (is : IsGraph n) (m : Mirrors g n) (nodes : List Node) (table : List (Option ℕ))
    (are : AreFormulas (node_flow n) nodes table) (i r : ℕ) (found : known table i ≡ Some r) (f : F) (at : slice_get n.facts i ≡ Some f) where
  -- a node's diagram is true at just the sets that carry its fact
  pub meaning-carries : (s : Members) → (meaning nodes r s ≡ true) ↔ Carries g (has s) f
  meaning-carries s =
      let d = are.each i r found in
      let here = Carries-is (node_flow n) is.flow (has s) i d.holds in
      let there = Carries-node g law n is m (has s) i f at in
      (λ t. there.0 (here.1 (sym (d.means s) ∙ t)), λ c. d.means s ∙ here.0 (there.1 c))

  -- and needs the elements that are strong for it
  pub meaning-strong : (e : ℕ) → (meaning nodes r (all_but (e ∷ [])) ≡ false) ↔ IsStrong g e f
  meaning-strong e =
      let d = are.each i r found in
      let value : meaning nodes r (all_but (e ∷ [])) ≡ carried (node_flow n) (all_elements_but e) i =
      d.means (all_but (e ∷ [])) ∙ ap (λ x. carried (node_flow n) x i) (λ j v. alike_but e v j) in
      let here = IsStrong-carried (node_flow n) is.flow e i d.holds in
      let there = IsStrong-node g law n is m e i f at in
      (λ t. there.0 (here.1 (sym value ∙ t)), λ c. value ∙ here.0 (there.1 c))
