-- One more operand of a conjunction and of a disjunction of formulas.
use Rattle.std.proofs.Common.{◌≡◌, ℕ, ◌+◌, ◌<◌, true, ◌&&◌, ◌||◌, List, length, take, get_or, Option, Some, sym, ap, subst, ◌∙◌}
use Rattle.std.proofs.lemmas.List.Folds.{list_all_more, list_any_more}
use Rattle.std.specs.Option.{option_map_or}
use Rattle.nc_graph.specs.declared.node.NodeId.{NodeId}
use Rattle.nc_diagram.specs.declared.node.Node.{Node}
use Rattle.nc_diagram.specs.Sets.{Members, Same, both, either}
use Rattle.nc_diagram.specs.Diagrams.{Diagrams, Belongs, meaning}
use Rattle.nc_formula.specs.Parts.{Gains}
use Rattle.nc_formula.specs.Formulas.{known, HasReference, known_value, each_known, one_known}
use Rattle.nc_formula.proofs.GainLemmas.{Bases}

-- the reference of a node that has one is of the store
pub reference-belongs : (table : List (Option ℕ)) (nodes : List Node) (i one : ℕ) → HasReference table nodes i → known table i ≡ Some one → Belongs nodes one
reference-belongs table nodes i one h found = let same : h.0 ≡ one = cc in subst (Belongs nodes) same h.2

module _ (A : Bases) (old now : Diagrams) (gained : Gains A old now) (table : List (Option ℕ)) (ids : List NodeId) (k a one : ℕ) (d : NodeId) (within : k < length ids)
    (has : HasReference table old.nodes (get_or ids k d).0) (found : known table (get_or ids k d).0 ≡ Some one) where
  pub belongs-now : Belongs now.nodes one
  belongs-now = (gained.unchanged one (reference-belongs table old.nodes (get_or ids k d).0 one has found)).0

  value : (s : Members) → meaning now.nodes one s ≡ known_value old.nodes table (get_or ids k d).0 s
  value s =
      (gained.unchanged one (reference-belongs table old.nodes (get_or ids k d).0 one has found)).1 s
      ∙ ap (λ o. option_map_or (λ r. meaning old.nodes r s) o true) (sym found)

  pub joined-each : Same (meaning now.nodes a) (each_known old.nodes table (take k ids)) → Same (both (meaning now.nodes a) (meaning now.nodes one)) (each_known old.nodes table (take (k + 1) ids))
  joined-each so_far s =
      ap (λ b. b && meaning now.nodes one s) (so_far s)
      ∙ ap (λ b. each_known old.nodes table (take k ids) s && b) (value s)
      ∙ sym (list_all_more (λ p. known_value old.nodes table p.0 s) ids k d within)

  pub joined-one : Same (meaning now.nodes a) (one_known old.nodes table (take k ids)) → Same (either (meaning now.nodes a) (meaning now.nodes one)) (one_known old.nodes table (take (k + 1) ids))
  joined-one so_far s =
      ap (λ b. b || meaning now.nodes one s) (so_far s)
      ∙ ap (λ b. one_known old.nodes table (take k ids) s || b) (value s)
      ∙ sym (list_any_more (λ p. known_value old.nodes table p.0 s) ids k d within)
