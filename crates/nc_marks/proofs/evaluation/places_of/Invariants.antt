use Rattle.std.proofs.Common.{◌≡◌, ◌+◌, ◌<◌, ◌≤◌, ℕ, true, false, length, slice_index_or}
use Rattle.nc_graph.specs.Nodes.{node_flow}
use Rattle.nc_graph.specs.Derivation.{strong}
use Rattle.nc_marks.specs.Sets.{flag, IsAt}
use Rattle.nc_marks.proofs.evaluation.places_of.Given as goal

abbrev pub invariant-nodes : goal.invariant-nodes
invariant-nodes g l = record {
  long : length l.places.items ≡ l.number;
  width : l.sets.width ≡ l.initial.sets.width;
  gathered : l.gathered.width ≡ l.sets.width;
  empty : IsAt l.sets 0 (λ _. false);
  few : length l.sets.sets ≤ l.number + 1;
  placed : (i : ℕ) → i < l.number → flag l.reached i ≡ true → IsAt l.sets (slice_index_or l.places.items i 0) (λ e. strong (node_flow l.graph) e i);
}
