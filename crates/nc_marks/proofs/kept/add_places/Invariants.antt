use Rattle.std.proofs.Common.{◌≡◌, ◌+◌, ◌<◌, ◌≤◌, ℕ, length, take, slice_index_or}
use Rattle.nc_graph.specs.Nodes.{node_flow}
use Rattle.nc_graph.specs.Derivation.{strong}
use Rattle.nc_marks.specs.Sets.{ArePlaced, Grows, IsAt}
use Rattle.nc_marks.proofs.kept.add_places.Given as goal

abbrev pub invariant-nodes : goal.invariant-nodes
invariant-nodes g l = record {
  long : length l.places.items ≡ l.number;
  kept : take (length l.initial.places.items) l.places.items ≡ l.initial.places.items;
  gathered : l.gathered.width ≡ l.initial.gathered.width;
  grows : Grows l.initial.sets l.sets;
  placed : ArePlaced l.sets l.places.items;
  few : length l.sets.sets ≤ l.number + 1;
  strong : ((i : ℕ) → i < length l.initial.places.items → IsAt l.initial.sets (slice_index_or l.initial.places.items i 0) (λ e. strong (node_flow l.graph) e i))
      → (i : ℕ) → i < l.number → IsAt l.sets (slice_index_or l.places.items i 0) (λ e. strong (node_flow l.graph) e i);
}
