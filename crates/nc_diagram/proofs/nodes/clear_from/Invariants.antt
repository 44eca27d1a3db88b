use Rattle.std.proofs.Common.{◌≡◌, ◌⊎◌, ◌≤◌, length, take}
use Rattle.nc_diagram.specs.Index.{AreFor}
use Rattle.nc_diagram.proofs.nodes.clear_from.Given as goal

abbrev pub invariant-nodes : goal.invariant-nodes
invariant-nodes l = AreFor l.slots.items (take l.index l.nodes) × ((l.count ≤ l.index) ⊎ (l.index ≡ length l.nodes))
