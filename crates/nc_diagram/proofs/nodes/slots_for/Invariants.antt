use Rattle.std.proofs.Common.{◌≡◌, length, take}
use Rattle.nc_diagram.specs.Index.{AreFor}
use Rattle.nc_diagram.proofs.nodes.slots_for.Given as goal

abbrev pub invariant-nodes : goal.invariant-nodes
invariant-nodes l = AreFor l.slots.items (take l.index l.nodes) × (length l.slots.items ≡ l.room)
