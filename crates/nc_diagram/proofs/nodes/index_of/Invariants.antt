use Rattle.std.proofs.Common.{◌-◌, length}
use Rattle.nc_diagram.proofs.IndexLemmas.{IsSought}
use Rattle.nc_diagram.proofs.nodes.index_of.Given as goal

abbrev pub invariant-slots : goal.invariant-slots
invariant-slots l = IsSought l.slots l.nodes l.node (length l.slots - l._step) l.at
