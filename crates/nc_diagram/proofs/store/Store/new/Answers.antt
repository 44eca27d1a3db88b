use Rattle.std.proofs.Common.{arith, reverse}
use Rattle.nc_diagram.specs.Diagrams.{IsReduced}
use Rattle.nc_diagram.proofs.RecentLemmas.{AreKept-none}
use Rattle.nc_diagram.proofs.store.Store.new.Goals as goal

pub invariant_of-result : goal.invariant_of-result
unfolding IsReduced
invariant_of-result c =
    let nodes = reverse c.new-nodes.result in (
      rw c.new-nodes.ensures (record { reduced = tt; within = omega arith; narrow = c.requires }),
      AreKept-none nodes c.new-recent.result c.new-conjunctions.result.slots.items c.new-disjunctions.result.slots.items c.new-recent.ensures c.new-conjunctions.ensures c.new-disjunctions.ensures,
    )
