use Rattle.std.proofs.Common.{take}
use Rattle.std.specs.List.{flat_map}
use Rattle.nc_cut.specs.Cuts.{IsFirstFree}
use Rattle.nc_marks.specs.Kept.{strong_at}
use Rattle.nc_engine.proofs.cuts.first_strong.Given as goal

-- the first of those that are strong for the nodes so far
abbrev pub invariant-nodes : goal.invariant-nodes
invariant-nodes l = IsFirstFree l.free (flat_map (λ p. strong_at l.marks p.0) (take l.node-index l.nodes)) l.first
