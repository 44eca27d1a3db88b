use Rattle.std.proofs.Common.{subst}
use Rattle.nc_types.specs.ElementLines.{IsHeld}
use Rattle.nc_types.proofs.lines.Lines.as_slice.Goals as goal

pub shared_ref_as_front-result : goal.shared_ref_as_front-result
shared_ref_as_front-result c = subst IsHeld c.in-Few.is c.self.invariant
