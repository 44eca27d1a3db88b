use Rattle.std.proofs.Common.{◌∙◌, arith}
use Rattle.nc_diagram.proofs.table.spread.Goals as goal

pub slots-preserved : goal.slots-preserved
slots-preserved c = (
  λ nodes operator h. c.put_again.ensures.right nodes operator (c.slots.invariant.0 nodes operator h),
  omega (arith, c.put_again.ensures.used, c.slots.invariant.1),
  λ h. c.put_again.ensures.earlier (c.slots.invariant.2 h),
  c.put_again.ensures.as_many ∙ c.slots.invariant.3,
)
