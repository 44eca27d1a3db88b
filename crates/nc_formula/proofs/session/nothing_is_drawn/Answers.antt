use Rattle.std.proofs.Common.{length, ap, arith}
use Rattle.nc_formula.proofs.session.nothing_is_drawn.Goals as goal

pub returns : goal.returns
returns g c = λ flow asked n d none. record {
  formulas = record { each = λ i r e. absurd (cc) };
  parts = record { each = λ r two h. let few = ap length none in absurd (omega (arith, h)) };
}
