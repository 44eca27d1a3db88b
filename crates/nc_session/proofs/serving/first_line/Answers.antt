use Rattle.std.proofs.Common.{◌∙◌, inl, inr, arith}
use Rattle.nc_session.proofs.TakenPieces.{nothing_held}
use Rattle.nc_session.proofs.serving.first_line.Goals as goal

pub returns-clause-first : goal.returns-clause-first
returns-clause-first c = (
  nothing_held c.args.cutter.now (omega (arith, c.if-kept-gt0.false, c.kept.ensures.count)),
  record {
    front = c.in_ok-front.front.now;
    parts = c.in_ok-front.ensures.parts;
    first = c.in_ok-front.ensures.first;
    line_is = c.split_at.ensures.front ∙ c.line_len.ensures.front;
  },
)

-- bytes are held in front
pub returns-then-kept-gt0-clause-none : goal.returns-then-kept-gt0-clause-none
returns-then-kept-gt0-clause-none c = inl (omega (arith, c.if-kept-gt0.true, c.kept.ensures.count))

-- no line ends in the piece
pub returns-in_err-front-clause-none : goal.returns-in_err-front-clause-none
returns-in_err-front-clause-none c = rw c.from_residual.ensures (inr c.in_err-front.ensures)
