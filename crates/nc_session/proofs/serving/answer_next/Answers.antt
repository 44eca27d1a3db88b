use Rattle.std.proofs.Common.{◌++◌, List, ℕ, refl, subst}
use Rattle.std.proofs.lemmas.Option.{MatchOption-at_none, MatchOption-at_some}
use Rattle.nc_lines.specs.WholeLines.{whole_lines_of, open_of}
use Rattle.nc_command.specs.Cutting.{HoldsAll, CutsFirst}
use Rattle.nc_session.specs.Serving.{AnswersLine}
use Rattle.nc_session.proofs.ServedLines.{line_answered}
use Rattle.nc_session.proofs.TakenPieces.{cut_is, first_is}
use Rattle.nc_session.proofs.serving.answer_next.Goals as goal

-- the line stands whole in the piece
pub returns-in-Some-clause-answers : goal.returns-in-Some-clause-answers
returns-in-Some-clause-answers c =
    let pending = c.args.pending.now.items in
    let next = c.answer.new.self in
    let after = c.answer.new.out.items ++ next.lent in
    let is = c.in-Some.ensures.first.1 in record {
      front = is.front;
      parts = is.parts;
      first = is.first;
      emptied = c.in-Some.ensures.first.0;
      answers = λ from taken old new held p.
          subst (λ (l : List ℕ). AnswersLine from (whole_lines_of taken) l next.progress pending after old new c.in_ok-how.how)
          (first_is taken is.front c.args.cutter.now c.in-Some.line.now c.in-Some.ensures.first.0 held is.line_is)
          (line_answered from (whole_lines_of taken) c.args.engine.now.progress pending old new p c.in-Some.line.now next.progress after c.in_ok-how.ensures.turns c.in_ok-how.how c.in_ok-how.ensures.flow);
    }

-- no line is cut
pub returns-in_default-2-clause-answers : goal.returns-in_default-2-clause-answers
returns-in_default-2-clause-answers c = record {
  all = MatchOption-at_none (HoldsAll c.args.piece.now c.args.cutter.now c.push_line.new.self) (λ next. CutsFirst c.args.piece.now c.args.cutter.now c.push_line.new.self next.0 next.1.now) c.in_default-2.is c.in_ok-cut.ensures.pushes;
  engine_is = refl;
  pending_is = refl;
}

-- the line is cut
pub returns-clause-answers : goal.returns-clause-answers
returns-clause-answers c =
    let first : CutsFirst c.args.piece.now c.args.cutter.now c.push_line.new.self c.in-Some-2.cut c.in-Some-2.rest.now =
    MatchOption-at_some (HoldsAll c.args.piece.now c.args.cutter.now c.push_line.new.self) (λ next. CutsFirst c.args.piece.now c.args.cutter.now c.push_line.new.self next.0 next.1.now) _ c.in-Some-2.is c.in_ok-cut.ensures.pushes in record {
      front = first.front;
      parts = first.parts;
      first = first.first;
      emptied = first.emptied;
      answers = λ from taken old new held p.
          c.in_ok-how-2.ensures.answers from (whole_lines_of taken) (open_of taken ++ first.front) old new
          (cut_is taken first.front first.first c.args.cutter.now c.in-Some-2.cut held first.is_cut) p;
    }
