use Rattle.std.proofs.Common.{◌≡◌, ◌++◌, ◌∙◌, List, ℕ, Option, sym, ap, subst, append-nil, IfOk}
use Rattle.std.proofs.lemmas.Result.{IfOk-weaker}
use Rattle.nc_lines.specs.Lines.{without_return}
use Rattle.nc_engine.specs.Engine.{Progress}
use Rattle.nc_session.specs.Serving.{AnswersLine}
use Rattle.nc_session.proofs.ServedLines.{line_is, long_is, line_replied, long_replied}
use Rattle.nc_session.proofs.serving.answer_cut.Goals as goal

pub returns-in-Line-clause-answers : goal.returns-in-Line-clause-answers
returns-in-Line-clause-answers c from lines raw start now is p =
    let pending = c.args.pending.now.items in
    let next = c.answer.new.self in
    let after = c.answer.new.out.items ++ next.lent in
    let line : c.bytes.result.now ≡ without_return raw = c.bytes.ensures ∙ line_is raw c.in-Line.line (sym c.in-Line.is ∙ is) in
    subst (λ (l : List ℕ). IfOk c.answer.result (AnswersLine from lines l next.progress pending after start now)) line
    (line_replied from lines c.args.engine.now.progress pending start now p c.bytes.result.now next.progress after c.answer.result c.answer.ensures.turns c.answer.ensures.flow)

pub returns-in-Long-clause-answers : goal.returns-in-Long-clause-answers
returns-in-Long-clause-answers c from lines raw start now is p =
    let pending = c.args.pending.now.items in
    let mid = c.push_long.new.pending.items in
    let after = mid ++ c.let_go.new.self.lent in
    let none : after ≡ mid = ap (λ (l : List ℕ). mid ++ l) c.let_go.ensures.lent ∙ append-nil mid in
    subst (λ (next : Option Progress). IfOk c.push_long.result (AnswersLine from lines (without_return raw) next pending after start now)) (sym c.let_go.ensures.progress)
    (long_replied from lines c.args.engine.now.progress pending start now p (without_return raw) (long_is raw (sym c.in-Long.is ∙ is)) after c.push_long.result
    (IfOk-weaker c.push_long.result _ _ (λ how done. (done.0, none ∙ done.1)) c.push_long.ensures.appended))
