use Rattle.std.proofs.Common.{◌++◌, ◌∷◌, [], List, ℕ, Option, sym, subst}
use Rattle.nc_lines.specs.Lines.{without_return}
use Rattle.nc_engine.specs.Engine.{Progress}
use Rattle.nc_session.specs.Serving.{AreServed, ArePending, ServesLines, AnswersLine}
use Rattle.nc_session.proofs.ServedLines.{served_pending, served_quit, served_broken, pending_served, pending_fails}
use Rattle.nc_session.proofs.serving.answer_last.Goals as goal

-- the reply was written
pub returns-in-Ok-Go-clause-serves : goal.returns-in-Ok-Go-clause-serves
returns-in-Ok-Go-clause-serves g c from lines start raw is a =
    let old = g.K.Sink.written c.args.output.now in
    let new = g.K.Sink.written c.write_lent.new.output in
    let reply = c.new-reply.result.items in
    let next = c.answer_cut.new.engine in
    let after = c.answer_cut.new.pending.items ++ next.lent in
    let all = lines ++ without_return raw ∷ [] in
    let p = subst (λ (bytes : List ℕ). ArePending from lines c.args.engine.now.progress bytes start old) (sym c.new-reply.ensures.items) (served_pending from lines c.args.engine.now.progress start old a) in
    let answers = subst (AnswersLine from lines (without_return raw) next.progress reply after start old) c.in-Ok-Go.field-0-is
    (c.in-Ok-Go.ensures.answers from lines raw start old is p) in
    subst (λ (now : Option Progress). AreServed from all now start new) (sym c.write_lent.ensures.progress)
    (pending_served from all next.progress after start old answers new c.in_ok-write_lent-in-Ok-Go.ensures.written)

-- the sink failed within it
pub returns-in_err-write_lent-in-Ok-Go-clause-serves : goal.returns-in_err-write_lent-in-Ok-Go-clause-serves
returns-in_err-write_lent-in-Ok-Go-clause-serves g c from lines start raw is a =
    let old = g.K.Sink.written c.args.output.now in
    let new = g.K.Sink.written c.write_lent.new.output in
    let reply = c.new-reply.result.items in
    let next = c.answer_cut.new.engine in
    let after = c.answer_cut.new.pending.items ++ next.lent in
    let all = lines ++ without_return raw ∷ [] in
    let p = subst (λ (bytes : List ℕ). ArePending from lines c.args.engine.now.progress bytes start old) (sym c.new-reply.ensures.items) (served_pending from lines c.args.engine.now.progress start old a) in
    let answers = subst (AnswersLine from lines (without_return raw) next.progress reply after start old) c.in-Ok-Go.field-0-is
    (c.in-Ok-Go.ensures.answers from lines raw start old is p) in
    subst (λ (now : Option Progress). ServesLines from all now start new c.from_residual.result) (sym c.write_lent.ensures.progress)
    (pending_fails from all next.progress after start old answers new c.from_residual.result c.from_residual.ensures.0 c.in_err-write_lent-in-Ok-Go.ensures.begun)

pub returns-in-Ok-Stop-clause-serves : goal.returns-in-Ok-Stop-clause-serves
returns-in-Ok-Stop-clause-serves g c from lines start raw is a =
    let old = g.K.Sink.written c.args.output.now in
    let reply = c.new-reply.result.items in
    let next = c.answer_cut.new.engine in
    let after = c.answer_cut.new.pending.items ++ next.lent in
    let p = subst (λ (bytes : List ℕ). ArePending from lines c.args.engine.now.progress bytes start old) (sym c.new-reply.ensures.items) (served_pending from lines c.args.engine.now.progress start old a) in
    let quits = subst (AnswersLine from lines (without_return raw) next.progress reply after start old) c.in-Ok-Stop.field-0-is
    (c.in-Ok-Stop.ensures.answers from lines raw start old is p) in
    served_quit from lines c.args.engine.now.progress start old a (without_return raw) quits.0

pub returns-clause-serves : goal.returns-clause-serves
returns-clause-serves g c from lines start raw is a =
    served_broken from lines c.args.engine.now.progress start (g.K.Sink.written c.args.output.now) a (without_return raw ∷ [])
