use Rattle.std.proofs.Common.{◌++◌, ◌∙◌, List, ℕ, ap, subst}
use Rattle.std.specs.Io.KnownBytes.{Appends}
use Rattle.nc_session.specs.Serving.{AppendsFront}
use Rattle.nc_session.proofs.ServedLines.{on_err}
use Rattle.nc_session.proofs.serving.write_lent.Goals as goal

pub returns-in_err-write_both-clause-begun : goal.returns-in_err-write_both-clause-begun
returns-in_err-write_both-clause-begun g c =
    let pending = c.args.pending.now.items in
    on_err c.from_residual.result _
    (subst (λ (bytes : List ℕ). AppendsFront (g.K.Sink.written c.args.output.now) (g.K.Sink.written c.write_both.new.output) bytes)
    (ap (λ (l : List ℕ). l ++ c.lent.result.now) c.deref.ensures.value ∙ ap (λ (l : List ℕ). pending ++ l) c.lent.ensures) c.in_err-write_both.ensures.begun)

pub returns-clause-written : goal.returns-clause-written
returns-clause-written g c =
    let pending = c.args.pending.now.items in
    subst (λ (bytes : List ℕ). Appends (g.K.Sink.written c.args.output.now) (g.K.Sink.written c.write_both.new.output) bytes)
    (ap (λ (l : List ℕ). l ++ c.lent.result.now) c.deref.ensures.value ∙ ap (λ (l : List ℕ). pending ++ l) c.lent.ensures) c.in_ok-write_both.ensures.written
