use Rattle.std.proofs.KnownBytes.{Appends-trans}
use Rattle.nc_session.proofs.ServedLines.{on_err, front_of_first, front_of_second}
use Rattle.nc_session.proofs.writing.write_both.Goals as goal

-- the sink failed within the first
pub returns-in_err-write_all-clause-begun : goal.returns-in_err-write_all-clause-begun
returns-in_err-write_all-clause-begun g c =
    on_err c.from_residual.result _
    (front_of_first (g.K.Sink.written c.args.output.now) (g.K.Sink.written c.write_all.new.output) c.args.first.now c.args.second.now c.in_err-write_all.ensures.begun)

-- it failed within the second
pub returns-in_err-write_all-2-clause-begun : goal.returns-in_err-write_all-2-clause-begun
returns-in_err-write_all-2-clause-begun g c =
    on_err c.from_residual-in_err-write_all-2.result _
    (front_of_second (g.K.Sink.written c.args.output.now) (g.K.Sink.written c.write_all.new.output) (g.K.Sink.written c.write_all-2.new.output) c.args.first.now c.args.second.now
    c.in_ok-write_all.ensures.written c.in_err-write_all-2.ensures.begun)

pub returns-clause-written : goal.returns-clause-written
returns-clause-written g c =
    Appends-trans (g.K.Sink.written c.args.output.now) (g.K.Sink.written c.write_all.new.output) (g.K.Sink.written c.write_all-2.new.output) c.args.first.now c.args.second.now
    c.in_ok-write_all.ensures.written c.in_ok-write_all-2.ensures.written
