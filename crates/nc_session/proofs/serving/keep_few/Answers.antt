use Rattle.std.proofs.Common.{◌++◌}
use Rattle.nc_session.proofs.ServedLines.{part_all}
use Rattle.nc_session.proofs.serving.keep_few.Goals as goal

pub returns-clause-part : goal.returns-clause-part
returns-clause-part g c =
    part_all (g.K.Sink.written c.args.output.now) (g.K.Sink.written c.write_lent.new.output) (c.args.pending.now.items ++ c.args.engine.now.lent) c.write_lent.new.pending.items
    c.in_ok-write_lent.ensures.emptied c.in_ok-write_lent.ensures.written
