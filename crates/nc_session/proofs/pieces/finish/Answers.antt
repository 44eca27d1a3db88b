use Rattle.std.proofs.Common.{sym, subst}
use Rattle.nc_session.specs.Leaving.{Leaves, told}
use Rattle.nc_lines.specs.WholeLines.{whole_lines_of, open_of}
use Rattle.nc_engine.specs.Engine.{begin_at}
use Rattle.nc_session.proofs.TakenPieces.{nothing_left, last_cut_is, line_left, line_broken}
use Rattle.nc_session.proofs.pieces.finish.Goals as goal

pub returns-in_default-clause-leaves : goal.returns-in_default-clause-leaves
returns-in_default-clause-leaves g c n before rest room t ended goes =
    let written = g.K.Sink.written c.args.output.now in
    nothing_left n before rest written written c.args.engine.now.progress c.args.cutter room t ended c.in_default.ensures

pub returns-in-Ok-clause-leaves : goal.returns-in-Ok-clause-leaves
returns-in-Ok-clause-leaves g c n before rest room t ended goes =
    let old = g.K.Sink.written c.args.output.now in
    let new = g.K.Sink.written c.answer_last.new.output in
    let cut = last_cut_is n before rest old new c.args.engine.now.progress c.args.cutter room t ended c.in-Some.cut c.in-Some.ensures.1 in
    let served = c.in-Ok.ensures.serves (begin_at n) (whole_lines_of t.taken) before.written (open_of t.taken) cut t.served in
    line_left n before rest old new c.args.engine.now.progress c.args.cutter room t ended c.in-Some.ensures.0 c.answer_last.new.engine.progress c.in-Ok.field-0 served

pub returns-in-Err-clause-leaves : goal.returns-in-Err-clause-leaves
returns-in-Err-clause-leaves g c n before rest room t ended goes =
    let old = g.K.Sink.written c.args.output.now in
    let new = g.K.Sink.written c.answer_last.new.output in
    let cut = last_cut_is n before rest old new c.args.engine.now.progress c.args.cutter room t ended c.in-Some.cut c.in-Some.ensures.1 in
    let broken = c.in-Err.ensures.serves (begin_at n) (whole_lines_of t.taken) before.written (open_of t.taken) cut t.served in
    subst (Leaves n before (told rest new)) (sym c.stopped.ensures)
    (line_broken n before rest old new c.args.engine.now.progress c.args.cutter room t ended c.in-Some.ensures.0 c.answer_last.new.engine.progress goes c.in-Err.stop broken)
