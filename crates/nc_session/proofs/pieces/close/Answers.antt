use Rattle.std.proofs.Common.{◌<◌, List, ℕ, length, take, arith}
use Rattle.std.proofs.lemmas.List.{length-take}
use Rattle.nc_session.proofs.TakenPieces.{taken_fault, taken_end, past_leaves, fails_from}
use Rattle.std.proofs.Common.{refl}
use Rattle.nc_session.proofs.pieces.close.Goals as goal

pub returns-in-Err-clause-leaves : goal.returns-in-Err-clause-leaves
returns-in-Err-clause-leaves g c n before t goes =
    taken_fault n before (g.S.Source.rest c.args.input.now) (g.K.Sink.written c.args.output.now) c.args.engine.now.progress c.args.cutter 0 t (g.S.Source.rest c.read.new.self) c.in-Err.ensures.bytes

pub returns-then-count-eq0-clause-leaves : goal.returns-then-count-eq0-clause-leaves
returns-then-count-eq0-clause-leaves g c n before t goes =
    let old = g.S.Source.rest c.args.input.now in
    let new = g.S.Source.rest c.read.new.self in
    c.finish.ensures.leaves n before new 0
    (taken_end n before old (g.K.Sink.written c.args.output.now) c.args.engine.now.progress c.args.cutter 0 t new c.in-Ok.count c.read.new.into c.if-count-eq0.true c.in-Ok.ensures.bytes.0)
    (c.in-Ok.ensures.bytes.1 c.if-count-eq0.true (omega arith)) goes

pub returns-then-count-eq0-clause-fails : goal.returns-then-count-eq0-clause-fails
returns-then-count-eq0-clause-fails g c =
    fails_from (g.S.Source.faults c.args.input.now) (g.S.Source.faults c.read.new.self) (g.K.Sink.faults c.args.output.now) (g.K.Sink.faults c.args.output.now) (g.K.Sink.faults c.finish.new.output) c.finish.result
    c.in-Ok.ensures.cause refl c.finish.ensures.fails

pub returns-clause-leaves : goal.returns-clause-leaves
returns-clause-leaves g c n before t goes =
    let piece : List ℕ = take c.in-Ok.count c.read.new.into in
    let some : 0 < length piece = omega (arith, length-take c.in-Ok.count c.read.new.into, c.in-Ok.ensures.within) in
    past_leaves n before (g.S.Source.rest c.args.input.now) (g.K.Sink.written c.args.output.now) c.args.engine.now.progress c.args.cutter t (g.S.Source.rest c.read.new.self) piece c.in-Ok.ensures.bytes.0 some
    (g.K.Sink.written c.refuse_rest.new.output) c.refuse_rest.result c.refuse_rest.ensures.says

pub returns-clause-fails : goal.returns-clause-fails
returns-clause-fails g c =
    fails_from (g.S.Source.faults c.args.input.now) (g.S.Source.faults c.read.new.self) (g.K.Sink.faults c.args.output.now) (g.K.Sink.faults c.args.output.now) (g.K.Sink.faults c.refuse_rest.new.output) c.refuse_rest.result
    c.in-Ok.ensures.cause refl c.refuse_rest.ensures.fails
