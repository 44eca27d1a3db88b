use Rattle.std.proofs.Common.{◌≡◌, ◌++◌, ◌-◌, ◌≤◌, ◌∙◌, [], List, ℕ, Ok, length, take, refl, sym, subst, arith, length-append}
use Rattle.std.proofs.KnownBytes.{Consumes-nil, Consumes-trans}
use Rattle.std.proofs.lemmas.List.{length-take}
use Rattle.nc_lines.specs.WholeLines.{whole_lines_of}
use Rattle.nc_engine.specs.declared.engine.Flow.{Flow}
use Rattle.nc_engine.specs.Engine.{begin_at}
use Rattle.nc_session.specs.Serving.{ServesLines}
use Rattle.nc_session.specs.Leaving.{told, Leaves}
use Rattle.nc_session.specs.SoFar.{IsTaken}
use Rattle.nc_session.proofs.TakenPieces.{taken_none, taken_more, taken_end, taken_quit, taken_broken, taken_fault, fails_from}
use Rattle.nc_session.proofs.pieces.serve_pieces.Goals as goal

pub reading-init : goal.reading-init
reading-init g c = record {
  source = refl;
  sink = refl;
  in_time = λ untold. refl;
  untold = λ untold. untold;
  bytes = [];
  consumed = Consumes-nil (g.S.Source.rest c.args.input.now);
  room = refl;
  taken = λ n is.
      taken_none n (g.S.Source.rest c.args.input.now) (g.K.Sink.written c.args.output.now) c.args.engine.now.progress c.new-cutter.result is c.new-cutter.ensures;
}

pub returns-in-Err-clause-leaves : goal.returns-in-Err-clause-leaves
returns-in-Err-clause-leaves g c n is goes =
    taken_fault n (told (g.S.Source.rest c.args.input.now) (g.K.Sink.written c.args.output.now)) (g.S.Source.rest c.reading.input) (g.K.Sink.written c.reading.output)
    c.reading.engine.progress c.reading.cutter c.reading.room (c.reading.invariant.taken n is) (g.S.Source.rest c.read_piece.new.input) c.in-Err.ensures.kept

pub returns-then-count-eq0-clause-leaves : goal.returns-then-count-eq0-clause-leaves
returns-then-count-eq0-clause-leaves g c n is goes =
    let before = told (g.S.Source.rest c.args.input.now) (g.K.Sink.written c.args.output.now) in
    let new = g.S.Source.rest c.read_piece.new.input in
    c.finish.ensures.leaves n before new c.reading.room
    (taken_end n before (g.S.Source.rest c.reading.input) (g.K.Sink.written c.reading.output) c.reading.engine.progress c.reading.cutter c.reading.room
    (c.reading.invariant.taken n is) new c.in-Ok.count c.read_piece.new.buffer c.if-count-eq0.true c.in-Ok.ensures.bytes)
    (c.in-Ok.ensures.ended c.if-count-eq0.true) goes

pub returns-then-count-eq0-clause-fails : goal.returns-then-count-eq0-clause-fails
returns-then-count-eq0-clause-fails g c =
    fails_from (g.S.Source.faults c.args.input.now) (g.S.Source.faults c.read_piece.new.input) (g.K.Sink.faults c.args.output.now) (g.K.Sink.faults c.reading.output) (g.K.Sink.faults c.finish.new.output) c.finish.result
    (c.in-Ok.ensures.cause ∙ c.reading.invariant.source) c.reading.invariant.sink c.finish.ensures.fails

pub reading-preserved : goal.reading-preserved
reading-preserved g c =
    let piece : List ℕ = take c.in-Ok.count c.read_piece.new.buffer in
    let bytes : List ℕ = c.reading.invariant.bytes in
    let within : c.in-Ok.count ≤ length c.read_piece.new.buffer = c.in-Ok.ensures.within.1 in
    let few : c.in-Ok.count ≤ c.reading.room = c.in-Ok.ensures.within.0 in
    let len : length piece ≡ c.in-Ok.count = omega (arith, length-take c.in-Ok.count c.read_piece.new.buffer) in
    record {
      source = c.in-Ok.ensures.cause ∙ c.reading.invariant.source;
      sink = c.in-Ok-Go.ensures.cause ∙ c.reading.invariant.sink;
      in_time = λ untold. c.read_piece.ensures.in_time (c.reading.invariant.untold untold) ∙ c.reading.invariant.in_time untold;
      untold = λ untold. c.in-Ok.ensures.goes_on (c.reading.invariant.untold untold) c.if-count-eq0.false;
      bytes = bytes ++ piece;
      consumed = Consumes-trans (g.S.Source.rest c.args.input.now) (g.S.Source.rest c.reading.input) (g.S.Source.rest c.read_piece.new.input) bytes piece c.reading.invariant.consumed c.in-Ok.ensures.bytes;
      room = omega (arith, length-append bytes piece, len, few, c.reading.invariant.room);
      taken = λ n is.
          let before = told (g.S.Source.rest c.args.input.now) (g.K.Sink.written c.args.output.now) in
          let t = c.reading.invariant.taken n is in
          let served = c.in-Ok-Go.ensures.serves (begin_at n) t.taken before.written t.held_is t.served in
          taken_more n before (g.S.Source.rest c.reading.input) (g.K.Sink.written c.reading.output) c.reading.engine.progress c.reading.cutter c.reading.room t
          (g.S.Source.rest c.read_piece.new.input) piece c.in-Ok.ensures.bytes (omega (arith, len, few)) (g.K.Sink.written c.take_piece.new.output)
          c.take_piece.new.engine.progress c.take_piece.new.cutter (c.reading.room - c.in-Ok.count)
          (subst (λ (how : Flow). ServesLines (begin_at n) (whole_lines_of (t.taken ++ piece)) c.take_piece.new.engine.progress before.written (g.K.Sink.written c.take_piece.new.output) (Ok how)) c.in-Ok-Go.field-0-is served)
          (c.in-Ok-Go.ensures.held c.in-Ok-Go.field-0-is t.taken t.held_is) (omega (arith, len, few));
    }

pub returns-in-Ok-Stop-clause-leaves : goal.returns-in-Ok-Stop-clause-leaves
returns-in-Ok-Stop-clause-leaves g c n is goes =
    let piece : List ℕ = take c.in-Ok.count c.read_piece.new.buffer in
    let few : c.in-Ok.count ≤ c.reading.room = c.in-Ok.ensures.within.0 in
    let before = told (g.S.Source.rest c.args.input.now) (g.K.Sink.written c.args.output.now) in
    let t = c.reading.invariant.taken n is in
    let served = c.in-Ok-Stop.ensures.serves (begin_at n) t.taken before.written t.held_is t.served in
    taken_quit n before (g.S.Source.rest c.reading.input) (g.K.Sink.written c.reading.output) c.reading.engine.progress c.reading.cutter c.reading.room t
    (g.S.Source.rest c.read_piece.new.input) piece c.in-Ok.ensures.bytes (omega (arith, length-take c.in-Ok.count c.read_piece.new.buffer, few)) (g.K.Sink.written c.take_piece.new.output)
    (subst (λ (how : Flow). ServesLines (begin_at n) (whole_lines_of (t.taken ++ piece)) c.take_piece.new.engine.progress before.written (g.K.Sink.written c.take_piece.new.output) (Ok how)) c.in-Ok-Stop.field-0-is served)

pub returns-in-Ok-Stop-clause-takes : goal.returns-in-Ok-Stop-clause-takes
returns-in-Ok-Stop-clause-takes g c =
    let piece : List ℕ = take c.in-Ok.count c.read_piece.new.buffer in
    let bytes : List ℕ = c.reading.invariant.bytes in
    let few : c.in-Ok.count ≤ c.reading.room = c.in-Ok.ensures.within.0 in (
      bytes ++ piece,
      Consumes-trans (g.S.Source.rest c.args.input.now) (g.S.Source.rest c.reading.input) (g.S.Source.rest c.read_piece.new.input) bytes piece c.reading.invariant.consumed c.in-Ok.ensures.bytes,
      omega (arith, length-append bytes piece, length-take c.in-Ok.count c.read_piece.new.buffer, few, c.reading.invariant.room),
    )

pub returns-in-Err-take_piece-clause-leaves : goal.returns-in-Err-take_piece-clause-leaves
returns-in-Err-take_piece-clause-leaves g c n is goes =
    let piece : List ℕ = take c.in-Ok.count c.read_piece.new.buffer in
    let few : c.in-Ok.count ≤ c.reading.room = c.in-Ok.ensures.within.0 in
    let before = told (g.S.Source.rest c.args.input.now) (g.K.Sink.written c.args.output.now) in
    let new = g.K.Sink.written c.take_piece.new.output in
    let t = c.reading.invariant.taken n is in
    subst (Leaves n before (told (g.S.Source.rest c.read_piece.new.input) new)) (sym c.stopped.ensures)
    (taken_broken n before (g.S.Source.rest c.reading.input) (g.K.Sink.written c.reading.output) c.reading.engine.progress c.reading.cutter c.reading.room t
    (g.S.Source.rest c.read_piece.new.input) piece c.in-Ok.ensures.bytes (omega (arith, length-take c.in-Ok.count c.read_piece.new.buffer, few)) new goes c.in-Err-take_piece.stop
    (c.in-Err-take_piece.ensures.serves (begin_at n) t.taken before.written t.held_is t.served))

pub returns-in-Err-take_piece-clause-takes : goal.returns-in-Err-take_piece-clause-takes
returns-in-Err-take_piece-clause-takes g c =
    let piece : List ℕ = take c.in-Ok.count c.read_piece.new.buffer in
    let bytes : List ℕ = c.reading.invariant.bytes in
    let few : c.in-Ok.count ≤ c.reading.room = c.in-Ok.ensures.within.0 in (
      bytes ++ piece,
      Consumes-trans (g.S.Source.rest c.args.input.now) (g.S.Source.rest c.reading.input) (g.S.Source.rest c.read_piece.new.input) bytes piece c.reading.invariant.consumed c.in-Ok.ensures.bytes,
      omega (arith, length-append bytes piece, length-take c.in-Ok.count c.read_piece.new.buffer, few, c.reading.invariant.room),
    )

pub returns-clause-leaves : goal.returns-clause-leaves
returns-clause-leaves g c n is goes =
    let before = told (g.S.Source.rest c.args.input.now) (g.K.Sink.written c.args.output.now) in
    let none : c.reading.room ≡ 0 = omega arith in
    c.close.ensures.leaves n before
    (subst (IsTaken (begin_at n) before (told (g.S.Source.rest c.reading.input) (g.K.Sink.written c.reading.output)) c.reading.engine.progress c.reading.cutter) none (c.reading.invariant.taken n is)) goes

pub returns-clause-takes : goal.returns-clause-takes
returns-clause-takes g c =
    let bytes : List ℕ = c.reading.invariant.bytes in
    let last = c.close.ensures.takes in (
      bytes ++ last.0,
      Consumes-trans (g.S.Source.rest c.args.input.now) (g.S.Source.rest c.reading.input) (g.S.Source.rest c.close.new.input) bytes last.0 c.reading.invariant.consumed last.1,
      omega (arith, length-append bytes last.0, last.2, c.reading.invariant.room),
    )
