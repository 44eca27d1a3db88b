use Rattle.std.proofs.Common.{◌≡◌, ◌+◌, List, ℕ, false, Some, length}
use Rattle.std.specs.Io.KnownBytes.{Consumes}
use Rattle.nc_session.specs.Limits.{most_session_bytes}
use Rattle.nc_engine.specs.File.{LoadedView}
use Rattle.nc_engine.specs.Engine.{begin_at}
use Rattle.nc_session.specs.Leaving.{told}
use Rattle.nc_session.specs.SoFar.{IsTaken}
use Rattle.nc_session.proofs.pieces.serve_pieces.Given as goal

abbrev pub invariant-reading : goal.invariant-reading
invariant-reading g l = record {
  source : g.S.Source.faults l.input ≡ g.S.Source.faults l.fn.input;
  sink : g.K.Sink.faults l.output ≡ g.K.Sink.faults l.fn.output;
  -- no read came behind the end, which wasn't told
  in_time : (g.S.Source.end l.fn.input).is_told ≡ false → (g.S.Source.end l.input).late ≡ (g.S.Source.end l.fn.input).late;
  untold : (g.S.Source.end l.fn.input).is_told ≡ false → (g.S.Source.end l.input).is_told ≡ false;
  bytes : List ℕ;
  consumed : Consumes (g.S.Source.rest l.fn.input) (g.S.Source.rest l.input) bytes;
  room : length bytes + l.room ≡ most_session_bytes;
  taken : (n : LoadedView) → l.fn.engine.progress ≡ Some (begin_at n)
      → IsTaken (begin_at n) (told (g.S.Source.rest l.fn.input) (g.K.Sink.written l.fn.output))
      (told (g.S.Source.rest l.input) (g.K.Sink.written l.output)) l.engine.progress l.cutter l.room;
}

abbrev pub decreases-reading : goal.decreases-reading
decreases-reading g l = l.room
