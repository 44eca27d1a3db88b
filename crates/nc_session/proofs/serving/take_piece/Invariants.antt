use Rattle.std.proofs.Common.{◌≡◌, ◌++◌, List, ℕ, Option, length}
use Rattle.nc_lines.specs.WholeLines.{whole_lines_of}
use Rattle.nc_command.specs.Cutting.{held_of}
use Rattle.nc_engine.specs.Engine.{Progress}
use Rattle.nc_session.specs.Serving.{AreServed, ArePending}
use Rattle.nc_session.proofs.serving.take_piece.Given as goal

-- the lines that the front of the piece ends are answered, with replies that are pending, and its open line is held
abbrev pub invariant-lines : goal.invariant-lines
invariant-lines g l = record {
  faults : g.K.Sink.faults l.output ≡ g.K.Sink.faults l.fn.output;
  front : List ℕ;
  parts : l.piece ≡ front ++ l.rest;
  held : (taken : List ℕ) → l.fn.cutter ≡ held_of taken → l.cutter ≡ held_of (taken ++ front);
  served : (from : Progress) (taken : List ℕ) (start : Option (List ℕ)) → l.fn.cutter ≡ held_of taken
      → AreServed from (whole_lines_of taken) l.fn.engine.progress start (g.K.Sink.written l.fn.output)
      → ArePending from (whole_lines_of (taken ++ front)) l.engine.progress l.pending.items start (g.K.Sink.written l.output);
}

abbrev pub decreases-lines : goal.decreases-lines
decreases-lines g l = length l.rest
