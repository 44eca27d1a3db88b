use Rattle.std.proofs.Common.{◌≡◌, ◌-◌, ◌≤◌, take, length}
use Rattle.std.specs.Io.KnownBytes.{Appends}
use Rattle.nc_session.proofs.writing.write_all.Given as goal

abbrev pub invariant-writing : goal.invariant-writing
invariant-writing g l = record {
  faults : g.K.Sink.faults l.output ≡ g.K.Sink.faults l.fn.output;
  written : Appends (g.K.Sink.written l.fn.output) (g.K.Sink.written l.output) (take l.at l.bytes);
  within : l.at ≤ length l.bytes;
}

abbrev pub decreases-writing : goal.decreases-writing
decreases-writing g l = length l.bytes - l.at
