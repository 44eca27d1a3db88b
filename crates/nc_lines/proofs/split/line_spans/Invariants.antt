use Rattle.std.proofs.Common.{◌≡◌, ◌++◌, ◌-◌, ◌≤◌, length, map, drop}
use Rattle.std.specs.Prelude.{All, slice_range}
use Rattle.nc_lines.specs.Lines.{lines_of}
use Rattle.nc_lines.proofs.split.line_spans.Given as goal

abbrev pub invariant-lines : goal.invariant-lines
invariant-lines l = record {
  from : l.from ≤ length l.bytes;
  lines : map (λ s. slice_range l.bytes s.from s.to) l.spans.items ++ lines_of (drop l.from l.bytes) ≡ lines_of l.bytes;
  within : All (λ s. (s.from ≤ s.to) × (s.to ≤ length l.bytes)) l.spans.items;
  count : length l.spans.items ≤ l.from;
}

abbrev pub decreases-lines : goal.decreases-lines
decreases-lines l = length l.bytes - l.from
