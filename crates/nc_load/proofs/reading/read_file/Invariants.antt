use Rattle.std.proofs.Common.{◌≡◌, ◌≤◌, ◌+◌, ◌-◌, false, length}
use Rattle.std.specs.Io.KnownBytes.{Consumes}
use Rattle.nc_load.specs.Reading.{StaysInTime}
use Rattle.nc_load.specs.Limits.{most_file_bytes}
use Rattle.nc_load.proofs.reading.read_file.Given as goal

abbrev pub invariant-reading : goal.invariant-reading
invariant-reading g l = record {
  files : g.F.Files.files l.files ≡ g.F.Files.files l.fn.files;
  entered : g.F.Files.entered l.files ≡ g.F.Files.entered l.fn.files;
  entries : g.F.Files.entries l.files ≡ g.F.Files.entries l.fn.files;
  goes_on : (g.F.Files.end l.fn.files).is_told ≡ false → (g.F.Files.end l.files).is_told ≡ false;
  in_time : StaysInTime (g.F.Files.end l.fn.files) (g.F.Files.end l.files);
  faults : g.F.Files.faults l.files ≡ g.F.Files.faults l.fn.files;
  taken : Consumes (g.F.Files.left l.fn.files) (g.F.Files.left l.files) l.bytes.items;
  within : length l.bytes.items ≤ most_file_bytes + 1;
}

abbrev pub decreases-reading : goal.decreases-reading
decreases-reading g l = most_file_bytes + 2 - length l.bytes.items
