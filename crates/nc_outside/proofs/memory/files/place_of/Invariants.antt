-- No file before this place has the name.
use Rattle.std.proofs.Common.{◌≡◌, drop}
use Rattle.nc_outside.specs.Named.{content_of}
use Rattle.nc_outside.proofs.memory.files.place_of.Given as goal

abbrev pub invariant-loop-place : goal.invariant-loop-place
invariant-loop-place l = content_of (drop l.place l.files) l.name ≡ content_of l.files l.name
