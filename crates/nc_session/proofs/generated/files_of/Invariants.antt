use Rattle.std.proofs.Common.{◌≡◌, map}
use Rattle.nc_gen.specs.Files.{file_view}
use Rattle.nc_session.specs.Generated.{named_file}
use Rattle.nc_session.proofs.generated.files_of.Given as goal

-- what was made so far is of the files so far
abbrev pub invariant-files : goal.invariant-files
invariant-files l = l.made.items ≡ map named_file (map file_view l.yielded)
