use Rattle.std.proofs.Common.{◌≡◌, map, take}
use Rattle.nc_gen.specs.Files.{file_view}
use Rattle.nc_words.specs.Words.{texts}
use Rattle.nc_session.specs.Generated.{name_of_file}
use Rattle.nc_session.proofs.generated.names_of.Given as goal

-- the names so far are those of the files so far
abbrev pub invariant-files : goal.invariant-files
invariant-files l = texts l.names.items ≡ map name_of_file (map file_view (take l.file-index l.files))
