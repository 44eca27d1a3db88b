-- Files without where they lie in memory.
use Rattle.std.specs.Prelude.{ℕ, List}
use Rattle.nc_report.specs.declared.file.LoadedFile.{LoadedFile}

-- a file that was loaded: the word that named it, and its lines
pub record FileView : Type 0 where
  pub name : List ℕ
  pub lines : List (List ℕ)

abbrev pub file_view : LoadedFile → FileView
file_view f = record { name = f.name; lines = f.lines }
