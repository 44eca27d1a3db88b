-- The beginning of a line of a list.
use Rattle.std.specs.Prelude.{◌≡◌, ℕ, List, [], Some}
use Rattle.nc_lines.specs.Lines.{words_of}
use Rattle.nc_read_policy.specs.Lists.{behind_name}

-- the words `ip prefix-list W` and no more
abbrev pub IsHead : List ℕ → Type 0
IsHead head = behind_name (words_of head) ≡ Some []
