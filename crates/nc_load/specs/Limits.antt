-- How much is read of files.
use Rattle.std.specs.Prelude.{ℕ}

-- how many routers there are at most, each with a file of its own
abbrev pub most_routers : ℕ
most_routers = 256

-- how many lines a file has at most
abbrev pub most_lines : ℕ
most_lines = 65535

-- how many bytes a file has at most
abbrev pub most_file_bytes : ℕ
most_file_bytes = 4194304
