-- How much of a session is kept.
use Rattle.std.specs.Prelude.{ℕ}

-- how many tests are accepted
abbrev pub most_tests : ℕ
most_tests = 4096

-- how many facts are asked
abbrev pub most_facts : ℕ
most_facts = 1048576

-- how many parts of diagrams are kept
abbrev pub most_parts : ℕ
most_parts = 1048576
