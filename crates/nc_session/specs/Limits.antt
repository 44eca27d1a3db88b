-- How much is read of a session.
use Rattle.std.specs.Prelude.{ℕ}

-- how many bytes of a session are answered: up to its end, or through the line that ends it
abbrev pub most_session_bytes : ℕ
most_session_bytes = 16777216
