-- An address as text.
use Rattle.std.specs.Prelude.{ℕ, ◌/◌, ◌%◌, List, [], ◌∷◌}
use Rattle.std.specs.List.{join_with_byte}
use Rattle.std.specs.Fmt.{decimal}

-- an address as four numbers with dots between them
abbrev pub dotted : ℕ → List ℕ
dotted a = join_with_byte 46 (decimal (a / 16777216) ∷ decimal (a / 65536 % 256) ∷ decimal (a / 256 % 256) ∷ decimal (a % 256) ∷ [])
