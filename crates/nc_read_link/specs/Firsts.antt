-- The words with which the statements of an interface begin.
use Rattle.std.specs.Prelude.{◌≡◌, ℕ, Bool, ◌||◌, ◌==◌, List, ◌∷◌, codes}
use Rattle.nc_lines.specs.Lines.{is_gap}
use Rattle.nc_lines.specs.Statements.{Outside}
use Rattle.nc_read_link.specs.declared.first.First.{First}
use Rattle.nc_read_link.specs.declared.first.First.TheVariants as first
use Rattle.nc_read_link.specs.Interfaces.{setting_says}

-- a first word is the one that it is told to be; a line that begins with any other says nothing that is read
abbrev pub IsFirst : First → List ℕ → Type 0
IsFirst first.Ip word = word ≡ codes "ip"
IsFirst first.No word = word ≡ codes "no"
IsFirst first.Shutdown word = word ≡ codes "shutdown"
IsFirst first.Vrf word = word ≡ codes "vrf"
IsFirst first.Other word = (words : List (List ℕ)) → setting_says (word ∷ words) ≡ Outside

-- a byte with which a statement may begin that is read or refused, or a gap
abbrev pub may_begin : ℕ → Bool
may_begin b = (b == 105) || ((b == 110) || ((b == 115) || ((b == 118) || is_gap b)))
