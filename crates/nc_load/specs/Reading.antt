-- Reading from the outside up to one byte past a limit.
use Rattle.std.specs.Prelude.{◌≡◌, ℕ, ◌+◌, ◌≤◌, false, List, ◌++◌, length, Option, Result, Ok, Err}
use Rattle.std.specs.Io.KnownBytes.{Consumes, IsAtEnd}
use Rattle.nc_outside.specs.declared.end.End.{End}
use Rattle.nc_outside.specs.Counts.{Faults, Rose}
use Rattle.nc_load.specs.declared.reading.Stop.{Stop}
use Rattle.nc_load.specs.declared.reading.Stop.TheVariants.{Outside, Memory}

-- one read took so many bytes, which went to the end of those taken before; no byte past the limit but one
pub record IsPiece (most : ℕ) (left rest : Option (List ℕ)) (before after : List ℕ) (count : ℕ) : Type 0 where
  pub piece : List ℕ
  pub text : after ≡ before ++ piece
  pub taken : Consumes left rest piece
  pub len : length piece ≡ count
  pub within : length after ≤ most + 1
  pub ended : count ≡ 0 → IsAtEnd rest

-- what was read: all there is up to the limit, or one byte more
pub record IsRead (most : ℕ) (left rest : Option (List ℕ)) (bytes : List ℕ) : Type 0 where
  pub taken : Consumes left rest bytes
  pub ended : length bytes ≤ most → IsAtEnd rest
  pub within : length bytes ≤ most + 1

-- no more than so many bytes were taken off the front, where they are told
abbrev pub TakesAtMost : ℕ → Option (List ℕ) → Option (List ℕ) → Type 0
TakesAtMost most old new = (taken : List ℕ) × Consumes old new taken × (length taken ≤ most)

-- no read came behind the end
abbrev pub IsInTime : End → End → Type 0
IsInTime before now = now.late ≡ before.late

-- no read came behind the end, unless that was told before
abbrev pub StaysInTime : End → End → Type 0
StaysInTime before now = before.is_told ≡ false → IsInTime before now

-- work stops for the outside only where its count of faults rose, and else leaves the count
abbrev pub HasStopCause : {T : Type 0} → Faults → Faults → Result T Stop → Type 0
HasStopCause before now (Ok x) = now ≡ before
HasStopCause before now (Err Outside) = Rose before now
HasStopCause before now (Err Memory) = now ≡ before
