-- The lines of a session, cut while it is read.
use Rattle.std.specs.Prelude.{◌≡◌, ◌≢◌, ℕ, true, false, nat_lt, List, [], ◌∷◌, ◌++◌, length, map, take, Option, Some, None, if◌then◌else◌}
use Rattle.std.specs.List.{list_any}
use Rattle.nc_lines.specs.Lines.{is_empty, is_feed, without_return, lines_of}
use Rattle.nc_lines.specs.WholeLines.{open_of, whole_lines_of}
use Rattle.nc_command.specs.Command.{most_line_bytes}
use Rattle.nc_command.specs.declared.cutter.Cut.{Cut}
use Rattle.nc_command.specs.declared.cutter.Cut.TheVariants.{Line, Long}

-- what a line is cut as, given without its line end: it is too long, or its bytes are told
abbrev pub line_cut : List ℕ → Cut
line_cut line = if nat_lt most_line_bytes (length line) then Long else Line line

-- what is cut of the bytes before a line feed, of which the last may be a carriage return
unfoldable pub cut_of : List ℕ → Cut
cut_of bytes = line_cut (without_return bytes)

-- how many bytes of an open line are held: those that a line may have, a carriage return, and one by which a longer line is known
abbrev pub most_held_bytes : ℕ
most_held_bytes = 4098

-- what is held of an open line
abbrev pub front_of : List ℕ → List ℕ
front_of bytes = take most_held_bytes bytes

-- what is held behind these bytes of a session
abbrev pub held_of : List ℕ → List ℕ
held_of bytes = front_of (open_of bytes)

-- ---- what a call does

-- a piece has its first line feed between these bytes
pub record IsAtFeed (piece front rest : List ℕ) : Type 0 where
  pub parts : piece ≡ front ++ 10 ∷ rest
  pub first : list_any is_feed front ≡ false

-- a byte was pushed: a line feed cuts the line that is held, and any other byte goes to its end
abbrev pub Pushes : ℕ → List ℕ → List ℕ → Option Cut → Type 0
Pushes byte old new None = (is_feed byte ≡ false) × (new ≡ front_of (old ++ byte ∷ []))
Pushes byte old new (Some cut) = (is_feed byte ≡ true) × (cut ≡ cut_of old) × (new ≡ [])

-- the bytes of a piece were pushed through its first line feed, behind which there is this rest
pub record CutsFirst (piece old new : List ℕ) (cut : Cut) (rest : List ℕ) : Type 0 where
  pub front : List ℕ
  pub parts : piece ≡ front ++ 10 ∷ rest
  pub first : list_any is_feed front ≡ false
  pub is_cut : cut ≡ cut_of (old ++ front)
  pub emptied : new ≡ []

-- all bytes of a piece without a line feed were pushed
pub record HoldsAll (piece old new : List ℕ) : Type 0 where
  pub none : list_any is_feed piece ≡ false
  pub held : new ≡ front_of (old ++ piece)

-- the line that no line feed ends, where it has bytes
abbrev pub Ends : List ℕ → Option Cut → Type 0
Ends held None = held ≡ []
Ends held (Some cut) = (0 ≢ length held) × (cut ≡ cut_of held)

-- ---- what all bytes of a session are cut as

-- what is held behind bytes that are pushed one after another, and what is cut of them
abbrev pub held_after : List ℕ → List ℕ → List ℕ
held_after held [] = held
held_after held (byte ∷ bytes) = held_after (if is_feed byte then [] else front_of (held ++ byte ∷ [])) bytes

abbrev pub cuts_after : List ℕ → List ℕ → List Cut
cuts_after held [] = []
cuts_after held (byte ∷ bytes) =
    if is_feed byte then cut_of held ∷ cuts_after [] bytes else cuts_after (front_of (held ++ byte ∷ [])) bytes

-- what is cut at the end
abbrev pub last_cut : List ℕ → List Cut
last_cut held = if is_empty held then [] else cut_of held ∷ []

-- a cutter that the bytes of a session are pushed into holds what is open, has cut the whole lines, and in the end all lines
pub record CutsLines (bytes : List ℕ) : Type 0 where
  pub held : held_after [] bytes ≡ held_of bytes
  pub cuts : cuts_after [] bytes ≡ map line_cut (whole_lines_of bytes)
  pub all : cuts_after [] bytes ++ last_cut (held_after [] bytes) ≡ map line_cut (lines_of bytes)
