-- The whole lines of a text, and what stands behind them.
use Rattle.std.specs.Prelude.{◌≡◌, ℕ, List, [], ◌∷◌, ◌++◌, map, if◌then◌else◌}
use Rattle.std.specs.List.{slice_split}
use Rattle.nc_lines.specs.Lines.{is_empty, is_feed, without_return, lines_of}

-- a list without its last item
abbrev pub all_but_last : {A : Type 0} → List A → List A
all_but_last [] = []
all_but_last (x ∷ []) = []
all_but_last (x ∷ next ∷ xs) = x ∷ all_but_last (next ∷ xs)

-- the last of the parts of a text
abbrev pub last_part : List (List ℕ) → List ℕ
last_part [] = []
last_part (part ∷ []) = part
last_part (part ∷ next ∷ parts) = last_part (next ∷ parts)

-- the lines of a text that a line feed ends
unfoldable pub whole_lines_of : List ℕ → List (List ℕ)
whole_lines_of bytes = map without_return (all_but_last (slice_split is_feed bytes))

-- the open line: what stands behind the last line feed
unfoldable pub open_of : List ℕ → List ℕ
open_of bytes = last_part (slice_split is_feed bytes)

-- the open line as a line, where it has bytes
abbrev pub last_line : List ℕ → List (List ℕ)
last_line bytes = map without_return (if is_empty (open_of bytes) then [] else (open_of bytes ∷ []))

-- what is told of a text that is cut in two, from the whole lines and the open line of its front
pub record LinesGoOn (front behind : List ℕ) : Type 0 where
  pub whole : whole_lines_of (front ++ behind) ≡ whole_lines_of front ++ whole_lines_of (open_of front ++ behind)
  pub lines : lines_of (front ++ behind) ≡ whole_lines_of front ++ lines_of (open_of front ++ behind)
  pub rest : open_of (front ++ behind) ≡ open_of (open_of front ++ behind)

-- what bytes without a line feed do behind a text: they go to the end of its open line, and a line feed behind them ends it
pub record TakesBytes (text bytes : List ℕ) : Type 0 where
  pub whole : whole_lines_of (text ++ bytes) ≡ whole_lines_of text
  pub open_line : open_of (text ++ bytes) ≡ open_of text ++ bytes
  pub ended : whole_lines_of (text ++ (bytes ++ 10 ∷ [])) ≡ whole_lines_of text ++ without_return (open_of text ++ bytes) ∷ []
  pub none_open : open_of (text ++ (bytes ++ 10 ∷ [])) ≡ []
