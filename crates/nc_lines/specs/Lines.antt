-- The lines of a text, and the words of a line.
use Rattle.std.specs.Prelude.{ℕ, ◌-◌, Bool, true, false, not, ◌||◌, ◌==◌, List, [], ◌∷◌, Option, Some, None, map, filter, slice_index_or, if◌then◌else◌}
use Rattle.std.specs.List.{slice_split}

-- whether there is nothing in a list of bytes
abbrev pub is_empty : List ℕ → Bool
is_empty [] = true
is_empty (b ∷ bs) = false

-- a line feed, at which lines are cut
abbrev pub is_feed : ℕ → Bool
is_feed b = b == 10

-- a space or a tab, which separate words and indent a line
abbrev pub is_gap : ℕ → Bool
is_gap b = (b == 32) || (b == 9)

-- what stands behind the last line feed is a line only if it isn't empty
abbrev pub without_empty_last : List (List ℕ) → List (List ℕ)
without_empty_last [] = []
without_empty_last (part ∷ []) = if is_empty part then [] else part ∷ []
without_empty_last (part ∷ next ∷ parts) = part ∷ without_empty_last (next ∷ parts)

-- a line without the one carriage return at its end, if it has one
abbrev pub without_return : List ℕ → List ℕ
without_return [] = []
without_return (b ∷ []) = if b == 13 then [] else b ∷ []
without_return (b ∷ next ∷ bs) = b ∷ without_return (next ∷ bs)

-- the lines of a text: cut at each line feed, each without its carriage return
unfoldable pub lines_of : List ℕ → List (List ℕ)
lines_of bytes = map without_return (without_empty_last (slice_split is_feed bytes))

-- the words of a line: what stands between its gaps
unfoldable pub words_of : List ℕ → List (List ℕ)
words_of line = filter (λ word. not (is_empty word)) (slice_split is_gap line)

-- the first byte of the first of these words
abbrev pub first_byte : List (List ℕ) → Option ℕ
first_byte [] = None
first_byte ([] ∷ words) = None
first_byte ((b ∷ bs) ∷ words) = Some b

-- a line that begins with a gap
abbrev pub is_indented : List ℕ → Bool
is_indented [] = false
is_indented (b ∷ bs) = is_gap b

-- line k of a list, from 1
abbrev pub line_at : ℕ → List (List ℕ) → List ℕ
line_at k lines = slice_index_or lines (k - 1) []
