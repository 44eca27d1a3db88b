-- Which lines of a file are text of a banner, and the header of the block in which an indented line stands.
use Rattle.std.specs.Prelude.{ℕ, Bool, true, false, not, ◌&&◌, ◌||◌, ◌==◌, List, [], ◌∷◌, Option, Some, None, is_some, if◌then◌else◌, codes}
use Rattle.std.specs.Option.{option_map_or}
use Rattle.std.specs.Str.{bytes_eq}
use Rattle.nc_lines.specs.Lines.{words_of, is_indented}

-- a word that begins with an exclamation mark
abbrev pub begins_comment : List ℕ → Bool
begins_comment [] = false
begins_comment (b ∷ bs) = b == 33

-- a blank line or a comment
abbrev pub is_idle : List (List ℕ) → Bool
is_idle [] = true
is_idle (word ∷ words) = begins_comment word

-- ---- banners

-- what stands behind the first mark, the two bytes `^C`, if there is one
unfoldable pub behind_mark : List ℕ → Option (List ℕ)
behind_mark [] = None
behind_mark (a ∷ []) = None
behind_mark (a ∷ b ∷ bs) = if (a == 94) && (b == 67) then Some bs else behind_mark (b ∷ bs)

-- a line that has a mark
abbrev pub has_mark : List ℕ → Bool
has_mark line = is_some (behind_mark line)

abbrev pub first_is_banner : List (List ℕ) → Bool
first_is_banner [] = false
first_is_banner (word ∷ words) = bytes_eq word (codes "banner")

-- an unindented line whose first word is `banner`
abbrev pub begins_banner : List ℕ → Bool
begins_banner line = not (is_indented line) && first_is_banner (words_of line)

-- a mark opens a banner in its first line, and no second one closes it there
abbrev pub leaves_open : List ℕ → Bool
leaves_open line = option_map_or (λ text. not (has_mark text)) (behind_mark line) false

-- whether a banner is open behind lines, the nearest first
unfoldable pub is_open : List (List ℕ) → Bool
is_open [] = false
is_open (line ∷ earlier) = if is_open earlier then not (has_mark line) else (begins_banner line && leaves_open line)

-- ---- blocks

-- a line that begins no block, given the lines before it, the nearest first: it belongs to a banner, is indented, blank or a comment
abbrev pub is_passed : List (List ℕ) → List ℕ → Bool
is_passed earlier line = is_open earlier || (begins_banner line || (is_indented line || is_idle (words_of line)))

-- the header of the block in which an indented line stands, given the lines before it, the nearest first: look back to the
-- last line that begins a block
unfoldable pub header_of : List (List ℕ) → Option (List ℕ)
header_of [] = None
header_of (line ∷ earlier) = if is_passed earlier line then header_of earlier else Some line
