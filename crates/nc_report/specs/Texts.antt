-- The forms of a report, byte for byte. They say how each line of the files of a network is marked, by a letter a line.
use Rattle.std.specs.Prelude.{ℕ, ◌+◌, Bool, ◌||◌, ◌==◌, nat_lt, List, [], ◌∷◌, ◌++◌, length, map, Option, Some, None, codes, count_by, slice_index_or, if◌then◌else◌}
use Rattle.std.specs.List.{flat_map, join_with_byte, range_with_len}
use Rattle.std.specs.Fmt.{decimal}
use Rattle.json.specs.Print.{quoted}
use Rattle.nc_lines.specs.Lines.{line_at}
use Rattle.nc_marks.specs.declared.mark.Mark.{Mark}
use Rattle.nc_marks.specs.declared.mark.Mark.TheVariants.{Strong, Weak, Uncovered, Outside}
use Rattle.nc_report.specs.Views.{FileView}

-- a text with a line feed behind it
abbrev pub line_of : List ℕ → List ℕ
line_of text = text ++ 10 ∷ []

-- the letter of a mark: S, W, U and a dot
abbrev pub letter : Mark → ℕ
letter Strong = 83
letter Weak = 87
letter Uncovered = 85
letter Outside = 46

-- a router in a report: its name, and a letter a line of its file
pub record Sheet : Type 0 where
  pub name : List ℕ
  pub letters : List ℕ

-- the sheet of the router of a number, one without letters where there is none
abbrev pub sheet_in : List Sheet → ℕ → Sheet
sheet_in sheets router = slice_index_or sheets router (record { name = []; letters = [] })

-- the letters of all routers, one after the other
abbrev pub letters_of : List Sheet → List ℕ
letters_of sheets = flat_map (λ s. s.letters) sheets

-- how many lines have a letter
abbrev pub count_of : ℕ → List ℕ → ℕ
count_of sign letters = count_by (λ b. b == sign) letters

-- so many places of lines: the numbers of the lines, from 1 on, are one more
abbrev pub places : ℕ → List ℕ
places count = range_with_len 0 count

-- the letter of the line at a place, a dot where there is none
abbrev pub letter_in : List ℕ → ℕ → ℕ
letter_in letters place = slice_index_or letters place 46

-- ---- the report of a test

-- how many lines have each mark
abbrev pub summary_of : List ℕ → List ℕ
summary_of letters =
    codes "strong " ++ (decimal (count_of 83 letters) ++ (codes " weak " ++ (decimal (count_of 87 letters)
    ++ (codes " uncovered " ++ (decimal (count_of 85 letters) ++ (codes " outside " ++ decimal (count_of 46 letters)))))))

-- the line of a router: its name, a space and the letters
abbrev pub sheet_of : Sheet → List ℕ
sheet_of s = line_of (s.name ++ (32 ∷ s.letters))

-- the line of counts over all routers
abbrev pub totals_of : List Sheet → List ℕ
totals_of sheets = line_of (summary_of (letters_of sheets))

-- a report: the counts over all routers, then the line of each
abbrev pub report_of : List Sheet → List ℕ
report_of sheets = totals_of sheets ++ flat_map sheet_of sheets

-- a report that lists the lines of the routers, or one of the counts alone
abbrev pub report_by : Bool → List Sheet → List ℕ
report_by listed sheets = if listed then report_of sheets else totals_of sheets

-- ---- a listing

-- a line behind its letter and its number
unfoldable pub shown_line : ℕ → ℕ → List ℕ → List ℕ
shown_line letter number line = letter ∷ 32 ∷ (decimal number ++ (32 ∷ line_of line))

-- the lines of a file, with these letters
abbrev pub shown_at : List ℕ → List (List ℕ) → ℕ → List ℕ
shown_at letters lines place = shown_line (letter_in letters place) (place + 1) (line_at (place + 1) lines)

abbrev pub show_of : List ℕ → List (List ℕ) → List ℕ
show_of letters lines = flat_map (shown_at letters lines) (places (length lines))

-- ---- an LCOV tracefile (geninfo, 'Files'): a section for each source file, with a count for each line that has one

-- how often a line of a letter was hit, as a coverage tool counts: a strong or weak line once, an uncovered one never; a line
-- that is outside isn't counted
abbrev pub hits_of : ℕ → Option ℕ
hits_of letter = if letter == 83 || letter == 87 then Some 1 else (if letter == 85 then Some 0 else None)

-- a line that is counted, and how often it was hit
pub record Hit : Type 0 where
  pub line : ℕ
  pub count : ℕ

-- the hits of a line, where it is counted
abbrev pub hit_of : ℕ → Option ℕ → Option Hit
hit_of line (Some count) = Some (record { line = line; count = count })
hit_of line None = None

-- what there is, as a list
abbrev pub listed : {A : Type 0} → Option A → List A
listed None = []
listed (Some x) = x ∷ []

-- the lines of a router's file that count, with their hits
abbrev pub hit_at : List ℕ → ℕ → Option Hit
hit_at letters place = hit_of (place + 1) (hits_of (letter_in letters place))

abbrev pub hits_in : List ℕ → List Hit
hits_in letters = flat_map (λ place. listed (hit_at letters place)) (places (length letters))

-- the record of a line
unfoldable pub hit_line : Hit → List ℕ
hit_line hit = codes "DA:" ++ (decimal hit.line ++ (44 ∷ line_of (decimal hit.count)))

-- how many of the lines were hit
abbrev pub hit_count : List Hit → ℕ
hit_count hits = count_by (λ hit. nat_lt 0 hit.count) hits

-- the records behind those of the lines: how many lines there are, and how many of them were hit
unfoldable pub ending : ℕ → ℕ → List ℕ
ending found hit = codes "LF:" ++ (decimal found ++ (10 ∷ (codes "LH:" ++ (decimal hit ++ (10 ∷ line_of (codes "end_of_record"))))))

-- the section of a source file of this name, in which no test is named
unfoldable pub section_text : List ℕ → List Hit → List ℕ
section_text name hits =
    line_of (codes "TN:") ++ (codes "SF:" ++ (name ++ (10 ∷ (flat_map hit_line hits ++ ending (length hits) (hit_count hits)))))

-- the sections of the routers' files, in order
abbrev pub lcov_of : List Sheet → List FileView → List ℕ
lcov_of [] files = []
lcov_of (s ∷ ss) [] = []
lcov_of (s ∷ ss) (f ∷ fs) = section_text f.name (hits_in s.letters) ++ lcov_of ss fs

-- ---- a JSON object (RFC 8259), without white space and with its keys in order

unfoldable pub router_text : Sheet → List ℕ
router_text s = codes "{\"marks\":" ++ (quoted s.letters ++ (codes ",\"name\":" ++ (quoted s.name ++ codes "}")))

unfoldable pub object_text : List Sheet → List ℕ
object_text sheets =
    codes "{\"outside\":" ++ (decimal (count_of 46 (letters_of sheets)) ++ (codes ",\"routers\":[" ++ (join_with_byte 44 (map router_text sheets)
    ++ (codes "],\"strong\":" ++ (decimal (count_of 83 (letters_of sheets)) ++ (codes ",\"uncovered\":" ++ (decimal (count_of 85 (letters_of sheets))
    ++ (codes ",\"weak\":" ++ (decimal (count_of 87 (letters_of sheets)) ++ codes "}")))))))))

-- the line of the whole network
abbrev pub json_of : List Sheet → List ℕ
json_of sheets = line_of (object_text sheets)
