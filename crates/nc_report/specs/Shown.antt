-- A report that is kept, and what of it is due to be written anew.
use Rattle.std.specs.Prelude.{◌≡◌, ℕ, ◌+◌, ◌<◌, ◌^◌, Bool, false, ◌==◌, nat_eq, All, List, length, Option, Some, None, slice_set, slice_index_or, if◌then◌else◌}
use Rattle.std.specs.List.{sum_by}
use Rattle.std.specs.Str.{IsAscii}
use Rattle.nc_types.specs.Config.{ConfigView}
use Rattle.nc_marks.specs.Marks.{ElementMarks}
use Rattle.nc_marks.specs.Sets.{has}
use Rattle.nc_report.specs.Texts.{Sheet, sheet_in, count_of}
use Rattle.nc_report.specs.Sheets.{sheets_by, letter_at}

-- a sheet with another letter at a place
abbrev pub with_letter : Sheet → ℕ → ℕ → Sheet
with_letter s place letter = record { name = s.name; letters = slice_set s.letters place letter }

-- sheets with another letter at a place of a router's, if there is one
abbrev pub put_letter : List Sheet → ℕ → ℕ → ℕ → List Sheet
put_letter sheets router place letter = slice_set sheets router (with_letter (sheet_in sheets router) place letter)

-- one, where it is that letter
abbrev pub one : ℕ → ℕ → ℕ
one sign letter = if letter == sign then 1 else 0

-- how often a letter is in all sheets
abbrev pub count_in : ℕ → List Sheet → ℕ
count_in sign sheets = sum_by (λ s. count_of sign s.letters) sheets

-- the name and the letters of a router are ASCII
pub record IsText (s : Sheet) : Type 0 where
  pub name : IsAscii s.name
  pub letters : IsAscii s.letters

-- sheets that are kept: with the counts of all letters, by the letter, and ASCII
pub record AreKept (sheets : List Sheet) (counts : List ℕ) : Type 0 where
  pub len : length counts ≡ 256
  pub each : (sign : ℕ) → sign < 256 → slice_index_or counts sign 0 ≡ count_in sign sheets
  pub few : sum_by (λ s. length s.letters) sheets < 2 ^ 63
  pub texts : All IsText sheets

-- whether the owner of a line is an element, and whether it is among some
abbrev pub is_owner : ℕ → Option ℕ → Bool
is_owner element None = false
is_owner element (Some owner) = nat_eq owner element

abbrev pub is_owned : List ℕ → Option ℕ → Bool
is_owned elements None = false
is_owned elements (Some owner) = has elements owner

-- the letters of the sheets are those of the marks, but for those of lines that are due, which may be any
pub record AreFreshBut (routers : List ConfigView) (marks : ElementMarks) (due : ℕ → ℕ → Bool) (sheets : List Sheet) : Type 0 where
  pub letters : ℕ → ℕ → ℕ
  pub are : sheets ≡ sheets_by letters 0 routers
  pub told : (router place : ℕ) → due router place ≡ false → letters router place ≡ letter_at routers marks router (place + 1)
