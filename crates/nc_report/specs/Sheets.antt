-- The sheets of a report, as they are made of the marks of elements.
use Rattle.std.specs.Prelude.{ℕ, ◌+◌, List, [], ◌∷◌, map}
use Rattle.std.specs.List.{range_with_len}
use Rattle.nc_types.specs.Config.{ConfigView}
use Rattle.nc_types.specs.Network.{owner_at}
use Rattle.nc_marks.specs.Marks.{ElementMarks, mark_of}
use Rattle.nc_report.specs.declared.report.Sheet.{Sheet as Made}
use Rattle.nc_report.specs.Texts.{Sheet, letter}

abbrev pub sheet_view : Made → Sheet
sheet_view s = record { name = s.name.items; letters = s.letters.items }

-- the sheets of routers, the first of which has this number, with a letter for each router and place of a line
abbrev pub sheets_by : (ℕ → ℕ → ℕ) → ℕ → List ConfigView → List Sheet
sheets_by letters router [] = []
sheets_by letters router (c ∷ cs) =
    record { name = c.name; letters = map (letters router) (range_with_len 0 c.line_count) } ∷ sheets_by letters (router + 1) cs

module _ (routers : List ConfigView) (marks : ElementMarks) where
  -- the letter of a line of a router
  abbrev pub letter_at : ℕ → ℕ → ℕ
  letter_at router line = letter (mark_of marks (owner_at routers router line))

  -- the letters of the lines of a router, from behind a line on
  abbrev pub letters_from : ℕ → ℕ → ℕ → List ℕ
  letters_from router line count = map (λ place. letter_at router (place + 1)) (range_with_len line count)

  -- the sheet of the router of a number
  abbrev pub sheet_at : ℕ → ConfigView → Sheet
  sheet_at router c = record { name = c.name; letters = letters_from router 0 c.line_count }

  -- the sheets of routers, the first of which has this number
  abbrev pub sheets_from : ℕ → List ConfigView → List Sheet
  sheets_from router cs = sheets_by (λ router place. letter_at router (place + 1)) router cs
