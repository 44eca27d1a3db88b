-- The entries of access lists, from all lines of a file that speak of them.
use Rattle.std.specs.Prelude.{ℕ, List, [], ◌∷◌, Option, Some, None, option_and_then, if◌then◌else◌}
use Rattle.std.specs.List.{filter_map, cons_option}
use Rattle.std.specs.Option.{option_map, option_map_or}
use Rattle.nc_lines.specs.Lines.{words_of, is_indented}
use Rattle.nc_lines.specs.Parts.{Numbered, Stated}
use Rattle.nc_read_filter.specs.declared.entries.Rule.{Rule}
use Rattle.nc_read_filter.specs.declared.entries.Said.{Said}
use Rattle.nc_read_filter.specs.declared.entries.Said.TheVariants.{Outside, Odd, Says}
use Rattle.nc_read_filter.specs.declared.filters.FilterLine.{FilterLine}
use Rattle.nc_read_filter.specs.declared.filters.OddLine.{OddLine}
use Rattle.nc_read_filter.specs.Entries.{action_says, entry_says}
use Rattle.nc_read_filter.specs.Lists.{Head, opened_by, numbered_by}

-- a statement that begins as an entry of a list: what it says, or nothing where it is odd
pub record ListSays : Type 0 where
  pub list : List ℕ
  pub rule : Option Rule

abbrev pub ListStatement : Type 0
ListStatement = Stated ListSays

-- what is said in a list
abbrev pub of_list : List ℕ → Said → Option ListSays
of_list list Outside = None
of_list list Odd = Some (record { list = list; rule = None })
of_list list (Says rule) = Some (record { list = list; rule = Some rule })

-- what an unindented line says: it may name its list by a number
abbrev pub numbered_says : List (List ℕ) → Option ListSays
numbered_says words = option_and_then (λ p. of_list p.0.name (action_says p.0.standard p.1)) (numbered_by words)

-- what a line says, given the list that is open in front of it
abbrev pub line_says : Option Head → List ℕ → Option ListSays
line_says list text =
    if is_indented text then option_and_then (λ h. of_list h.name (entry_says h.standard (words_of text))) list else numbered_says (words_of text)

-- the list that is open behind a line: a header opens one, and any other unindented line none
abbrev pub open_behind : Option Head → List ℕ → Option Head
open_behind list text = if is_indented text then list else opened_by (words_of text)

-- the statements of lines, given the list that is open in front of them
abbrev pub statements_from : Option Head → List Numbered → List ListStatement
statements_from list [] = []
statements_from list (l ∷ block) =
    cons_option (option_map (λ s. record { line = l.line; setting = s }) (line_says list l.text)) (statements_from (open_behind list l.text) block)

-- the entry that a statement is, and the odd line; its element is yet to be filled in
abbrev pub entry_at : ListStatement → Option FilterLine
entry_at s =
    option_map (λ r. record {
      entry = record { list = s.setting.list; permit = r.permit; ip = r.ip; from = r.from; to = r.to; element = 0 };
      line = s.line;
    }) s.setting.rule

abbrev pub odd_at : ListStatement → Option OddLine
odd_at s = option_map_or (λ r. None) s.setting.rule (Some (record { list = s.setting.list; line = s.line }))

-- the entries of all lists and the odd lines
pub record FiltersMade : Type 0 where
  pub entries : List FilterLine
  pub odd : List OddLine

-- what these lines make
unfoldable pub filters_in : List Numbered → FiltersMade
filters_in block = record { entries = filter_map entry_at (statements_from None block); odd = filter_map odd_at (statements_from None block) }
