-- The prefix list that its statements make.
use Rattle.std.specs.Prelude.{ℕ, ◌==◌, nat_lt, List, [], ◌∷◌, map, filter, Option, Some, None, Result, Ok, Err, option_and_then, if◌then◌else◌, codes}
use Rattle.std.specs.List.{filter_map, last_or}
use Rattle.std.specs.Option.{option_map, option_map_or}
use Rattle.std.specs.Str.{bytes_eq}
use Rattle.nc_types.specs.Communities.{put_all}
use Rattle.nc_types.specs.declared.fault.Fault.{Fault}
use Rattle.nc_types.specs.declared.fault.Cause.TheVariants.{Syntax}
use Rattle.nc_types.specs.declared.config.ListEntry.{ListEntry}
use Rattle.nc_lines.specs.Lines.{words_of}
use Rattle.nc_lines.specs.Parts.{Numbered}
use Rattle.nc_lines.specs.Statements.{Reading, Outside, Faulty, Says, after}
use Rattle.nc_read_policy.specs.Results.{on_ok, ok_map}
use Rattle.nc_read_policy.specs.Entries.{any_entry}

-- what is behind `ip prefix-list`: the name of a list; a description, and that entries are shown with their numbers, are outside
abbrev pub list_name_says : List (List ℕ) → Reading (List ℕ)
list_name_says [] = Faulty Syntax
list_name_says (name ∷ []) = if bytes_eq name (codes "sequence-number") then Outside else Says name
list_name_says (name ∷ word ∷ words) = if bytes_eq word (codes "description") then Outside else Says name

-- ---- statements

-- the higher of two numbers
abbrev pub higher : ℕ → ℕ → ℕ
higher m n = if nat_lt m n then n else m

-- the words behind `ip prefix-list` and the name of a list
abbrev pub behind_word : List (List ℕ) → Option (List (List ℕ))
behind_word [] = None
behind_word (word ∷ words) = Some words

abbrev pub behind_name : List (List ℕ) → Option (List (List ℕ))
behind_name words = option_and_then behind_word (after (codes "ip" ∷ codes "prefix-list" ∷ []) words)

-- the entry that a line writes, given the highest number before it; any other form is a fault of syntax
abbrev pub statement_at : ℕ → Numbered → Result ListEntry Fault
statement_at highest l =
    option_map_or (λ e. Ok e) (option_and_then (any_entry l.line highest) (behind_name (words_of l.text))) (Err (record { line = l.line; cause = Syntax }))

-- the entries that the lines of one list write, given the highest number before them, or the fault of the first faulty line
abbrev pub stated_from : ℕ → List Numbered → Result (List ListEntry) Fault
stated_from highest [] = Ok []
stated_from highest (l ∷ block) = on_ok (λ e. ok_map (λ es. e ∷ es) (stated_from (higher highest e.seq) block)) (statement_at highest l)

-- ---- entries

-- an entry, and the lines of its statements
pub record EntryPart : Type 0 where
  pub entry : ListEntry
  pub lines : List ℕ

-- the statements of one number
abbrev pub of_seq : ℕ → List ListEntry → List ListEntry
of_seq seq es = filter (λ e. e.seq == seq) es

-- what statements of one number make: the last one holds, and the lines are those of all
abbrev pub part_of : List ListEntry → Option EntryPart
part_of es = option_map (λ last. record { entry = last; lines = map (λ e. e.line) es }) (last_or None es)

-- the numbers of statements, ascending and each once
abbrev pub seqs_of : List ListEntry → List ℕ
seqs_of es = put_all [] (map (λ e. e.seq) es)

-- the entries that statements make: one for each number, in order of the numbers
abbrev pub parts_of : List ListEntry → List EntryPart
parts_of es = filter_map (λ seq. part_of (of_seq seq es)) (seqs_of es)

-- the entries of the list that these lines make, or the fault of the first faulty one
unfoldable pub list_in : List Numbered → Result (List EntryPart) Fault
list_in block = ok_map parts_of (stated_from 0 block)
