-- A part of a file: its lines with their numbers, and what they say by a rule for one line.
use Rattle.std.specs.Prelude.{ℕ, List, [], ◌∷◌, map, Option, Some, None}
use Rattle.std.specs.List.{filter_map}
use Rattle.std.specs.Option.{option_map}
use Rattle.nc_types.specs.declared.fault.Fault.{Fault}
use Rattle.nc_lines.specs.Lines.{line_at}
use Rattle.nc_lines.specs.Statements.{Reading, fault_of, said_of}

-- a line with its number
pub record Numbered : Type 0 where
  pub line : ℕ
  pub text : List ℕ

-- lines of a file by their numbers
abbrev pub numbered : List (List ℕ) → List ℕ → List Numbered
numbered lines ks = map (λ k. record { line = k; text = line_at k lines }) ks

-- the numbers of the lines of a part
abbrev pub lines_in : List Numbered → List ℕ
lines_in block = map (λ l. l.line) block

-- a line with what it says
pub record Stated (S : Type 0) : Type 0 where
  pub line : ℕ
  pub setting : S

-- the first of a list
abbrev pub first_of : {A : Type 0} → List A → Option A
first_of [] = None
first_of (x ∷ xs) = Some x

-- the first faulty line
abbrev pub fault_in : {S : Type 0} → (Numbered → Reading S) → List Numbered → Option Fault
fault_in says block = first_of (filter_map (λ l. option_map (λ cause. record { line = l.line; cause = cause }) (fault_of (says l))) block)

-- the statements, each with its line
abbrev pub statements_in : {S : Type 0} → (Numbered → Reading S) → List Numbered → List (Stated S)
statements_in says block = filter_map (λ l. option_map (λ s. record { line = l.line; setting = s }) (said_of (says l))) block
