-- What holds of each process that lines make.
use Rattle.std.specs.Prelude.{◌≡◌, ℕ, ◌<◌, false, List, [], ◌∷◌, ◌++◌, length, Result, Ok, Err, All, Contains}
use Rattle.std.specs.List.{filter_map, AllPairs}
use Rattle.std.specs.List.Sorted.{IsStrictlyIncreasing}
use Rattle.std.specs.Option.{option_map, option_map_or}
use Rattle.nc_types.specs.Faults.{lowest}
use Rattle.nc_types.specs.declared.fault.Fault.{Fault}
use Rattle.nc_lines.specs.Lines.{words_of, is_indented}
use Rattle.nc_lines.specs.Statements.{Says, fault_of}
use Rattle.nc_lines.specs.Parts.{Numbered, statements_in}
use Rattle.nc_read_bgp.specs.Statements.{header_says, line_says}
use Rattle.nc_read_bgp.specs.Processes.{ProcessMade, fields_in, lack_of, process_of}

-- the lines of each neighbor, network and aggregate
abbrev pub lines_of_things : ProcessMade → List (List ℕ)
lines_of_things made = made.neighbors ++ (made.networks ++ made.aggregates)

-- and before them those of the process itself
abbrev pub lines_of_each : ProcessMade → List (List ℕ)
lines_of_each made = made.own ∷ lines_of_things made

-- the lines of the process of this number: the first isn't indented, and each that isn't is a header with the number
abbrev pub IsBlockOf : ℕ → List Numbered → Type 0
IsBlockOf asn [] = ⊥
IsBlockOf asn (l ∷ block) = (is_indented l.text ≡ false) × All (λ l. is_indented l.text ≡ false → header_says (words_of l.text) ≡ Says asn) (l ∷ block)

-- beside each neighbor, network and aggregate stand its lines
pub record HaveLinesBeside (made : ProcessMade) : Type 0 where
  pub neighbors : length made.neighbors ≡ length made.process.neighbors
  pub networks : length made.networks ≡ length made.process.networks
  pub aggregates : length made.aggregates ≡ length made.process.aggregates

-- each of these has a line
abbrev pub HaveLines : List (List ℕ) → Type 0
HaveLines each = All (λ lines. 0 < length lines) each

-- their lines are among these
abbrev pub AreWithin : List ℕ → List (List ℕ) → Type 0
AreWithin ks each = All (λ lines. All (λ line. Contains ks line) lines) each

-- the lines of each ascend
abbrev pub Ascend : List (List ℕ) → Type 0
Ascend each = All (λ lines. IsStrictlyIncreasing lines) each

-- no line is of two
abbrev pub AreApart : List (List ℕ) → Type 0
AreApart each = AllPairs (λ p q. (line : ℕ) → Contains p line → Contains q line → ⊥) each

-- ---- faults

-- the faulty lines
abbrev pub faults_in : List Numbered → List Fault
faults_in block = filter_map (λ l. option_map (λ cause. record { line = l.line; cause = cause }) (fault_of (line_says l))) block

-- the neighbors that lack the number of their autonomous system, each told at its first line
abbrev pub lacks_in : List Numbered → List Fault
lacks_in block = filter_map (λ e. lack_of e.1) (fields_in (statements_in line_says block)).neighbors

-- the lowest of all these, or the process
abbrev pub lowest_or_process : List Numbered → Result ProcessMade Fault
lowest_or_process block =
    option_map_or Err (lowest (faults_in block ++ lacks_in block)) (Ok (process_of (fields_in (statements_in line_says block))))
