-- What comes of files by their names: the network that they configure, with the state in which it settles, or the first reason
-- why there is none.
-- How many files there are is judged first; then each file in its turn: that it is there, its length, the number of its lines,
-- its configuration; then all configurations together; and last whether the routing settles.
use Rattle.std.specs.Prelude.{ℕ, nat_le, List, [], ◌∷◌, length, map, slice_index_or, Option, Some, None, unwrap_or, Result, Ok, Err, if◌then◌else◌}
use Rattle.std.specs.Option.{option_map_or}
use Rattle.nc_types.specs.Config.{ConfigView}
use Rattle.nc_types.specs.Joining.{Clash}
use Rattle.nc_types.specs.declared.fault.Fault.{Fault}
use Rattle.nc_types.specs.declared.fault.Cause.{Cause}
use Rattle.nc_types.specs.declared.fault.Cause.TheVariants as causes
use Rattle.nc_outside.specs.Named.{Named, content_of}
use Rattle.nc_lines.specs.Lines.{lines_of}
use Rattle.nc_reader.specs.Configuration.{configuration}
use Rattle.nc_network.specs.Judged.{ClashKind, Names, Overlaps, Addresses, References, Judgement, Clashing, OverLimit, Fine, judged}
use Rattle.nc_network.specs.declared.fault.LimitWord.{LimitWord}
use Rattle.nc_network.specs.declared.fault.LimitWord.TheVariants as words
use Rattle.nc_tables.specs.State.{StateView}
use Rattle.nc_tables.specs.Settling.{settled}
use Rattle.nc_load.specs.Limits.{most_file_bytes, most_lines, most_routers}
use Rattle.nc_load.specs.declared.refusal.Quantity.{Quantity}
use Rattle.nc_load.specs.declared.refusal.Quantity.TheVariants.{Routers, Bytes, Lines, Prefixes, Neighbors}
use Rattle.nc_load.specs.declared.refusal.Reason.{Reason}
use Rattle.nc_load.specs.declared.refusal.Reason.TheVariants.{Syntax, Unsupported, NoName, TwoProcesses, SameName, Overlap, SameAddress, Undefined}
use Rattle.nc_report.specs.Views.{FileView}

-- why the words and the files give no network
pub data Refusal : Type 0 where
  -- the words ask for nothing that is known
  WrongWords : Refusal
  -- a quantity is greater than its limit
  TooMany : Quantity → Refusal
  -- no file has the name
  Missing : Refusal
  -- what is wrong with a line of the file of this name, or with line 0 where it is the whole file
  Faulty : List ℕ → ℕ → Reason → Refusal
  -- the routing doesn't settle within so many rounds
  Unsettled : ℕ → Refusal

-- ---- one file

-- the cause of a fault of one file
abbrev pub reason_of : Cause → Reason
reason_of causes.Syntax = Syntax
reason_of causes.Unsupported = Unsupported
reason_of causes.NoName = NoName
reason_of causes.TwoProcesses = TwoProcesses

abbrev pub load_result : List ℕ → Result ConfigView Fault → Result ConfigView Refusal
load_result name (Ok c) = Ok c
load_result name (Err fault) = Err (Faulty name fault.line (reason_of fault.cause))

-- what comes of the lines of a file: too many, or its configuration
abbrev pub load_lines : List ℕ → List (List ℕ) → Result ConfigView Refusal
load_lines name lines = if nat_le (length lines) most_lines then load_result name (configuration lines) else Err (TooMany Lines)

-- what comes of a file: that it isn't there, its length, its lines
abbrev pub load_content : List ℕ → Option (List ℕ) → Result ConfigView Refusal
load_content name None = Err Missing
load_content name (Some content) = if nat_le (length content) most_file_bytes then load_lines name (lines_of content) else Err (TooMany Bytes)

-- the file of a name as it is kept: its name and its lines
abbrev pub file_of : List Named → List ℕ → FileView
file_of files name = record { name = name; lines = lines_of (unwrap_or (content_of files name) []) }

-- ---- files one after another

-- what comes of files in order: the first refusal, or all their configurations
abbrev pub before_all : ConfigView → Result (List ConfigView) Refusal → Result (List ConfigView) Refusal
before_all c (Ok cs) = Ok (c ∷ cs)
before_all c (Err refusal) = Err refusal

abbrev pub and_then : Result ConfigView Refusal → Result (List ConfigView) Refusal → Result (List ConfigView) Refusal
and_then (Ok c) further = before_all c further
and_then (Err refusal) further = Err refusal

abbrev pub load_each : List Named → List (List ℕ) → Result (List ConfigView) Refusal
load_each files [] = Ok []
load_each files (name ∷ names) = and_then (load_content name (content_of files name)) (load_each files names)

-- ---- files together

-- the name of a router's file
abbrev pub file_named : List (List ℕ) → ℕ → List ℕ
file_named names router = slice_index_or names router []

-- what is wrong with configurations together is told of the second of two lines that clash, and of a reference's own line
abbrev pub clash_refusal : List (List ℕ) → ClashKind → Clash → Refusal
clash_refusal names Names c = Faulty (file_named names c.second) c.second_line SameName
clash_refusal names Overlaps c = Faulty (file_named names c.first) c.second_line Overlap
clash_refusal names Addresses c = Faulty (file_named names c.second) c.second_line SameAddress
clash_refusal names References c = Faulty (file_named names c.first) c.first_line Undefined

abbrev pub quantity_of : LimitWord → Quantity
quantity_of words.Prefixes = Prefixes
quantity_of words.Neighbours = Neighbors

abbrev pub load_judged : List (List ℕ) → List ConfigView → Judgement → Result (List ConfigView) Refusal
load_judged names routers (Clashing kind c) = Err (clash_refusal names kind c)
load_judged names routers (OverLimit which) = Err (TooMany (quantity_of which))
load_judged names routers Fine = Ok routers

abbrev pub load_joined : List (List ℕ) → Result (List ConfigView) Refusal → Result (List ConfigView) Refusal
load_joined names (Ok routers) = load_judged names routers (judged routers)
load_joined names (Err refusal) = Err refusal

-- what comes of files by their names: too many of them, then file by file, then all together
unfoldable pub load_names : List (List ℕ) → List Named → Result (List ConfigView) Refusal
load_names names files =
    if nat_le (length names) most_routers then load_joined names (load_each files names) else Err (TooMany Routers)

-- ---- their state

-- the state in which the routing settles within so many rounds, if it does
abbrev pub load_settled : ℕ → Result (List ConfigView) Refusal → Result StateView Refusal
load_settled rounds (Ok routers) = option_map_or Ok (settled rounds routers) (Err (Unsettled rounds))
load_settled rounds (Err refusal) = Err refusal
