-- What the steps of loading return, and why they fail.
use Rattle.std.specs.Prelude.{◌≡◌, ◌⊎◌, ℕ, ◌≤◌, List, [], ◌∷◌, ◌++◌, length, map, Option, Some, None, IfSome, Result, Ok, Err}
use Rattle.nc_types.specs.Config.{ConfigView, config_view}
use Rattle.nc_types.specs.WellFormed.{IsWellFormed}
use Rattle.nc_outside.specs.Named.{Named}
use Rattle.nc_outside.specs.Counts.{Faults, Rose, Follows}
use Rattle.nc_network.specs.Judged.{judged}
use Rattle.nc_network.specs.declared.fault.JoinFault.{JoinFault}
use Rattle.nc_network.specs.declared.fault.JoinFault.TheVariants as joins
use Rattle.nc_tables.specs.State.{StateView}
use Rattle.nc_stable.specs.declared.settled_network.SettledNetwork.{SettledNetwork}
use Rattle.nc_load.specs.Limits.{most_lines}
use Rattle.nc_load.specs.declared.reading.Stop.{Stop}
use Rattle.nc_load.specs.declared.reading.Stop.TheVariants as stop
use Rattle.nc_load.specs.declared.loading.FileRead.{FileRead}
use Rattle.nc_load.specs.declared.loading.FilesRead.{FilesRead}
use Rattle.nc_load.specs.declared.loading.Loaded.{Loaded}
use Rattle.nc_load.specs.declared.refusal.LoadFault.{LoadFault}
use Rattle.nc_load.specs.declared.refusal.LoadFault.TheVariants.{Outside, Over, Bad, Memory}
use Rattle.nc_load.specs.declared.refusal.LoadFault.TheVariants as faults
use Rattle.nc_load.specs.declared.refusal.Reason.TheVariants.{SameName, Overlap, SameAddress, Undefined}
use Rattle.nc_report.specs.Views.{FileView}
use Rattle.nc_load.specs.Load.{Refusal, TooMany, Missing, Faulty, Unsettled, quantity_of, load_judged, load_settled, file_named, file_of}

abbrev pub load_stop : Stop → LoadFault
load_stop stop.Outside = Outside
load_stop stop.Memory = Memory

-- a fault that was returned is the outcome, unless the outside failed or memory ran out
abbrev pub IsFault : {T : Type 0} → List (List ℕ) → LoadFault → Result T Refusal → Type 0
IsFault names Outside outcome = Unit {0}
IsFault names Memory outcome = Unit {0}
IsFault names (Over quantity) outcome = outcome ≡ Err (TooMany quantity)
IsFault names (Bad file line reason) outcome = outcome ≡ Err (Faulty (file_named names file) line reason)
IsFault names (faults.Unsettled rounds) outcome = outcome ≡ Err (Unsettled rounds)

-- the files are told, and the outcome is that one isn't there
abbrev pub IsMissingOf : {T : Type 0} → Option (List Named) → (List Named → Result T Refusal) → Type 0
IsMissingOf None outcome = ⊥
IsMissingOf (Some files) outcome = outcome files ≡ Err Missing

-- loading stops for the outside where the count of faults rose, or where the files are told and one isn't there; else it leaves
-- the count
abbrev pub HasFaultCause : {T : Type 0} → Option (List Named) → (List Named → Result T Refusal) → Faults → Faults → LoadFault → Type 0
HasFaultCause files outcome before now Outside = Rose before now ⊎ (IsMissingOf files outcome × Follows before now)
HasFaultCause files outcome before now fault = now ≡ before

-- the cause of what was returned
abbrev pub HasCauseOf : {T E : Type 0} → Option (List Named) → (List Named → Result E Refusal) → Faults → Faults → Result T LoadFault → Type 0
HasCauseOf files outcome before now (Ok x) = now ≡ before
HasCauseOf files outcome before now (Err fault) = HasFaultCause files outcome before now fault

-- ---- one file

-- a configuration of a file: it is well formed, and its lines are counted
pub record IsConfigured (c : ConfigView) : Type 0 where
  pub formed : IsWellFormed c
  pub lines : c.line_count ≤ most_lines

-- a file is the one of this name, with its own lines where the files are told
pub record IsFileOf (files : Option (List Named)) (name : List ℕ) (file : FileView) : Type 0 where
  pub named : file.name ≡ name
  pub whole : IfSome files (λ fs. file ≡ file_of fs name)

-- what was returned is the outcome of one file
abbrev pub IsOne : List (List ℕ) → Result FileRead LoadFault → Result ConfigView Refusal → Type 0
IsOne names (Ok one) outcome = outcome ≡ Ok (config_view one.config)
IsOne names (Err fault) outcome = IsFault names fault outcome

-- ---- files one after another

-- files with their configurations: each file has as many lines as its configuration counts
abbrev pub AreBeside : List FileView → List ConfigView → Type 0
AreBeside files configs = map (λ f. length f.lines) files ≡ map (λ c. c.line_count) configs

-- files are those of these names, in order, each with its own lines where the files are told
pub record AreFilesNamed (told : Option (List Named)) (names : List (List ℕ)) (files : List FileView) : Type 0 where
  pub named : map (λ f. f.name) files ≡ names
  pub whole : IfSome told (λ fs. files ≡ map (file_of fs) names)

-- the outcome of one file stands behind those of the files before
abbrev pub AddsOne : List (List ℕ) → Result Unit LoadFault → FilesRead → FilesRead → Result ConfigView Refusal → Type 0
AddsOne names (Ok done) old new outcome =
    (c : ConfigView) × (outcome ≡ Ok c) × (map config_view new.configs.items ≡ map config_view old.configs.items ++ c ∷ [])
AddsOne names (Err fault) old new outcome = IsFault names fault outcome

-- one file stands behind the files before
pub record AddsFile (told : Option (List Named)) (name : List ℕ) (old new : List FileView) : Type 0 where
  pub file : FileView
  pub is : IsFileOf told name file
  pub added : new ≡ old ++ file ∷ []

-- what was returned is the outcome of all files, each by itself
abbrev pub IsEach : List (List ℕ) → Result FilesRead LoadFault → Result (List ConfigView) Refusal → Type 0
IsEach names (Ok each) outcome = outcome ≡ Ok (map config_view each.configs.items)
IsEach names (Err fault) outcome = IsFault names fault outcome

-- ---- files together

-- the fault that is told of configurations that don't go together
abbrev pub joining_fault : JoinFault → LoadFault
joining_fault (joins.SameName first second line) = Bad second.0 line SameName
joining_fault (joins.Overlap router first second) = Bad router.0 second Overlap
joining_fault (joins.SameAddress first first_line second second_line) = Bad second.0 second_line SameAddress
joining_fault (joins.Undefined router line) = Bad router.0 line Undefined
joining_fault (joins.Limit which) = Over (quantity_of which)
joining_fault joins.Memory = Memory

-- what was returned is the outcome of configurations together: the state in which their network settles within so many rounds
abbrev pub IsJoined : List (List ℕ) → ℕ → Result SettledNetwork LoadFault → List ConfigView → Type 0
IsJoined names rounds (Ok settled) routers =
    (load_settled rounds (load_judged names routers (judged routers)) ≡ Ok settled.state) × (settled.state.routers ≡ routers)
IsJoined names rounds (Err fault) routers = IsFault names fault (load_settled rounds (load_judged names routers (judged routers)))

-- what was returned is the outcome of all files together: the state of their network
abbrev pub IsLoad : List (List ℕ) → Result Loaded LoadFault → Result StateView Refusal → Type 0
IsLoad names (Ok loaded) outcome = outcome ≡ Ok loaded.settled.state
IsLoad names (Err fault) outcome = IsFault names fault outcome
