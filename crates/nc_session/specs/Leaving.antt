-- What a session leaves of the source and of the sink, by the status with which it ends.
use Rattle.std.specs.Prelude.{◌≡◌, ◌⊎◌, ℕ, ◌≤◌, true, false, List, ◌++◌, length, Option, Some, None, IfSome}
use Rattle.std.specs.Io.KnownBytes.{IsAtEnd}
use Rattle.nc_outside.specs.Counts.{Faults, Rose}
use Rattle.nc_lines.specs.WholeLines.{whole_lines_of}
use Rattle.nc_engine.specs.File.{LoadedView}
use Rattle.nc_session.specs.Limits.{most_session_bytes}
use Rattle.nc_load.specs.declared.reading.Stop.{Stop}
use Rattle.nc_load.specs.declared.reading.Stop.TheVariants as stop
use Rattle.nc_session.specs.declared.status.Status.{Status}
use Rattle.nc_session.specs.declared.status.Status.TheVariants.{Done, InputFault, OutputFault, Memory, Limit}
use Rattle.nc_engine.specs.Session.{AreReplies}
use Rattle.nc_session.specs.Output.{Writes, Serves, has_quit, is_within, TookQuit}

-- the status with which a session ends whose replies ended early
abbrev pub stopped_as : Stop → Status
stopped_as stop.Outside = OutputFault
stopped_as stop.Memory = Memory

-- what a source and a sink tell of their bytes: those that weren't read yet, and those that were taken so far
pub record Told : Type 0 where
  pub rest : Option (List ℕ)
  pub written : Option (List ℕ)

abbrev pub told : Option (List ℕ) → Option (List ℕ) → Told
told rest written = record { rest = rest; written = written }

-- how often a source and a sink failed
pub record Failures : Type 0 where
  pub source : Faults
  pub sink : Faults

abbrev pub failures : Faults → Faults → Failures
failures source sink = record { source = source; sink = sink }

-- bytes of which P holds were taken off the front, where they are told
abbrev pub Takes : Option (List ℕ) → Option (List ℕ) → (List ℕ → Type 0) → Type 0
Takes None now P = Unit {0}
Takes (Some before) None P = ⊥
Takes (Some before) (Some now) P = (taken : List ℕ) × (before ≡ taken ++ now) × P taken

-- the source failed behind bytes that stay within the limit and have no line that ends the session: their whole lines were replied
pub record IsCutShort (n : LoadedView) (old new : Option (List ℕ)) (taken : List ℕ) : Type 0 where
  pub few : length taken ≤ most_session_bytes
  pub goes : has_quit (whole_lines_of taken) ≡ false
  pub replied : Writes old new (λ bytes. AreReplies n (whole_lines_of taken) bytes)

-- the bytes are a beginning of what the session is answered
abbrev pub Begins : LoadedView → List ℕ → List ℕ → Type 0
Begins n session bytes = (status : Status) × (more : List ℕ) × Serves n session status (bytes ++ more)

-- what was written is a beginning of what the session is answered, where the objects tell it
abbrev pub IsBegun : LoadedView → Told → Told → Type 0
IsBegun n before now = IfSome before.rest (λ session. Writes before.written now.written (λ bytes. Begins n session bytes))

-- what is left by each status
abbrev pub Leaves : LoadedView → Told → Told → Status → Type 0
Leaves n before now Done =
    IfSome before.rest (λ session. (is_within session ≡ true) × Writes before.written now.written (λ bytes. Serves n session Done bytes))
    × (IsAtEnd now.rest ⊎ TookQuit before.rest now.rest)
Leaves n before now Limit =
    IfSome before.rest (λ session. (is_within session ≡ false) × Writes before.written now.written (λ bytes. Serves n session Limit bytes))
Leaves n before now InputFault = Takes before.rest now.rest (IsCutShort n before.written now.written)
Leaves n before now OutputFault = IsBegun n before now
Leaves n before now Memory = IsBegun n before now
Leaves n before now status = ⊥

-- whose count rose, by each status: that of the source or of the sink where it failed, else none
abbrev pub FailsAs : Failures → Failures → Status → Type 0
FailsAs before now InputFault = Rose before.source now.source × (now.sink ≡ before.sink)
FailsAs before now OutputFault = (now.source ≡ before.source) × Rose before.sink now.sink
FailsAs before now status = (now.source ≡ before.source) × (now.sink ≡ before.sink)
