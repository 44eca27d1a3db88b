-- With which status a run ends and for what cause, and what it leaves of the source and the sink.
use Rattle.std.specs.Prelude.{◌≡◌, ◌⊎◌, ℕ, ◌≤◌, false, List, [], ◌++◌, length, Option, None, Some, Result, Ok, Err, IsOkAnd, if◌then◌else◌}
use Rattle.nc_outside.specs.Named.{Named}
use Rattle.nc_lines.specs.WholeLines.{whole_lines_of}
use Rattle.nc_engine.specs.File.{LoadedView}
use Rattle.nc_session.specs.Limits.{most_session_bytes}
use Rattle.nc_session.specs.declared.status.Status.{Status}
use Rattle.nc_session.specs.declared.status.Status.TheVariants.{Done, Config, Usage, Unstable, InputFault, OutputFault, FileFault, Memory, Limit}
use Rattle.nc_words.specs.Words.{InputView, Files, Generated, RequestView, request_of}
use Rattle.nc_load.specs.Load.{Refusal, TooMany, Missing, Unsettled}
use Rattle.nc_session.specs.Load.{load_asked}
use Rattle.nc_session.specs.Refusals.{refusal_status}
use Rattle.nc_session.specs.Output.{OutputAsked, has_quit, is_within}
use Rattle.nc_session.specs.Leaving.{Takes, IsCutShort}

-- ---- kinds of statuses

-- a status that comes with its bytes
abbrev pub IsAnswer : Status → Type 0
IsAnswer Done = Unit {0}
IsAnswer Config = Unit {0}
IsAnswer Usage = Unit {0}
IsAnswer Unstable = Unit {0}
IsAnswer Limit = Unit {0}
IsAnswer status = ⊥

-- a status with which words that ask for nothing may end: their own, or that they weren't read or the refusal not written
abbrev pub IsUsageOrUntold : Status → Type 0
IsUsageOrUntold Usage = Unit {0}
IsUsageOrUntold OutputFault = Unit {0}
IsUsageOrUntold Memory = Unit {0}
IsUsageOrUntold status = ⊥

-- a status with which too many files may end: that a limit is passed, or that the refusal wasn't made or written
abbrev pub IsLimitOrUntold : Status → Type 0
IsLimitOrUntold Limit = Unit {0}
IsLimitOrUntold OutputFault = Unit {0}
IsLimitOrUntold Memory = Unit {0}
IsLimitOrUntold status = ⊥

-- a status which says what came of the files
abbrev pub IsOfFiles : Status → Type 0
IsOfFiles InputFault = Unit {0}
IsOfFiles status = IsAnswer status

-- a status that comes before the session is read
abbrev pub IsEarly : Status → Type 0
IsEarly Config = Unit {0}
IsEarly Usage = Unit {0}
IsEarly Unstable = Unit {0}
IsEarly FileFault = Unit {0}
IsEarly status = ⊥

-- a status that comes once the session is read
abbrev pub IsLate : Status → Type 0
IsLate Done = Unit {0}
IsLate InputFault = Unit {0}
IsLate status = ⊥

-- a status with which a reply, or a refusal, may stand half written
abbrev pub IsCut : Status → Type 0
IsCut OutputFault = Unit {0}
IsCut Memory = Unit {0}
IsCut status = ⊥

-- ---- causes

-- the files that the words name: none where they ask for a generated network, or for nothing that is known
abbrev pub named_in : InputView → List (List ℕ)
named_in (Files names) = names
named_in (Generated pods) = []

abbrev pub named_asked : Option RequestView → List (List ℕ)
named_asked None = []
named_asked (Some request) = named_in request.input

abbrev pub files_of : List (List ℕ) → List (List ℕ)
files_of words = named_asked (request_of words)

-- the words ask for a generated network
abbrev pub IsGeneratedIn : InputView → Type 0
IsGeneratedIn (Files names) = ⊥
IsGeneratedIn (Generated pods) = Unit {0}

abbrev pub IsGeneratedAsked : Option RequestView → Type 0
IsGeneratedAsked None = ⊥
IsGeneratedAsked (Some request) = IsGeneratedIn request.input

abbrev pub IsGenerated : List (List ℕ) → Type 0
IsGenerated words = IsGeneratedAsked (request_of words)

-- the status with which a run ends where nothing fails
abbrev pub status_of : Result LoadedView Refusal → List ℕ → Status
status_of (Ok loaded) session = if is_within session then Done else Limit
status_of (Err refusal) session = refusal_status refusal

-- the statuses that come of a load where nothing failed but the source
abbrev pub Settles : Result LoadedView Refusal → Status → Type 0
Settles (Ok loaded) status = (status ≡ Done) ⊎ ((status ≡ Limit) ⊎ (status ≡ InputFault))
Settles (Err refusal) status = status ≡ refusal_status refusal

-- a limit is passed: by the files or what they configure, or by the session
abbrev pub IsOverLimit : Result LoadedView Refusal → List ℕ → Type 0
IsOverLimit (Ok loaded) session = is_within session ≡ false
IsOverLimit (Err (TooMany quantity)) session = Unit {0}
IsOverLimit (Err refusal) session = ⊥

-- the routing of the files doesn't settle
abbrev pub IsUnsettled : Result LoadedView Refusal → Type 0
IsUnsettled (Err (Unsettled rounds)) = Unit {0}
IsUnsettled loaded = ⊥

-- the files are told, and the first refusal is of one that isn't there
abbrev pub IsAbsentAsked : Option RequestView → Option (List Named) → Type 0
IsAbsentAsked asked None = ⊥
IsAbsentAsked asked (Some files) = load_asked asked files ≡ Err Missing

abbrev pub IsAbsent : List (List ℕ) → Option (List Named) → Type 0
IsAbsent words files = IsAbsentAsked (request_of words) files

-- ---- what is left of the source and the sink

-- what was taken of a session before its source failed: no more than its limit, and no line that ends it
pub record IsOpenSession (taken : List ℕ) : Type 0 where
  pub few : length taken ≤ most_session_bytes
  pub goes : has_quit (whole_lines_of taken) ≡ false

-- the source failed behind bytes of a session: the whole lines among them were replied over the state that was loaded
abbrev pub AnswersTaken : Result LoadedView Refusal → Option (List ℕ) → Option (List ℕ) → Option (List ℕ) → Option (List ℕ) → Type 0
AnswersTaken loaded rest left old new = IsOkAnd loaded (λ n. Takes rest left (IsCutShort n old new))

-- the bytes are a beginning of what would have been written
abbrev pub IsBegunAsked : Option RequestView → List Named → List ℕ → List ℕ → Type 0
IsBegunAsked asked files session bytes =
    (bytes ≡ []) ⊎ ((status : Status) × (more : List ℕ) × OutputAsked asked files session status (bytes ++ more))

abbrev pub IsBeginning : List (List ℕ) → List Named → List ℕ → List ℕ → Type 0
IsBeginning words files session bytes = IsBegunAsked (request_of words) files session bytes
