-- How the steps of a run end: what is seen of the three objects before and now, by the status.
use Rattle.std.specs.Prelude.{◌≡◌, ◌⊎◌, ℕ, ◌≤◌, true, List, [], length, Option, None, Some, IfSome}
use Rattle.std.specs.Io.KnownBytes.{Appends, Keeps}
use Rattle.nc_outside.specs.Named.{Named}
use Rattle.nc_outside.specs.Counts.{Faults, Rose}
use Rattle.nc_load.specs.Limits.{most_routers}
use Rattle.nc_load.specs.declared.refusal.LoadFault.{LoadFault}
use Rattle.nc_load.specs.declared.refusal.LoadFault.TheVariants as load
use Rattle.nc_session.specs.declared.status.Status.{Status}
use Rattle.nc_session.specs.declared.status.Status.TheVariants.{Done, Config, Usage, Unstable, InputFault, OutputFault, FileFault, Memory, Limit}
use Rattle.nc_words.specs.Words.{RequestView}
use Rattle.nc_engine.specs.File.{LoadedView}
use Rattle.nc_session.specs.Load.{load_asked}
use Rattle.nc_load.specs.Load.{file_named}
use Rattle.nc_session.specs.Refusals.{usage_text, limit_text, fault_text, unsettled_text}
use Rattle.nc_session.specs.Output.{OutputAsked, Writes, is_within, session_asked, needed_asked, TookAsked}
use Rattle.nc_session.specs.Causes.{Settles, IsAbsentAsked, IsOverLimit, IsUnsettled, IsOpenSession, AnswersTaken, IsBegunAsked, named_in}
use Rattle.nc_session.specs.Serving.{AppendsFront}
use Rattle.nc_session.specs.Leaving.{Takes, Told, told, Failures, failures, Begins, Leaves, FailsAs}

-- what is seen of a sink: the bytes that it tells, and its faults
pub record SinkSeen : Type 0 where
  pub written : Option (List ℕ)
  pub faults : Faults

-- a text was written and the status told, or the sink failed behind a front of the text
abbrev pub Says : Status → List ℕ → SinkSeen → SinkSeen → Status → Type 0
Says status text before now result =
    ((result ≡ status) × (now.faults ≡ before.faults) × Appends before.written now.written text)
    ⊎ ((result ≡ OutputFault) × Rose before.faults now.faults × AppendsFront before.written now.written text)

-- nothing was written, and the sink didn't fail
abbrev pub Silent : Status → SinkSeen → SinkSeen → Status → Type 0
Silent status before now result =
    (result ≡ status) × (now.faults ≡ before.faults) × Keeps before.written now.written

-- how a run ends where the files give no network; a text is made first, for which there may be no memory
abbrev pub EndsRefused : List (List ℕ) → LoadFault → SinkSeen → SinkSeen → Status → Type 0
EndsRefused names load.Outside before now result = Silent FileFault before now result
EndsRefused names load.Memory before now result = Silent Memory before now result
EndsRefused names (load.Over quantity) before now result =
    Says Limit (limit_text quantity) before now result ⊎ Silent Memory before now result
EndsRefused names (load.Bad file line reason) before now result =
    Says Config (fault_text (file_named names file) line reason) before now result ⊎ Silent Memory before now result
EndsRefused names (load.Unsettled rounds) before now result =
    Says Unstable (unsettled_text rounds) before now result ⊎ Silent Memory before now result

-- what is seen of the three objects: the files and their faults, and what the source and the sink tell, and their faults
pub record Seen : Type 0 where
  pub files : Option (List Named)
  pub faults : Faults
  pub told : Told
  pub failures : Failures

-- nothing failed
pub record NoFault (before now : Seen) : Type 0 where
  pub files : now.faults ≡ before.faults
  pub source : now.failures.source ≡ before.failures.source
  pub sink : now.failures.sink ≡ before.failures.sink

-- the network of a request was asked for, and no more files than a network may have routers
abbrev pub IsNaming : Option RequestView → Type 0
IsNaming asked = (request : RequestView) × (asked ≡ Some request)

abbrev pub IsNamingFew : Option RequestView → Type 0
IsNamingFew asked =
    (request : RequestView) × (asked ≡ Some request) × (length (named_in request.input) ≤ most_routers)

-- ---- by what was asked for

module _ (asked : Option RequestView) (before now : Seen) where
  -- P holds of the files, or of the files and the session, where they are told
  abbrev pub IfFiles : (List Named → Type 0) → Type 0
  IfFiles P = IfSome (needed_asked asked before.files) P

  abbrev pub IfSession : (List ℕ → Type 0) → Type 0
  IfSession P = IfSome (needed_asked asked before.told.rest) P

  -- the status is that of the load, and the bytes are the output, where they are told
  abbrev pub IsTold : Status → Type 0
  IsTold status =
      IfFiles (λ files. Settles (load_asked asked files) status
      × IfSession (λ session. Writes before.told.written now.told.written (OutputAsked asked files session status)))

  -- the status is Limit for its cause, where the objects tell their bytes
  abbrev pub IsLimited : Type 0
  IsLimited = IfFiles (λ files. IfSession (λ session. IsOverLimit (load_asked asked files) (session_asked asked session)))

  -- the session was within its limit, where the source tells, and was taken to its end
  pub record IsTakenWhole : Type 0 where
    pub within : IfSession (λ session. is_within (session_asked asked session) ≡ true)
    pub taken : TookAsked asked before.told.rest now.told.rest

  -- the source failed: the lines before are answered, where the bytes are told
  pub record IsCutOff : Type 0 where
    pub taken : Takes before.told.rest now.told.rest IsOpenSession
    pub settles : IfFiles (λ files. Settles (load_asked asked files) InputFault)
    pub answers : IfFiles (λ files. AnswersTaken (load_asked asked files) before.told.rest now.told.rest before.told.written now.told.written)

  -- what was written is a beginning of what would have been, where it is told
  abbrev pub IsBrokenOff : Type 0
  IsBrokenOff = IfFiles (λ files. IfSession (λ session. Writes before.told.written now.told.written (IsBegunAsked asked files session)))

  -- how a run ends, by its status
  abbrev pub EndsAs : Status → Type 0
  EndsAs Done = NoFault before now × IsTold Done × IsNamingFew asked × IsTakenWhole
  EndsAs Config = NoFault before now × IsTold Config × IsNamingFew asked
  EndsAs Unstable =
      NoFault before now × IsTold Unstable × IsNamingFew asked × IfFiles (λ files. IsUnsettled (load_asked asked files))
  EndsAs Limit = NoFault before now × IsTold Limit × IsNaming asked × IsLimited
  EndsAs Usage =
      NoFault before now × IsTold Usage × (asked ≡ None) × Appends before.told.written now.told.written usage_text
  EndsAs InputFault =
      (now.faults ≡ before.faults) × Rose before.failures.source now.failures.source
      × (now.failures.sink ≡ before.failures.sink) × IsNamingFew asked × IsCutOff
  EndsAs OutputFault =
      (now.faults ≡ before.faults) × (now.failures.source ≡ before.failures.source)
      × Rose before.failures.sink now.failures.sink × IsBrokenOff
  EndsAs FileFault =
      (Rose before.faults now.faults ⊎ IsAbsentAsked asked before.files) × (now.failures.source ≡ before.failures.source)
      × (now.failures.sink ≡ before.failures.sink) × IsNamingFew asked × Keeps before.told.written now.told.written
  EndsAs Memory = NoFault before now × IsBrokenOff

-- ---- a session of a generated network

-- a session was answered behind a heading, from a source of its own
pub record IsServedBehind (heading : List ℕ) (n : LoadedView) (session : List ℕ) (before now : SinkSeen) (result : Status) : Type 0 where
  pub middle : Option (List ℕ)
  pub headed : Appends before.written middle heading
  pub left : Option (List ℕ)
  pub leaves : Leaves n (told (Some session) middle) (told left now.written) result
  pub source : Faults
  pub steady : source.is_steady ≡ true
  pub fails : FailsAs (failures source before.faults) (failures source now.faults) result

-- a heading was written and then the replies to a session, of which there are some; memory may run out before, or the sink
-- fail within it
abbrev pub ServesBehind : List ℕ → LoadedView → List ℕ → SinkSeen → SinkSeen → Status → Type 0
ServesBehind heading n session before now result =
    Silent Memory before now result
    ⊎ (((result ≡ OutputFault) × Rose before.faults now.faults × AppendsFront before.written now.written heading × Begins n session [])
    ⊎ IsServedBehind heading n session before now result)
