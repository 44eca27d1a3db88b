-- How a run ends, from what its last step answered.
use Rattle.std.proofs.Common.{◌≡◌, ◌≢◌, ◌⊎◌, ℕ, ◌≤◌, true, false, length, List, Option, None, Some, Result, Ok, Err, IfSome, refl, sym, ap, ◌∙◌, subst, inl, inr, append_assoc, [], ◌++◌}
use Rattle.std.proofs.KnownBytes.{Appends-nil}
use Rattle.std.specs.Prelude.{IfOk, MatchResult}
use Rattle.std.specs.Io.KnownBytes.{Appends, Keeps, IsAtEnd}
use Rattle.nc_outside.specs.Named.{Named}
use Rattle.nc_outside.specs.Counts.{Rose, Follows}
use Rattle.nc_engine.specs.File.{LoadedView}
use Rattle.nc_load.specs.Limits.{most_routers}
use Rattle.nc_load.specs.declared.refusal.LoadFault.{LoadFault}
use Rattle.nc_load.specs.declared.refusal.LoadFault.TheVariants as load
use Rattle.nc_load.specs.declared.refusal.Quantity.TheVariants.{Routers}
use Rattle.nc_session.specs.declared.status.Status.{Status}
use Rattle.nc_session.specs.declared.status.Status.TheVariants.{Done, Config, Usage, Unstable, InputFault, OutputFault, FileFault, Memory, Limit}
use Rattle.nc_words.specs.Words.{Files, RequestView}
use Rattle.nc_load.specs.Load.{Refusal, WrongWords, TooMany, Faulty, Unsettled, file_named}
use Rattle.nc_session.specs.Load.{load_asked, load_over, load_request, names_in}
use Rattle.nc_session.specs.Refusals.{usage_text, refusal_status, refusal_text}
use Rattle.nc_session.specs.Output.{Concludes, Writes, Serves, is_within, session_asked, session_in, heading_asked, heading_in, needed_asked, needed_in, TookQuit, TookIn}
use Rattle.nc_session.specs.Serving.{AppendsFront}
use Rattle.nc_session.specs.Leaving.{Takes, IsCutShort, Begins, Leaves, FailsAs, Told, told}
use Rattle.nc_session.specs.Causes.{IsEarly, IsLate, IsAbsentAsked, Settles, IsOverLimit, IsUnsettled, IsOpenSession, AnswersTaken, named_in}
use Rattle.nc_load.specs.Loading.{IsFault, IsMissingOf, HasFaultCause}
use Rattle.nc_session.specs.Ending.{SinkSeen, Says, Silent, EndsRefused, Seen, NoFault, IsTold, IsLimited, IsBrokenOff, EndsAs}
use Rattle.nc_load.proofs.Options.{some_of, some_more}
use Rattle.nc_session.proofs.Options.{writes, writes_none, writes_behind}

abbrev Outcome : Type 0
Outcome = Result LoadedView Refusal

abbrev sink_of : Seen → SinkSeen
sink_of seen = record { written = seen.told.written; faults = seen.failures.sink }

module _ (asked : Option RequestView) (before now : Seen) where
  -- of files that are told, what their load gives was loaded
  abbrev IsLoadOf : Outcome → Type 0
  IsLoadOf loaded = IfSome (needed_asked asked before.files) (λ fs. load_asked asked fs ≡ loaded)

  -- what holds of what was loaded holds of the load
  by_load : (loaded : Outcome) (P : Outcome → Type 0) → IsLoadOf loaded → P loaded → IfSome (needed_asked asked before.files) (λ fs. P (load_asked asked fs))
  by_load loaded P is holds =
      some_more (needed_asked asked before.files) (λ fs. load_asked asked fs ≡ loaded) (λ fs. P (load_asked asked fs)) (λ fs same. subst P (sym same) holds) is

  -- ---- what stands written

  -- what holds of the session that is answered, where it is told
  abbrev IfAnswered : (List ℕ → Type 0) → Type 0
  IfAnswered P = IfSome (needed_asked asked before.told.rest) (λ session. P (session_asked asked session))

  -- what is written to tell an outcome
  abbrev IsSaid : Status → Outcome → Type 0
  IsSaid status loaded =
      Settles loaded status × IfAnswered (λ session. Writes before.told.written now.told.written (λ bytes. Concludes (heading_asked asked) loaded session status bytes))

  -- what stands written is a beginning of what tells an outcome
  abbrev IsBeginningOf : Outcome → List ℕ → List ℕ → Type 0
  IsBeginningOf loaded session bytes =
      (bytes ≡ []) ⊎ ((status : Status) × (more : List ℕ) × Concludes (heading_asked asked) loaded session status (bytes ++ more))

  abbrev IsBegunFor : Outcome → Type 0
  IsBegunFor loaded = IfAnswered (λ session. Writes before.told.written now.told.written (IsBeginningOf loaded session))

  -- a refusal was written, which doesn't depend on the session
  said_text : (refusal : Refusal) → Appends before.told.written now.told.written (refusal_text refusal) → IsSaid (refusal_status refusal) (Err refusal)
  said_text refusal appends = (
    refl,
    some_of (needed_asked asked before.told.rest)
        (λ session. Writes before.told.written now.told.written (λ bytes. Concludes (heading_asked asked) (Err refusal) (session_asked asked session) (refusal_status refusal) bytes))
        (λ session. writes before.told.written now.told.written (refusal_text refusal)
        (λ bytes. Concludes (heading_asked asked) (Err refusal) (session_asked asked session) (refusal_status refusal) bytes) appends (refl, refl)),
  )

  -- a front of a refusal was written
  begun_text : (refusal : Refusal) → AppendsFront before.told.written now.told.written (refusal_text refusal) → IsBegunFor (Err refusal)
  begun_text refusal front =
      some_of (needed_asked asked before.told.rest) (λ session. Writes before.told.written now.told.written (IsBeginningOf (Err refusal) (session_asked asked session)))
      (λ session. writes before.told.written now.told.written front.front (IsBeginningOf (Err refusal) (session_asked asked session)) front.written
      (inr (refusal_status refusal, front.behind, (refl, sym front.parts))))

  -- nothing was written
  begun_none : Keeps before.told.written now.told.written → IsBrokenOff asked before now
  begun_none keeps =
      some_of (needed_asked asked before.files) (λ fs. IsBegunFor (load_asked asked fs))
      (λ fs. some_of (needed_asked asked before.told.rest)
      (λ session. Writes before.told.written now.told.written (IsBeginningOf (load_asked asked fs) (session_asked asked session)))
      (λ session. writes_none before.told.written now.told.written (IsBeginningOf (load_asked asked fs) (session_asked asked session)) keeps (inl refl)))

  -- ---- the steps

  module _ (result : Status) where
    by_status : (status : Status) → result ≡ status → EndsAs asked before now status → EndsAs asked before now result
    by_status status same ends = subst (EndsAs asked before now) (sym same) ends

    -- memory ran out before anything was written
    pub memory_ends : now.faults ≡ before.faults → now.failures.source ≡ before.failures.source → Silent Memory (sink_of before) (sink_of now) result → EndsAs asked before now result
    memory_ends files source silent =
        by_status Memory silent.0 (record { files = files; source = source; sink = silent.1 }, begun_none silent.2)

    -- a refusal was said, or its sink failed
    said_ends : (refusal : Refusal) → now.faults ≡ before.faults → now.failures.source ≡ before.failures.source → IsLoadOf (Err refusal)
        → (NoFault before now → IsTold asked before now (refusal_status refusal) → Appends before.told.written now.told.written (refusal_text refusal)
        → EndsAs asked before now (refusal_status refusal))
        → Says (refusal_status refusal) (refusal_text refusal) (sink_of before) (sink_of now) result → EndsAs asked before now result
    said_ends refusal files source is ends (inl said) =
        by_status (refusal_status refusal) said.0
        (ends (record { files = files; source = source; sink = said.1 }) (by_load (Err refusal) (IsSaid (refusal_status refusal)) is (said_text refusal said.2)) said.2)
    said_ends refusal files source is ends (inr failed) =
        by_status OutputFault failed.0 (files, source, failed.1, by_load (Err refusal) IsBegunFor is (begun_text refusal failed.2))

-- nothing that is known is asked for
pub usage_ends : (before now : Seen) (result : Status) → now.faults ≡ before.faults → now.failures.source ≡ before.failures.source
    → Says Usage usage_text (sink_of before) (sink_of now) result → EndsAs None before now result
usage_ends before now result files source said =
    said_ends None before now result WrongWords files source (some_of before.files (λ fs. load_asked None fs ≡ Err WrongWords) (λ fs. refl)) (λ quiet told appends. (quiet, told, refl, appends)) said

module _ (request : RequestView) (before now : Seen) (result : Status) where
  abbrev asked : Option RequestView
  asked = Some request

  abbrev IsLoad : Outcome → Type 0
  IsLoad loaded = IfSome (needed_in request.input before.files) (λ fs. load_request request fs ≡ loaded)

  absent : (files : Option (List Named)) → IsMissingOf files (load_request request) → IsAbsentAsked asked files
  absent None missing = missing
  absent (Some fs) missing = missing

  file_cause : Rose before.faults now.faults ⊎ (IsMissingOf before.files (load_request request) × Follows before.faults now.faults) → Rose before.faults now.faults ⊎ IsAbsentAsked asked before.files
  file_cause (inl rose) = inl rose
  file_cause (inr missing) = inr (absent before.files missing.0)

  few_by : (fault : LoadFault) → (fault ≡ load.Over Routers → ⊥) → (fault ≡ load.Over Routers) ⊎ (length (named_in request.input) ≤ most_routers) → length (named_in request.input) ≤ most_routers
  few_by fault other (inl many) = absurd (other many)
  few_by fault other (inr few) = few

  -- a limit of the files is passed
  over : (loaded : Outcome) → ((session : List ℕ) → IsOverLimit loaded session) → IsLoad loaded → IsLimited asked before now
  over loaded passed is =
      by_load asked before now loaded (λ l. IfAnswered asked before now (λ session. IsOverLimit l session)) is
      (some_of (needed_in request.input before.told.rest) (λ session. IsOverLimit loaded (session_in request.input session)) (λ session. passed (session_in request.input session)))

  -- the files give no network
  pub refused_ends : (fault : LoadFault) → now.failures.source ≡ before.failures.source
      → IfSome (needed_in request.input before.files) (λ fs. IsFault (names_in request.input) fault (load_request request fs))
      → HasFaultCause before.files (load_request request) before.faults now.faults fault → (fault ≡ load.Over Routers) ⊎ (length (named_in request.input) ≤ most_routers)
      → EndsRefused (names_in request.input) fault (sink_of before) (sink_of now) result → EndsAs asked before now result
  refused_ends load.Outside source is cause few silent =
      by_status asked before now result FileFault silent.0 (file_cause cause, source, silent.1, (request, refl, few_by load.Outside (λ e. absurd cc) few), silent.2)
  refused_ends load.Memory source is cause few silent = memory_ends asked before now result cause source silent
  refused_ends (load.Over quantity) source is cause few (inl said) =
      let why : Refusal = TooMany quantity in
      said_ends asked before now result why cause source is (λ quiet told appends. (quiet, told, (request, refl), over (Err why) (λ session. tt) is)) said
  refused_ends (load.Over quantity) source is cause few (inr silent) = memory_ends asked before now result cause source silent
  refused_ends (load.Bad file line reason) source is cause few (inl said) =
      let why : Refusal = Faulty (file_named (names_in request.input) file) line reason in
      said_ends asked before now result why cause source is (λ quiet told appends. (quiet, told, (request, refl, few_by (load.Bad file line reason) (λ e. absurd cc) few))) said
  refused_ends (load.Bad file line reason) source is cause few (inr silent) = memory_ends asked before now result cause source silent
  refused_ends (load.Unsettled rounds) source is cause few (inl said) =
      let why : Refusal = Unsettled rounds in
      said_ends asked before now result why cause source is
      (λ quiet told appends. (quiet, told, (request, refl, few_by (load.Unsettled rounds) (λ e. absurd cc) few), by_load asked before now (Err why) IsUnsettled is tt)) said
  refused_ends (load.Unsettled rounds) source is cause few (inr silent) = memory_ends asked before now result cause source silent

  -- the files give a network
  module _ (few : length (named_in request.input) ≤ most_routers) (loaded : LoadedView) (files : now.faults ≡ before.faults) (is : IsLoad (Ok loaded)) where
    quiet_by : now.failures.source ≡ before.failures.source → now.failures.sink ≡ before.failures.sink → NoFault before now
    quiet_by source sink = record { files = files; source = source; sink = sink }

    -- the sink failed within the heading
    pub headed_ends : (replies : (session : List ℕ) → Begins loaded (session_in request.input session) []) → now.failures.source ≡ before.failures.source → Rose before.failures.sink now.failures.sink
        → AppendsFront before.told.written now.told.written (heading_in request.input loaded) → result ≡ OutputFault → EndsAs asked before now result
    headed_ends replies source sink front same =
        by_status asked before now result OutputFault same (
          files,
          source,
          sink,
          by_load asked before now (Ok loaded) (IsBegunFor asked before now) is
              (some_of (needed_in request.input before.told.rest)
              (λ session. Writes before.told.written now.told.written (IsBeginningOf asked before now (Ok loaded) (session_in request.input session)))
              (λ session. let answered = replies session in
              writes before.told.written now.told.written front.front (IsBeginningOf asked before now (Ok loaded) (session_in request.input session)) front.written
              (inr (
                answered.0,
                front.behind ++ answered.1,
                (answered.1, answered.2, sym (append_assoc front.front front.behind answered.1) ∙ ap (λ (l : List ℕ). l ++ answered.1) (sym front.parts)),
              )))),
        )

    -- a session was answered behind the heading
    module _ (rest left middle : Option (List ℕ)) (headed : Appends before.told.written middle (heading_in request.input loaded))
        (known : (P : List ℕ → Type 0) → IfSome rest P → IfAnswered asked before now P) where
      -- what was written for the session
      abbrev ServesBy : Status → List ℕ → Type 0
      ServesBy status session = Writes middle now.told.written (λ bytes. Serves loaded session status bytes)

      whole : (status : Status) (session : List ℕ) → ServesBy status session
          → Writes before.told.written now.told.written (λ bytes. Concludes (heading_asked asked) (Ok loaded) session status bytes)
      whole status session served =
          writes_behind before.told.written middle now.told.written (heading_in request.input loaded) (λ bytes. Serves loaded session status bytes)
          (λ bytes. Concludes (heading_asked asked) (Ok loaded) session status bytes) (λ bytes serves. (bytes, serves, refl)) headed served

      told_by : (status : Status) → Settles (Ok loaded) status → IfSome rest (ServesBy status) → IsTold asked before now status
      told_by status settles written =
          by_load asked before now (Ok loaded) (IsSaid asked before now status) is (
            settles,
            known (λ session. Writes before.told.written now.told.written (λ bytes. Concludes (heading_asked asked) (Ok loaded) session status bytes))
                (some_more rest (ServesBy status) (λ session. Writes before.told.written now.told.written (λ bytes. Concludes (heading_asked asked) (Ok loaded) session status bytes)) (whole status) written),
          )

      begun_behind : (session bytes : List ℕ) → Begins loaded session bytes → IsBeginningOf asked before now (Ok loaded) session (heading_in request.input loaded ++ bytes)
      begun_behind session bytes begins = inr (begins.0, begins.1, (bytes ++ begins.1, begins.2, append_assoc (heading_in request.input loaded) bytes begins.1))

      begun_by : IfSome rest (λ session. Writes middle now.told.written (Begins loaded session)) → IsBrokenOff asked before now
      begun_by begun =
          by_load asked before now (Ok loaded) (IsBegunFor asked before now) is
          (known (λ session. Writes before.told.written now.told.written (IsBeginningOf asked before now (Ok loaded) session))
          (some_more rest (λ session. Writes middle now.told.written (Begins loaded session)) (λ session. Writes before.told.written now.told.written (IsBeginningOf asked before now (Ok loaded) session))
          (λ session. writes_behind before.told.written middle now.told.written (heading_in request.input loaded) (Begins loaded session)
          (IsBeginningOf asked before now (Ok loaded) session) (begun_behind session) headed) begun))

      pub served_ends : (status : Status) → Leaves loaded (told rest middle) (told left now.told.written) status → FailsAs before.failures now.failures status
          → ((IsAtEnd left ⊎ TookQuit rest left) → TookIn request.input before.told.rest now.told.rest)
          → (status ≡ InputFault → EndsAs asked before now InputFault) → EndsAs asked before now status
      served_ends Done leaves fails took cut = (
        quiet_by fails.0 fails.1,
        told_by Done (inl refl) (some_more rest (λ session. (is_within session ≡ true) × ServesBy Done session) (ServesBy Done) (λ session both. both.1) leaves.0),
        (request, refl, few),
        record {
          within = known (λ session. is_within session ≡ true)
              (some_more rest (λ session. (is_within session ≡ true) × ServesBy Done session) (λ session. is_within session ≡ true) (λ session both. both.0) leaves.0);
          taken = took leaves.1;
        },
      )
      served_ends Limit leaves fails took cut = (
        quiet_by fails.0 fails.1,
        told_by Limit (inr (inl refl)) (some_more rest (λ session. (is_within session ≡ false) × ServesBy Limit session) (ServesBy Limit) (λ session both. both.1) leaves),
        (request, refl),
        by_load asked before now (Ok loaded) (λ l. IfAnswered asked before now (λ session. IsOverLimit l session)) is
            (known (λ session. is_within session ≡ false)
            (some_more rest (λ session. (is_within session ≡ false) × ServesBy Limit session) (λ session. is_within session ≡ false) (λ session both. both.0) leaves)),
      )
      served_ends InputFault leaves fails took cut = cut refl
      served_ends OutputFault leaves fails took cut = (files, fails.0, fails.1, begun_by leaves)
      served_ends Memory leaves fails took cut = (quiet_by fails.0 fails.1, begun_by leaves)
      served_ends Config leaves fails took cut = absurd leaves
      served_ends Usage leaves fails took cut = absurd leaves
      served_ends Unstable leaves fails took cut = absurd leaves
      served_ends FileFault leaves fails took cut = absurd leaves

-- ---- a session of files

module _ (rounds : ℕ) (names : List (List ℕ)) (before now : Seen) where
  abbrev of_files : RequestView
  of_files = record { rounds = rounds; input = Files names }

  open_of_cut : (loaded : LoadedView) (rest left : Option (List ℕ)) → Takes rest left (IsCutShort loaded before.told.written now.told.written) → Takes rest left IsOpenSession
  open_of_cut loaded None left takes = tt
  open_of_cut loaded (Some r) None takes = takes
  open_of_cut loaded (Some r) (Some l) takes = (takes.0, takes.1, record { few = takes.2.few; goes = takes.2.goes })

  module _ (few : length names ≤ most_routers) (loaded : LoadedView) (files : now.faults ≡ before.faults) (is : IfSome before.files (λ fs. load_over true rounds names fs ≡ Ok loaded)) where
    -- the source failed
    cut_ends : Leaves loaded before.told now.told InputFault → FailsAs before.failures now.failures InputFault → EndsAs (Some of_files) before now InputFault
    cut_ends leaves fails = (
      files,
      fails.0,
      fails.1,
      (of_files, refl, few),
      record {
        taken = open_of_cut loaded before.told.rest now.told.rest leaves;
        settles = by_load (Some of_files) before now (Ok loaded) (λ l. Settles l InputFault) is (inr (inr refl));
        answers = by_load (Some of_files) before now (Ok loaded) (λ l. AnswersTaken l before.told.rest now.told.rest before.told.written now.told.written) is leaves;
      },
    )

    pub files_ends : (status : Status) → Leaves loaded before.told now.told status → FailsAs before.failures now.failures status → EndsAs (Some of_files) before now status
    files_ends status leaves fails =
        served_ends of_files before now status few loaded files is before.told.rest now.told.rest before.told.written (Appends-nil before.told.written) (λ P holds. holds) status leaves fails
        (λ took. took)
        (λ same. cut_ends (subst (Leaves loaded before.told now.told) same leaves) (subst (FailsAs before.failures now.failures) same fails))

-- ---- a refusal whose text is made first

pub made_as : {V E : Type 0} (items : V → List ℕ) (made : Result V E) (text other : List ℕ) → text ≡ other → IfOk made (λ t. items t ≡ text) → IfOk made (λ t. items t ≡ other)
made_as items (Ok t) text other same is = is ∙ same
made_as items (Err e) text other same is = tt

pub said_made : {V E : Type 0} (items : V → List ℕ) (status : Status) (text : List ℕ) (made : Result V E) (before now : SinkSeen) (result : Status) → IfOk made (λ t. items t ≡ text)
    → MatchResult made (λ t. Says status (items t) before now result) (λ e. Silent Memory before now result) → Says status text before now result ⊎ Silent Memory before now result
said_made items status text (Ok t) before now result is says = inl (subst (λ (l : List ℕ). Says status l before now result) is says)
said_made items status text (Err e) before now result is says = inr says

-- ---- what a step can't answer

-- files that give no network end no session, and end as a fault of the files only where the outside failed
pub refused_early : (names : List (List ℕ)) (fault : LoadFault) (before now : SinkSeen) (result : Status) → EndsRefused names fault before now result → IsLate result → ⊥
refused_early names load.Outside before now result silent late = subst IsLate silent.0 late
refused_early names load.Memory before now result silent late = subst IsLate silent.0 late
refused_early names (load.Over quantity) before now result (inl (inl said)) late = subst IsLate said.0 late
refused_early names (load.Over quantity) before now result (inl (inr failed)) late = subst IsLate failed.0 late
refused_early names (load.Over quantity) before now result (inr silent) late = subst IsLate silent.0 late
refused_early names (load.Bad file line reason) before now result (inl (inl said)) late = subst IsLate said.0 late
refused_early names (load.Bad file line reason) before now result (inl (inr failed)) late = subst IsLate failed.0 late
refused_early names (load.Bad file line reason) before now result (inr silent) late = subst IsLate silent.0 late
refused_early names (load.Unsettled rounds) before now result (inl (inl said)) late = subst IsLate said.0 late
refused_early names (load.Unsettled rounds) before now result (inl (inr failed)) late = subst IsLate failed.0 late
refused_early names (load.Unsettled rounds) before now result (inr silent) late = subst IsLate silent.0 late

pub refused_outside : (names : List (List ℕ)) (fault : LoadFault) (before now : SinkSeen) (result : Status) → EndsRefused names fault before now result → result ≡ FileFault → fault ≡ load.Outside
refused_outside names load.Outside before now result silent is = refl
refused_outside names load.Memory before now result silent is = let both : Memory ≡ FileFault = sym silent.0 ∙ is in absurd cc
refused_outside names (load.Over quantity) before now result (inl (inl said)) is = let both : Limit ≡ FileFault = sym said.0 ∙ is in absurd cc
refused_outside names (load.Over quantity) before now result (inl (inr failed)) is = let both : OutputFault ≡ FileFault = sym failed.0 ∙ is in absurd cc
refused_outside names (load.Over quantity) before now result (inr silent) is = let both : Memory ≡ FileFault = sym silent.0 ∙ is in absurd cc
refused_outside names (load.Bad file line reason) before now result (inl (inl said)) is = let both : Config ≡ FileFault = sym said.0 ∙ is in absurd cc
refused_outside names (load.Bad file line reason) before now result (inl (inr failed)) is = let both : OutputFault ≡ FileFault = sym failed.0 ∙ is in absurd cc
refused_outside names (load.Bad file line reason) before now result (inr silent) is = let both : Memory ≡ FileFault = sym silent.0 ∙ is in absurd cc
refused_outside names (load.Unsettled rounds) before now result (inl (inl said)) is = let both : Unstable ≡ FileFault = sym said.0 ∙ is in absurd cc
refused_outside names (load.Unsettled rounds) before now result (inl (inr failed)) is = let both : OutputFault ≡ FileFault = sym failed.0 ∙ is in absurd cc
refused_outside names (load.Unsettled rounds) before now result (inr silent) is = let both : Memory ≡ FileFault = sym silent.0 ∙ is in absurd cc

-- a session that was served doesn't end before it is read
pub served_late : (loaded : LoadedView) (before now : Told) (status : Status) → Leaves loaded before now status → IsEarly status → ⊥
served_late loaded before now Done leaves early = early
served_late loaded before now Limit leaves early = early
served_late loaded before now InputFault leaves early = early
served_late loaded before now OutputFault leaves early = early
served_late loaded before now Memory leaves early = early
served_late loaded before now Config leaves early = leaves
served_late loaded before now Usage leaves early = leaves
served_late loaded before now Unstable leaves early = leaves
served_late loaded before now FileFault leaves early = leaves

-- what was said to words that name no file is no status of files or of a session
pub usage_other : (text : List ℕ) (before now : SinkSeen) (result : Status) → Says Usage text before now result → (IsLate result → ⊥) × (result ≢ FileFault)
usage_other text before now result (inl said) = (λ late. subst IsLate said.0 late, λ is. let both : Usage ≡ FileFault = sym said.0 ∙ is in absurd cc)
usage_other text before now result (inr failed) = (λ late. subst IsLate failed.0 late, λ is. let both : OutputFault ≡ FileFault = sym failed.0 ∙ is in absurd cc)
