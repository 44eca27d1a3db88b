-- Objects in memory that are given no failing numbers never fail, so a run over them ends as its words, files and session
-- have it.
use Rattle.std.proofs.Common.{◌≡◌, ◌⊎◌, ℕ, ◌==◌, Bool, true, cond, length, List, [], Option, None, Some, IfSome, Result, Ok, ap, ◌∙◌, subst, inl, inr}
use Rattle.nc_outside.specs.Named.{Named}
use Rattle.nc_outside.specs.Counts.{Faults, Rose}
use Rattle.nc_outside.specs.Memory.{FilesState, SourceState, no_calls, no_end, faults_of}
use Rattle.nc_engine.specs.File.{LoadedView}
use Rattle.nc_session.specs.declared.status.Status.{Status}
use Rattle.nc_session.specs.declared.status.Status.TheVariants.{Done, Memory, Limit}
use Rattle.nc_words.specs.Words.{InputView, Files, Generated, RequestView, request_of}
use Rattle.nc_load.specs.Load.{Refusal}
use Rattle.nc_session.specs.Load.{files_in, lists_in, load, load_asked, load_over, names_in}
use Rattle.nc_session.specs.Output.{is_within, needed, needed_asked, needed_in, session_asked, session_in, session_of}
use Rattle.nc_session.specs.Causes.{status_of}
use Rattle.nc_session.proofs.Steady.{steady_never}

-- what holds of the load and the session that a run is over, at files and a session that are told
of_needed : (asked : Option RequestView) (fs : List Named) (session : List ℕ) (P : Result LoadedView Refusal → List ℕ → Type 0)
    → IfSome (needed_asked asked (Some fs)) (λ f. IfSome (needed_asked asked (Some session)) (λ s. P (load_asked asked f) (session_asked asked s)))
    → P (load_asked asked fs) (session_asked asked session)
of_needed None fs session P holds = holds
of_needed (Some request) fs session P holds = on request.input holds
  where
    on : (input : InputView) → IfSome (needed_in input (Some fs)) (λ f. IfSome (needed_in input (Some session)) (λ s. P (load_over (lists_in input) request.rounds (names_in input) (files_in input f)) (session_in input s)))
        → P (load_over (lists_in input) request.rounds (names_in input) (files_in input fs)) (session_in input session)
    on (Files names) holds = holds
    on (Generated pods) holds = holds

module _ (words : List (List ℕ)) (fs : List Named) (session fails reads : List ℕ) (no_fails : fails ≡ []) (no_reads : reads ≡ []) where
  -- how a run ends where nothing can fail
  abbrev IsComplete : Status → List Named → List ℕ → Type 0
  IsComplete status known rest = (status ≡ status_of (load words known) (session_of words rest)) ⊎ (status ≡ Memory)

  -- a run over files and a source of which no call fails, and over a sink that never does
  pub ends_complete : (pieces : List ℕ) (files : FilesState) (source : SourceState) (files_now source_now sink sink_now : Faults) (status : Status)
      → files ≡ record { files = fs; entered = None; calls = no_calls fails; entries = 0; end = no_end }
      → source ≡ record { rest = session; pieces = pieces; calls = no_calls reads; end = no_end }
      → sink.is_steady ≡ true
      → IfSome (needed words (Some files.files)) (λ known. IfSome (needed words (Some source.rest)) (λ rest.
      (Rose (faults_of files.calls) files_now → ⊥) → (Rose (faults_of source.calls) source_now → ⊥) → (Rose sink sink_now → ⊥) → IsComplete status known rest))
      → IsComplete status fs session
  ends_complete pieces files source files_now source_now sink sink_now status files_are source_is steady complete =
      let files_steady = ap (λ (s : FilesState). length s.calls.fails == 0) files_are ∙ ap (λ (l : List ℕ). length l == 0) no_fails in
      let source_steady = ap (λ (s : SourceState). length s.calls.fails == 0) source_is ∙ ap (λ (l : List ℕ). length l == 0) no_reads in
      let by_calls = of_needed (request_of words) files.files source.rest
      (λ loaded rest. (Rose (faults_of files.calls) files_now → ⊥) → (Rose (faults_of source.calls) source_now → ⊥) → (Rose sink sink_now → ⊥)
      → (status ≡ status_of loaded rest) ⊎ (status ≡ Memory)) complete in
      let ends = by_calls (steady_never _ _ files_steady) (steady_never _ _ source_steady) (steady_never _ _ steady) in
      subst (IsComplete status fs) (ap (λ (s : SourceState). s.rest) source_is)
      (subst (λ (known : List Named). IsComplete status known source.rest) (ap (λ (s : FilesState). s.files) files_are) ends)

-- where the files give a network and the session is within its limit, that is Done
pub ends_served : (loaded : Result LoadedView Refusal) (session : List ℕ) (status : Status) → (status ≡ status_of loaded session) ⊎ (status ≡ Memory)
    → (network : LoadedView) → loaded ≡ Ok network → is_within session ≡ true → (status ≡ Done) ⊎ (status ≡ Memory)
ends_served loaded session status (inr memory) network is within = inr memory
ends_served loaded session status (inl ends) network is within =
    inl (ends ∙ ap (λ (l : Result LoadedView Refusal). status_of l session) is ∙ ap (λ (b : Bool). cond b Done Limit) within)
