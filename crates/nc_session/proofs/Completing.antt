-- How a run ends where nothing fails, and where too many files are named.
use Rattle.std.proofs.Common.{◌≡◌, ◌⊎◌, ℕ, ◌<◌, Bool, true, cond, length, List, Option, None, Some, Result, Ok, Err, IfSome, refl, sym, ap, inl, inr, arith}
use Rattle.nc_outside.specs.Named.{Named}
use Rattle.nc_outside.specs.Counts.{Rose}
use Rattle.nc_words.specs.Words.{InputView, Files, Generated, RequestView}
use Rattle.nc_engine.specs.File.{LoadedView}
use Rattle.nc_load.specs.Limits.{most_routers}
use Rattle.nc_session.specs.declared.status.Status.{Status}
use Rattle.nc_session.specs.declared.status.Status.TheVariants.{Done, Config, Usage, Unstable, InputFault, OutputFault, FileFault, Memory, Limit}
use Rattle.nc_load.specs.Load.{Refusal, Missing}
use Rattle.nc_session.specs.Load.{files_in, lists_in, load_asked, load_over, names_in}
use Rattle.nc_session.specs.Output.{OutputAsked, Writes, is_within, needed_asked, needed_in, session_asked}
use Rattle.nc_session.specs.Causes.{IsAnswer, IsLimitOrUntold, named_asked, named_in, status_of, Settles, IsOverLimit, IsAbsentAsked}
use Rattle.nc_session.specs.Ending.{Seen, IfSession, IsNamingFew, IsTold, EndsAs}
use Rattle.nc_load.proofs.Options.{some_of, some_more}

abbrev Outcome : Type 0
Outcome = Result LoadedView Refusal

-- ---- the files that the words name

pub files_are : (asked : Option RequestView) (request : RequestView) → asked ≡ Some request → named_asked asked ≡ named_in request.input
files_are asked request named = ap named_asked named

few_files : (asked : Option RequestView) → IsNamingFew asked → most_routers < length (named_asked asked) → ⊥
few_files asked few many = absurd (omega (arith, ap length (files_are asked few.0 few.1), few.2, many))

no_files : (asked : Option RequestView) → asked ≡ None → most_routers < length (named_asked asked) → ⊥
no_files asked none many = absurd (omega (arith, ap length (ap named_asked none), many))

-- too many files end as a limit that is passed, if that could be told
pub many_ends : (asked : Option RequestView) (before now : Seen) (status : Status) → EndsAs asked before now status → most_routers < length (named_asked asked) → IsLimitOrUntold status
many_ends asked before now Done e many = absurd (few_files asked e.2 many)
many_ends asked before now Config e many = absurd (few_files asked e.2 many)
many_ends asked before now Usage e many = absurd (no_files asked e.2 many)
many_ends asked before now Unstable e many = absurd (few_files asked e.2 many)
many_ends asked before now InputFault e many = absurd (few_files asked e.3 many)
many_ends asked before now OutputFault e many = tt
many_ends asked before now FileFault e many = absurd (few_files asked e.3 many)
many_ends asked before now Memory e many = tt
many_ends asked before now Limit e many = tt

-- ---- where nothing fails

abbrev IsComplete : Outcome → List ℕ → Status → Type 0
IsComplete loaded session status = (status ≡ status_of loaded session) ⊎ (status ≡ Memory)

by_refusal : (loaded : Outcome) (session : List ℕ) (status : Status) → ((status ≡ Done) ⊎ ((status ≡ Limit) ⊎ (status ≡ InputFault)) → ⊥) → Settles loaded status → IsComplete loaded session status
by_refusal (Ok loaded) session status other settles = absurd (other settles)
by_refusal (Err refusal) session status other settles = inl settles

within_done : (loaded : Outcome) (session : List ℕ) → is_within session ≡ true → Settles loaded Done → IsComplete loaded session Done
within_done (Ok loaded) session within settles = inl (sym (ap (λ (b : Bool). cond b Done Limit) within))
within_done (Err refusal) session within settles = inl settles

over_limit : (loaded : Outcome) (session : List ℕ) → IsOverLimit loaded session → Settles loaded Limit → IsComplete loaded session Limit
over_limit (Ok loaded) session over settles = inl (sym (ap (λ (b : Bool). cond b Done Limit) over))
over_limit (Err refusal) session over settles = inl settles

other_usage : (Usage ≡ Done) ⊎ ((Usage ≡ Limit) ⊎ (Usage ≡ InputFault)) → ⊥
other_usage (inl e) = absurd cc
other_usage (inr (inl e)) = absurd cc
other_usage (inr (inr e)) = absurd cc

other_config : (Config ≡ Done) ⊎ ((Config ≡ Limit) ⊎ (Config ≡ InputFault)) → ⊥
other_config (inl e) = absurd cc
other_config (inr (inl e)) = absurd cc
other_config (inr (inr e)) = absurd cc

other_unstable : (Unstable ≡ Done) ⊎ ((Unstable ≡ Limit) ⊎ (Unstable ≡ InputFault)) → ⊥
other_unstable (inl e) = absurd cc
other_unstable (inr (inl e)) = absurd cc
other_unstable (inr (inr e)) = absurd cc

-- ---- a file that isn't there

absent_in : (rounds : ℕ) (input : InputView) (files : Option (List Named)) → IsAbsentAsked (Some (record { rounds = rounds; input = input })) files
    → IfSome (needed_in input files) (λ fs. load_over (lists_in input) rounds (names_in input) (files_in input fs) ≡ Err Missing)
absent_in rounds (Files names) None absent = absurd absent
absent_in rounds (Files names) (Some fs) absent = absent
absent_in rounds (Generated pods) None absent = absurd absent
absent_in rounds (Generated pods) (Some fs) absent = absent

absent_needed : (asked : Option RequestView) (files : Option (List Named)) → IsAbsentAsked asked files → IfSome (needed_asked asked files) (λ fs. load_asked asked fs ≡ Err Missing)
absent_needed None None absent = absurd absent
absent_needed None (Some fs) absent = absent
absent_needed (Some request) files absent = absent_in request.rounds request.input files absent

-- ---- what is known where the files and the session are told

module _ (asked : Option RequestView) (before now : Seen) where
  -- P holds of what was loaded and of the session that is answered
  abbrev Over : (Outcome → List ℕ → Type 0) → Type 0
  Over P = IfSome (needed_asked asked before.files) (λ fs. IfSome (needed_asked asked before.told.rest) (λ session. P (load_asked asked fs) (session_asked asked session)))

  abbrev OverFiles : (Outcome → Type 0) → Type 0
  OverFiles P = IfSome (needed_asked asked before.files) (λ fs. P (load_asked asked fs))

  abbrev OverSession : (List ℕ → Type 0) → Type 0
  OverSession P = IfSome (needed_asked asked before.told.rest) (λ session. P (session_asked asked session))

  of_all : (P : Outcome → List ℕ → Type 0) → ((l : Outcome) (session : List ℕ) → P l session) → Over P
  of_all P holds =
      some_of (needed_asked asked before.files) (λ fs. OverSession (P (load_asked asked fs)))
      (λ fs. some_of (needed_asked asked before.told.rest) (λ session. P (load_asked asked fs) (session_asked asked session)) (λ session. holds (load_asked asked fs) (session_asked asked session)))

  of_files : (P : Outcome → Type 0) (Q : Outcome → List ℕ → Type 0) → ((l : Outcome) (session : List ℕ) → P l → Q l session) → OverFiles P → Over Q
  of_files P Q holds =
      some_more (needed_asked asked before.files) (λ fs. P (load_asked asked fs)) (λ fs. OverSession (Q (load_asked asked fs)))
      (λ fs p. some_of (needed_asked asked before.told.rest) (λ session. Q (load_asked asked fs) (session_asked asked session)) (λ session. holds (load_asked asked fs) (session_asked asked session) p))

  of_both : (P : Outcome → Type 0) (Q R : Outcome → List ℕ → Type 0) → ((l : Outcome) (session : List ℕ) → P l → Q l session → R l session) → OverFiles P → Over Q → Over R
  of_both P Q R holds p q = on (needed_asked asked before.files) p q
    where
      on : (files : Option (List Named)) → IfSome files (λ fs. P (load_asked asked fs)) → IfSome files (λ fs. OverSession (Q (load_asked asked fs))) → IfSome files (λ fs. OverSession (R (load_asked asked fs)))
      on None p q = tt
      on (Some fs) p q =
          some_more (needed_asked asked before.told.rest) (λ session. Q (load_asked asked fs) (session_asked asked session)) (λ session. R (load_asked asked fs) (session_asked asked session))
          (λ session. holds (load_asked asked fs) (session_asked asked session) p) q

  of_session : (Q : List ℕ → Type 0) → OverSession Q → Over (λ l session. Q session)
  of_session Q q = some_of (needed_asked asked before.files) (λ fs. OverSession Q) (λ fs. q)

  settles_of : (status : Status) → IsTold asked before now status → OverFiles (λ l. Settles l status)
  settles_of status told =
      some_more (needed_asked asked before.files)
      (λ fs. Settles (load_asked asked fs) status × IfSession asked before now (λ session. Writes before.told.written now.told.written (OutputAsked asked fs session status)))
      (λ fs. Settles (load_asked asked fs) status) (λ fs both. both.0) told

  -- ---- what stands written

  abbrev Written : Status → List Named → Type 0
  Written status fs = IfSession asked before now (λ session. Writes before.told.written now.told.written (OutputAsked asked fs session status))

  written_of : (status : Status) → IsTold asked before now status → IfSome (needed_asked asked before.files) (Written status)
  written_of status told =
      some_more (needed_asked asked before.files) (λ fs. Settles (load_asked asked fs) status × Written status fs) (Written status) (λ fs both. both.1) told

  -- a status that comes with its bytes
  pub answers : (status : Status) → EndsAs asked before now status → IsAnswer status → IfSome (needed_asked asked before.files) (Written status)
  answers Done e comes = written_of Done e.1
  answers Config e comes = written_of Config e.1
  answers Usage e comes = written_of Usage e.1
  answers Unstable e comes = written_of Unstable e.1
  answers Limit e comes = written_of Limit e.1
  answers InputFault e comes = absurd comes
  answers OutputFault e comes = absurd comes
  answers FileFault e comes = absurd comes
  answers Memory e comes = absurd comes

  -- ---- by status

  abbrev Ends : Status → Outcome → List ℕ → Type 0
  Ends status l session =
      ¬ Rose before.faults now.faults → ¬ Rose before.failures.source now.failures.source → ¬ Rose before.failures.sink now.failures.sink → IsComplete l session status

  refused : (status : Status) → ((status ≡ Done) ⊎ ((status ≡ Limit) ⊎ (status ≡ InputFault)) → ⊥) → IsTold asked before now status → Over (Ends status)
  refused status other told =
      of_files (λ l. Settles l status) (Ends status) (λ l session settles files source sink. by_refusal l session status other settles) (settles_of status told)

  by_absence : Rose before.faults now.faults ⊎ IsAbsentAsked asked before.files → Over (Ends FileFault)
  by_absence (inl rose) = of_all (Ends FileFault) (λ l session files source sink. absurd (files rose))
  by_absence (inr absent) =
      of_files (λ l. l ≡ Err Missing) (Ends FileFault) (λ l session missing files source sink. inl (sym (ap (λ (o : Outcome). status_of o session) missing))) (absent_needed asked before.files absent)

  -- where nothing fails
  pub completes : (status : Status) → EndsAs asked before now status → Over (Ends status)
  completes Done e =
      of_both (λ l. Settles l Done) (λ l session. is_within session ≡ true) (Ends Done) (λ l session settles within files source sink. within_done l session within settles)
      (settles_of Done e.1) (of_session (λ session. is_within session ≡ true) e.3.within)
  completes Memory e = of_all (Ends Memory) (λ l session files source sink. inr refl)
  completes Usage e = refused Usage other_usage e.1
  completes Config e = refused Config other_config e.1
  completes Limit e =
      of_both (λ l. Settles l Limit) IsOverLimit (Ends Limit) (λ l session settles over files source sink. over_limit l session over settles) (settles_of Limit e.1) e.3
  completes InputFault e = of_all (Ends InputFault) (λ l session files source sink. absurd (source e.1))
  completes OutputFault e = of_all (Ends OutputFault) (λ l session files source sink. absurd (sink e.2))
  completes FileFault e = by_absence e.0
  completes Unstable e = refused Unstable other_unstable e.1
