-- How a run over a generated network ends.
use Rattle.std.proofs.Common.{◌≡◌, ◌≢◌, ◌⊎◌, ℕ, true, false, List, [], Option, Some, Result, Ok, Err, refl, sym, ◌∙◌, subst, inl, inr, arith}
use Rattle.nc_outside.specs.Named.{Named}
use Rattle.nc_outside.specs.Counts.{Faults, Rose, Follows}
use Rattle.nc_words.specs.Words.{Generated, RequestView}
use Rattle.nc_load.specs.declared.refusal.LoadFault.{LoadFault}
use Rattle.nc_load.specs.declared.refusal.LoadFault.TheVariants as load
use Rattle.nc_session.specs.declared.status.Status.{Status}
use Rattle.nc_session.specs.declared.status.Status.TheVariants.{Done, Config, Usage, Unstable, InputFault, OutputFault, FileFault, Memory, Limit}
use Rattle.nc_engine.specs.File.{LoadedView}
use Rattle.nc_load.specs.Reading.{HasStopCause}
use Rattle.nc_load.specs.declared.reading.Stop.{Stop}
use Rattle.nc_load.specs.declared.reading.Stop.TheVariants as stops
use Rattle.nc_report.specs.Views.{FileView}
use Rattle.nc_tables.specs.State.{StateView}
use Rattle.nc_session.specs.Generated.{tree_files, tree_names, tree_session}
use Rattle.nc_load.specs.Load.{Refusal, Missing, load_names, load_settled}
use Rattle.nc_session.specs.Load.{load_over, load_request}
use Rattle.nc_load.specs.Loading.{IsFault, IsMissingOf, HasFaultCause, AreFilesNamed}
use Rattle.nc_session.specs.Output.{heading_in}
use Rattle.nc_session.specs.Leaving.{Told, told, failures, Begins, IsBegun, Leaves, FailsAs}
use Rattle.nc_engine.specs.Session.{GoesOn}
use Rattle.nc_session.specs.Causes.{IsLate}
use Rattle.nc_session.specs.Ending.{SinkSeen, EndsRefused, Seen, EndsAs, ServesBehind}
use Rattle.nc_session.proofs.Ends.{memory_ends, refused_ends, headed_ends, served_ends, refused_early, refused_outside}
use Rattle.nc_session.proofs.GeneratedFiles.{tree_there}
use Rattle.nc_session.proofs.Options.{keeps_same}
use Rattle.nc_session.proofs.Steady.{steady_never}
use Rattle.nc_session.proofs.TakenPieces.{nothing_begun}
use Rattle.nc_session.proofs.WithFiles.{loaded_with, fault_with}

-- which sessions of a generated network end as no fault of the files or of the source
calm_by : (n : LoadedView) (before now : Told) (source sink sink_now : Faults) (status : Status) → source.is_steady ≡ true → Leaves n before now status
    → FailsAs (failures source sink) (failures source sink_now) status → (status ≢ FileFault) × (status ≢ InputFault)
calm_by n before now source sink sink_now Done steady leaves fails = (λ e. absurd cc, λ e. absurd cc)
calm_by n before now source sink sink_now Limit steady leaves fails = (λ e. absurd cc, λ e. absurd cc)
calm_by n before now source sink sink_now OutputFault steady leaves fails = (λ e. absurd cc, λ e. absurd cc)
calm_by n before now source sink sink_now Memory steady leaves fails = (λ e. absurd cc, λ e. absurd cc)
calm_by n before now source sink sink_now InputFault steady leaves fails = absurd (steady_never source source steady fails.0)
calm_by n before now source sink sink_now Config steady leaves fails = absurd leaves
calm_by n before now source sink sink_now Usage steady leaves fails = absurd leaves
calm_by n before now source sink sink_now Unstable steady leaves fails = absurd leaves
calm_by n before now source sink sink_now FileFault steady leaves fails = absurd leaves

pub served_calm : (heading : List ℕ) (n : LoadedView) (session : List ℕ) (before now : SinkSeen) (result : Status) → ServesBehind heading n session before now result
    → (result ≢ FileFault) × (result ≢ InputFault)
served_calm heading n session before now result (inl silent) =
    (λ is. let both : Memory ≡ FileFault = sym silent.0 ∙ is in absurd cc, λ is. let both : Memory ≡ InputFault = sym silent.0 ∙ is in absurd cc)
served_calm heading n session before now result (inr (inl failed)) =
    (λ is. let both : OutputFault ≡ FileFault = sym failed.0 ∙ is in absurd cc, λ is. let both : OutputFault ≡ InputFault = sym failed.0 ∙ is in absurd cc)
served_calm heading n session before now result (inr (inr s)) = calm_by n (told (Some session) s.middle) (told s.left now.written) s.source before.faults now.faults result s.steady s.leaves s.fails

pub refused_calm : (names : List (List ℕ)) (fault : LoadFault) (before now : SinkSeen) (result : Status) → (fault ≡ load.Outside → ⊥) → EndsRefused names fault before now result
    → (result ≢ FileFault) × (result ≢ InputFault)
refused_calm names fault before now result inside ends =
    (λ is. inside (refused_outside names fault before now result ends is), λ is. refused_early names fault before now result ends (subst IsLate (sym is) tt))

-- ---- where the outside isn't touched

module _ (rounds pods : ℕ) (files : Option (List Named)) (rest : Option (List ℕ)) (faults source : Faults) (before now : SinkSeen) where
  abbrev request : RequestView
  request = record { rounds = rounds; input = Generated pods }

  abbrev seen : SinkSeen → Seen
  seen sink = record { files = files; faults = faults; told = record { rest = rest; written = sink.written }; failures = record { source = source; sink = sink.faults } }

  module _ (result : Status) where
    -- there was no memory for the network
    pub unmade_ends : before ≡ now → result ≡ Memory → EndsAs (Some request) (seen before) (seen now) result
    unmade_ends same is =
        subst (λ (s : SinkSeen). EndsAs (Some request) (seen before) (seen s) result) same
        (memory_ends (Some request) (seen before) (seen before) result refl refl (is, refl, keeps_same before.written before.written refl))

    inside_cause : (fault : LoadFault) → (fault ≡ load.Outside → ⊥) → HasFaultCause files (load_request request) faults faults fault
    inside_cause load.Outside inside = absurd (inside refl)
    inside_cause load.Memory inside = refl
    inside_cause (load.Over quantity) inside = refl
    inside_cause (load.Bad file line reason) inside = refl
    inside_cause (load.Unsettled count) inside = refl

    -- the files give no network
    pub tree_refused : (fault : LoadFault) → (fault ≡ load.Outside → ⊥) → IsFault (tree_names pods) fault (load_over false rounds (tree_names pods) (tree_files pods))
        → EndsRefused (tree_names pods) fault before now result → EndsAs (Some request) (seen before) (seen now) result
    tree_refused fault inside is ends = refused_ends request (seen before) (seen now) result fault refl is (inside_cause fault inside) (inr (omega arith)) ends

    own_fails : (own : Faults) (status : Status) → own.is_steady ≡ true → FailsAs (failures own before.faults) (failures own now.faults) status
        → FailsAs (failures source before.faults) (failures source now.faults) status
    own_fails own Done steady fails = (refl, fails.1)
    own_fails own Config steady fails = (refl, fails.1)
    own_fails own Usage steady fails = (refl, fails.1)
    own_fails own Unstable steady fails = (refl, fails.1)
    own_fails own InputFault steady fails = absurd (steady_never own own steady fails.0)
    own_fails own OutputFault steady fails = (refl, fails.1)
    own_fails own FileFault steady fails = (refl, fails.1)
    own_fails own Memory steady fails = (refl, fails.1)
    own_fails own Limit steady fails = (refl, fails.1)

    -- the session is answered
    module _ (loaded : LoadedView) (is : load_over false rounds (tree_names pods) (tree_files pods) ≡ Ok loaded) where
      pub tree_served : ServesBehind (heading_in (Generated pods) loaded) loaded (tree_session pods) before now result → EndsAs (Some request) (seen before) (seen now) result
      tree_served (inl silent) = memory_ends (Some request) (seen before) (seen now) result refl refl silent
      tree_served (inr (inl failed)) =
          headed_ends request (seen before) (seen now) result (omega arith) loaded refl is (λ session. failed.3) refl failed.1 failed.2 failed.0
      tree_served (inr (inr s)) =
          served_ends request (seen before) (seen now) result (omega arith) loaded refl is (Some (tree_session pods)) s.left s.middle s.headed (λ P holds. holds) result
          s.leaves (own_fails s.source result s.steady s.fails) (λ took. refl)
          (λ same. absurd ((calm_by loaded (told (Some (tree_session pods)) s.middle) (told s.left now.written) s.source before.faults now.faults result s.steady s.leaves s.fails).1 same))

-- ---- from files in memory

module _ (rounds pods : ℕ) (names : List (List ℕ)) (files : List Named) (names_are : names ≡ tree_names pods) (files_are : files ≡ tree_files pods) where
  abbrev outcome : List Named → Result StateView Refusal
  outcome fs = load_settled rounds (load_names names fs)

  by_tree : (P : List (List ℕ) → List Named → Type 0) → P names files → P (tree_names pods) (tree_files pods)
  by_tree P holds = subst (P (tree_names pods)) files_are (subst (λ (ns : List (List ℕ)). P ns files) names_are holds)

  -- a network that was loaded
  pub tree_loaded : (state : StateView) (views : List FileView) → outcome files ≡ Ok state → AreFilesNamed (Some files) names views
      → load_over false rounds (tree_names pods) (tree_files pods) ≡ Ok (record { state = state; files = views; listed = false })
  tree_loaded state views is named =
      by_tree (λ ns fs. load_over false rounds ns fs ≡ Ok (record { state = state; files = views; listed = false })) (loaded_with false rounds names (Some files) state views is named)

  -- a fault that was told, which is none of the outside
  pub tree_fault : (fault : LoadFault) → IsFault names fault (outcome files) → IsFault (tree_names pods) fault (load_over false rounds (tree_names pods) (tree_files pods))
  tree_fault fault is = by_tree (λ ns fs. IsFault ns fault (load_over false rounds ns fs)) (fault_with false rounds names (Some files) fault is)

  there : outcome files ≢ Err Missing
  there is = tree_there rounds pods (by_tree (λ ns fs. load_settled rounds (load_names ns fs) ≡ Err Missing) is)

  inside : (before now : Faults) → before.is_steady ≡ true → Rose before now ⊎ (IsMissingOf (Some files) outcome × Follows before now) → ⊥
  inside before now steady (inl rose) = steady_never before now steady rose
  inside before now steady (inr missing) = there missing.0

  pub tree_inside : (before now : Faults) (fault : LoadFault) → before.is_steady ≡ true → HasFaultCause (Some files) outcome before now fault → fault ≡ load.Outside → ⊥
  tree_inside before now fault steady cause same = inside before now steady (subst (HasFaultCause (Some files) outcome before now) same cause)

-- ---- what a session is answered

-- it begins with nothing
pub begins_so : (n : LoadedView) (session : List ℕ) → GoesOn n → Begins n session []
begins_so n session goes =
    let begun : IsBegun n (told (Some session) (Some [])) (told (Some session) (Some [])) = nothing_begun n (Some session) (Some []) goes in
    subst (Begins n session) (sym begun.1) begun.2

-- a write that failed raised the count of the sink
pub stop_rose : (before now : Faults) (stop : Stop) → HasStopCause {T = Unit {0}} before now (Err stop) → stop ≢ stops.Memory → Rose before now
stop_rose before now stops.Outside cause other = cause
stop_rose before now stops.Memory cause other = absurd (other refl)
