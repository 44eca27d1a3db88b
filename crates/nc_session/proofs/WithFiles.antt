-- What comes of files, as a network with its files.
use Rattle.std.proofs.Common.{◌≡◌, ℕ, Bool, List, map, Option, Some, None, Result, Ok, IfSome, inl, inr, sym, ap, ◌∙◌}
use Rattle.nc_outside.specs.Named.{Named}
use Rattle.nc_outside.specs.Counts.{Faults}
use Rattle.nc_tables.specs.State.{StateView}
use Rattle.nc_report.specs.Views.{FileView}
use Rattle.nc_load.specs.declared.refusal.LoadFault.{LoadFault}
use Rattle.nc_load.specs.declared.refusal.LoadFault.TheVariants.{Outside, Over, Bad, Memory}
use Rattle.nc_load.specs.declared.refusal.LoadFault.TheVariants as faults
use Rattle.nc_load.specs.Load.{Refusal, file_of, load_names, load_settled}
use Rattle.nc_session.specs.Load.{load_over, with_files}
use Rattle.nc_load.specs.Loading.{IsFault, IsMissingOf, HasFaultCause, AreFilesNamed}
use Rattle.nc_load.proofs.Options.{some_more}

fault_one : (listed : Bool) (names : List (List ℕ)) (files : List FileView) (outcome : Result StateView Refusal) (fault : LoadFault) → IsFault names fault outcome → IsFault names fault (with_files listed files outcome)
fault_one listed names files outcome Outside is = tt
fault_one listed names files outcome Memory is = tt
fault_one listed names files outcome (Over quantity) is = ap (with_files listed files) is
fault_one listed names files outcome (Bad file line reason) is = ap (with_files listed files) is
fault_one listed names files outcome (faults.Unsettled count) is = ap (with_files listed files) is

module _ (listed : Bool) (rounds : ℕ) (names : List (List ℕ)) where
  abbrev settles : List Named → Result StateView Refusal
  settles fs = load_settled rounds (load_names names fs)

  -- a network that was loaded
  pub loaded_with : (told : Option (List Named)) (state : StateView) (files : List FileView) → IfSome told (λ fs. settles fs ≡ Ok state) → AreFilesNamed told names files
      → IfSome told (λ fs. load_over listed rounds names fs ≡ Ok (record { state = state; files = files; listed = listed }))
  loaded_with None state files is named = tt
  loaded_with (Some fs) state files is named =
      ap (with_files listed (map (file_of fs) names)) is ∙ ap (λ (l : List FileView). Ok (record { state = state; files = l; listed = listed })) (sym named.whole)

  -- a fault that was told
  pub fault_with : (told : Option (List Named)) (fault : LoadFault) → IfSome told (λ fs. IsFault names fault (settles fs)) → IfSome told (λ fs. IsFault names fault (load_over listed rounds names fs))
  fault_with told fault is =
      some_more told (λ fs. IsFault names fault (settles fs)) (λ fs. IsFault names fault (load_over listed rounds names fs))
      (λ fs e. fault_one listed names (map (file_of fs) names) (settles fs) fault e) is

  missing_with : (told : Option (List Named)) → IsMissingOf told settles → IsMissingOf told (load_over listed rounds names)
  missing_with None is = is
  missing_with (Some fs) is = ap (with_files listed (map (file_of fs) names)) is

  pub cause_with : (told : Option (List Named)) (before now : Faults) (fault : LoadFault) → HasFaultCause told settles before now fault → HasFaultCause told (load_over listed rounds names) before now fault
  cause_with told before now Outside (inl rose) = inl rose
  cause_with told before now Outside (inr missing) = inr (missing_with told missing.0, missing.1)
  cause_with told before now Memory cause = cause
  cause_with told before now (Over quantity) cause = cause
  cause_with told before now (Bad file line reason) cause = cause
  cause_with told before now (faults.Unsettled count) cause = cause
