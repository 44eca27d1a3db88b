-- What comes of all files, each by itself and together.
use Rattle.std.proofs.Common.{◌≡◌, ℕ, ◌<◌, ◌≤◌, Bool, cond, List, length, Option, None, Some, Result, Ok, Err, IfSome, inl, inr, ap, ◌∙◌}
use Rattle.std.proofs.lemmas.Bool.{le-leb, lt-leb}
use Rattle.nc_types.specs.Config.{ConfigView}
use Rattle.nc_outside.specs.Named.{Named}
use Rattle.nc_outside.specs.Counts.{Faults}
use Rattle.nc_tables.specs.State.{StateView}
use Rattle.nc_network.specs.Judged.{judged}
use Rattle.nc_load.specs.Limits.{most_routers}
use Rattle.nc_load.specs.declared.refusal.LoadFault.{LoadFault}
use Rattle.nc_load.specs.declared.refusal.LoadFault.TheVariants.{Outside, Over, Bad, Memory}
use Rattle.nc_load.specs.declared.refusal.LoadFault.TheVariants as faults
use Rattle.nc_load.specs.declared.refusal.Quantity.TheVariants.{Routers}
use Rattle.nc_load.specs.Load.{Refusal, TooMany, Missing, Faulty, Unsettled, file_named, load_each, load_judged, load_joined, load_names, load_settled}
use Rattle.nc_load.specs.Loading.{IsFault, IsMissingOf, HasFaultCause}
use Rattle.nc_load.proofs.Options.{some_of, some_more}

abbrev by_count : List (List ℕ) → List Named → Bool → Result (List ConfigView) Refusal
by_count names fs few = cond few (load_joined names (load_each fs names)) (Err (TooMany Routers))

-- too many files
pub too_many : (rounds : ℕ) (names : List (List ℕ)) (files : Option (List Named)) → most_routers < length names → IfSome files (λ fs. load_settled rounds (load_names names fs) ≡ Err (TooMany Routers))
unfolding load_names
too_many rounds names files many =
    some_of files (λ fs. load_settled rounds (load_names names fs) ≡ Err (TooMany Routers)) (λ fs. ap (λ (few : Bool). load_settled rounds (by_count names fs few)) (lt-leb (length names) most_routers many))

module _ (rounds : ℕ) (names : List (List ℕ)) (few : length names ≤ most_routers) where
  names_is : (fs : List Named) → load_names names fs ≡ load_joined names (load_each fs names)
  unfolding load_names
  names_is fs = ap (by_count names fs) (le-leb (length names) most_routers few)

  -- what comes of all files by their state
  abbrev outcome : List Named → Result StateView Refusal
  outcome fs = load_settled rounds (load_names names fs)

  refused : (fs : List Named) (refusal : Refusal) → load_each fs names ≡ Err refusal → outcome fs ≡ Err refusal
  refused fs refusal e = ap (load_settled rounds) (names_is fs ∙ ap (load_joined names) e)

  fault_one : (fs : List Named) (fault : LoadFault) → IsFault names fault (load_each fs names) → IsFault names fault (outcome fs)
  fault_one fs Outside is = tt
  fault_one fs Memory is = tt
  fault_one fs (Over quantity) is = refused fs (TooMany quantity) is
  fault_one fs (Bad file line reason) is = refused fs (Faulty (file_named names file) line reason) is
  fault_one fs (faults.Unsettled count) is = refused fs (Unsettled count) is

  -- a fault of a file by itself
  pub fault_each : (files : Option (List Named)) (fault : LoadFault) → IfSome files (λ fs. IsFault names fault (load_each fs names)) → IfSome files (λ fs. IsFault names fault (outcome fs))
  fault_each files fault is = some_more files (λ fs. IsFault names fault (load_each fs names)) (λ fs. IsFault names fault (outcome fs)) (λ fs e. fault_one fs fault e) is

  missing_each : (files : Option (List Named)) → IsMissingOf files (λ fs. load_each fs names) → IsMissingOf files outcome
  missing_each None is = is
  missing_each (Some fs) is = refused fs Missing is

  pub cause_each : (files : Option (List Named)) (fault : LoadFault) (before now : Faults) → HasFaultCause files (λ fs. load_each fs names) before now fault → HasFaultCause files outcome before now fault
  cause_each files Outside before now (inl rose) = inl rose
  cause_each files Outside before now (inr missing) = inr (missing_each files missing.0, missing.1)
  cause_each files Memory before now cause = cause
  cause_each files (Over quantity) before now cause = cause
  cause_each files (Bad file line reason) before now cause = cause
  cause_each files (faults.Unsettled count) before now cause = cause

  module _ (files : Option (List Named)) (cs : List ConfigView) (each : IfSome files (λ fs. load_each fs names ≡ Ok cs)) where
    together : (fs : List Named) → load_each fs names ≡ Ok cs → outcome fs ≡ load_settled rounds (load_judged names cs (judged cs))
    together fs e = ap (load_settled rounds) (names_is fs ∙ ap (load_joined names) e)

    fault_two : (fs : List Named) (fault : LoadFault) → load_each fs names ≡ Ok cs → IsFault names fault (load_settled rounds (load_judged names cs (judged cs))) → IsFault names fault (outcome fs)
    fault_two fs Outside e is = tt
    fault_two fs Memory e is = tt
    fault_two fs (Over quantity) e is = together fs e ∙ is
    fault_two fs (Bad file line reason) e is = together fs e ∙ is
    fault_two fs (faults.Unsettled count) e is = together fs e ∙ is

    -- a fault of all together
    pub fault_together : (fault : LoadFault) → IsFault names fault (load_settled rounds (load_judged names cs (judged cs))) → IfSome files (λ fs. IsFault names fault (outcome fs))
    fault_together fault is = some_more files (λ fs. load_each fs names ≡ Ok cs) (λ fs. IsFault names fault (outcome fs)) (λ fs e. fault_two fs fault e is) each

    -- a network
    pub fine_together : (state : StateView) → load_settled rounds (load_judged names cs (judged cs)) ≡ Ok state → IfSome files (λ fs. outcome fs ≡ Ok state)
    fine_together state fine = some_more files (λ fs. load_each fs names ≡ Ok cs) (λ fs. outcome fs ≡ Ok state) (λ fs e. together fs e ∙ fine) each
