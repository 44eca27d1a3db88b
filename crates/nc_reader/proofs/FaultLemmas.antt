-- The lowest of several faults, and the parts that are read one by one.
use Rattle.std.proofs.Common.{◌≡◌, ◌<◌, ◌≤◌, List, [], ◌∷◌, ◌++◌, Option, Some, None, Result, Ok, Err, sym, ap, ◌∙◌, arith}
use Rattle.std.specs.List.{filter_map}
use Rattle.std.specs.Option.{option_map_or}
use Rattle.std.proofs.lemmas.Bool.Decides.{nat_tests}
use Rattle.std.proofs.lemmas.List.{append_assoc}
use Rattle.nc_types.specs.Faults.{lower, lowest}
use Rattle.nc_types.specs.declared.fault.Fault.{Fault}
use Rattle.nc_types.specs.declared.fault.ConfigFault.{ConfigFault}
use Rattle.nc_types.specs.declared.fault.ConfigFault.TheVariants.{Bad, Memory}
use Rattle.nc_lines.specs.Outcomes.{IsFault}
use Rattle.nc_lines.proofs.FaultLemmas.{lowest-push}
use Rattle.nc_reader.specs.Things.{ok_of, err_of}
use Rattle.nc_reader.specs.Parts.{IsLowest, Notes}
use Rattle.nc_reader.proofs.PushLemmas.{filter_map-none, filter_map-some}

-- one more part, which has no fault
pub ok-push : {A : Type 0} (rs : List (Result A Fault)) (r : Result A Fault) (x : A) → r ≡ Ok x → filter_map ok_of (rs ++ r ∷ []) ≡ filter_map ok_of rs ++ x ∷ []
ok-push rs r x is = filter_map-some ok_of rs r x (ap ok_of is)

ok-push_err : {A : Type 0} (rs : List (Result A Fault)) (r : Result A Fault) (f : Fault) → r ≡ Err f → filter_map ok_of (rs ++ r ∷ []) ≡ filter_map ok_of rs
ok-push_err rs r f is = filter_map-none ok_of rs r (ap ok_of is)

pub err-push_ok : {A : Type 0} (rs : List (Result A Fault)) (r : Result A Fault) (x : A) → r ≡ Ok x → filter_map err_of (rs ++ r ∷ []) ≡ filter_map err_of rs
err-push_ok rs r x is = filter_map-none err_of rs r (ap err_of is)

err-push : {A : Type 0} (rs : List (Result A Fault)) (r : Result A Fault) (f : Fault) → r ≡ Err f → filter_map err_of (rs ++ r ∷ []) ≡ filter_map err_of rs ++ f ∷ []
err-push rs r f is = filter_map-some err_of rs r f (ap err_of is)

pub told-ok : {A : Type 0} (fs : List Fault) (told : Option Fault) (rs : List (Result A Fault)) (r : Result A Fault) (x : A) → r ≡ Ok x → IsLowest fs told rs → IsLowest fs told (rs ++ r ∷ [])
told-ok fs told rs r x is same = same ∙ ap (λ (es : List Fault). lowest (fs ++ es)) (sym (err-push_ok rs r x is))

-- what was noted of a part with a fault
pub told-err : {A : Type 0} (fault : ConfigFault) (fs : List Fault) (old new : Option Fault) (rs : List (Result A Fault)) (r : Result A Fault) → Notes fault old new → IsFault fault r → IsLowest fs old rs → IsLowest fs new (rs ++ r ∷ [])
told-err (Bad line cause) fs old new rs r noted is same =
    noted (fs ++ filter_map err_of rs) same ∙ ap lowest (append_assoc fs (filter_map err_of rs) (record { line = line; cause = cause } ∷ []))
    ∙ ap (λ (es : List Fault). lowest (fs ++ es)) (sym (err-push rs r (record { line = line; cause = cause }) is))
told-err Memory fs old new rs r noted is same = absurd noted

pub ok-noted : {A : Type 0} (fault : ConfigFault) (old new : Option Fault) (rs : List (Result A Fault)) (r : Result A Fault) → Notes fault old new → IsFault fault r → filter_map ok_of (rs ++ r ∷ []) ≡ filter_map ok_of rs
ok-noted (Bad line cause) old new rs r noted is = ok-push_err rs r (record { line = line; cause = cause }) is
ok-noted Memory old new rs r noted is = absurd noted

-- of a fault so far and one more, the first or the other
pub lowest-first : (fs : List Fault) (told : Option Fault) (first f : Fault) → told ≡ Some first → first.line ≤ f.line → told ≡ lowest fs → lowest (fs ++ f ∷ []) ≡ Some first
lowest-first fs told first f is below same =
    lowest-push fs f ∙ ap (λ (o : Option Fault). Some (option_map_or (λ g. lower g f) o f)) (sym same ∙ is) ∙ ap (λ (g : Fault). Some g) (let e : lower first f ≡ first = grind (arith, nat_tests) in e)

pub lowest-other : (fs : List Fault) (told : Option Fault) (first f : Fault) → told ≡ Some first → f.line < first.line → told ≡ lowest fs → lowest (fs ++ f ∷ []) ≡ Some f
lowest-other fs told first f is below same =
    lowest-push fs f ∙ ap (λ (o : Option Fault). Some (option_map_or (λ g. lower g f) o f)) (sym same ∙ is) ∙ ap (λ (g : Fault). Some g) (let e : lower first f ≡ f = grind (arith, nat_tests) in e)

pub lowest-none : (fs : List Fault) (told : Option Fault) (f : Fault) → told ≡ None → told ≡ lowest fs → lowest (fs ++ f ∷ []) ≡ Some f
lowest-none fs told f is same = lowest-push fs f ∙ ap (λ (o : Option Fault). Some (option_map_or (λ g. lower g f) o f)) (sym same ∙ is)
