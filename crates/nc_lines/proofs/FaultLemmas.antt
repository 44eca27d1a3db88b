-- The lowest of several faults.
use Rattle.std.proofs.Common.{◌≡◌, ◌<◌, List, [], ◌∷◌, ◌++◌, Option, Some, None, refl, ap, ◌∙◌, arith, inl}
use Rattle.std.specs.Option.{option_map_or}
use Rattle.std.proofs.lemmas.Bool.Decides.{nat_tests}
use Rattle.nc_types.specs.Faults.{lower, lowest}
use Rattle.nc_types.specs.declared.fault.Fault.{Fault}
use Rattle.nc_lines.specs.Outcomes.{lower_of}
use Rattle.nc_lines.specs.Parts.{first_of}
use Rattle.nc_lines.proofs.Pairs.{Pairs}

lower_lower : (a b c : Fault) → lower a (lower b c) ≡ lower (lower a b) c
lower_lower a b c = grind (arith, nat_tests)

-- the lowest of two lists is the lower of theirs
pub lowest_append : (fs gs : List Fault) → lowest (fs ++ gs) ≡ lower_of (lowest fs) (lowest gs)
lowest_append [] gs = refl
lowest_append (f ∷ fs) gs = ap (λ (o : Option Fault). Some (option_map_or (lower f) o f)) (lowest_append fs gs) ∙ on (lowest fs) (lowest gs)
  where
    on : (o p : Option Fault) → Some (option_map_or (lower f) (lower_of o p) f) ≡ lower_of (Some (option_map_or (lower f) o f)) p
    on None p = refl
    on (Some x) None = refl
    on (Some x) (Some y) = ap (λ (g : Fault). Some g) (lower_lower f x y)

-- one more fault behind the others
pub lowest-push : (fs : List Fault) (f : Fault) → lowest (fs ++ f ∷ []) ≡ Some (option_map_or (λ g. lower g f) (lowest fs) f)
lowest-push fs f = lowest_append fs (f ∷ []) ∙ on (lowest fs)
  where
    on : (o : Option Fault) → lower_of o (Some f) ≡ Some (option_map_or (λ g. lower g f) o f)
    on None = refl
    on (Some g) = refl

-- where lines ascend, the first is the lowest
pub lowest_first : (fs : List Fault) → Pairs (λ f g. f.line < g.line) fs → lowest fs ≡ first_of fs
lowest_first [] up = refl
lowest_first (f ∷ []) up = refl
lowest_first (f ∷ g ∷ fs) up =
    ap (λ (o : Option Fault). Some (option_map_or (lower f) o f)) (lowest_first (g ∷ fs) up.1)
    ∙ ap (λ (g : Fault). Some g) (let less : f.line < g.line = up.0 g (inl refl) in let e : lower f g ≡ f = grind (arith, nat_tests) in e)
