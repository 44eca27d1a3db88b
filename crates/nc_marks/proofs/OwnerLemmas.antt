-- The owner of a line is one of the elements.
use Rattle.std.proofs.Common.{◌≡◌, ℕ, suc, zero, ◌+◌, ◌<◌, ◌≤◌, List, [], ◌∷◌, length, take, Option, Some, None, slice_get, arith, ap, refl}
use Rattle.std.proofs.lemmas.List.Quantifiers.{position-Some}
use Rattle.std.proofs.lemmas.List.Sums.{sum_by-cons}
use Rattle.std.specs.List.{list_any}
use Rattle.std.specs.Option.{option_map}
use Rattle.std.specs.Prelude.{nat_eq, option_and_then}
use Rattle.nc_types.specs.Config.{ConfigView}
use Rattle.nc_types.specs.declared.config.Kind.TheVariants as kind
use Rattle.nc_types.specs.Network.{element_count, place_with_line, owner_at}

-- the elements up to and with those of one router are among all
count-within : (cs : List ConfigView) (router : ℕ) (c : ConfigView) → slice_get cs router ≡ Some c → element_count (take router cs) + length c.elements ≤ element_count cs
count-within [] router c at = absurd (cc)
count-within (d ∷ ds) zero c at = let same : d ≡ c = cc in let lengths = ap (λ (x : ConfigView). length x.elements) same in omega (arith, sum_by-cons (λ (x : ConfigView). length x.elements) d ds)
count-within (d ∷ ds) (suc router) c at = let there = count-within ds router c at in
    omega (arith, sum_by-cons (λ (x : ConfigView). length x.elements) d ds, sum_by-cons (λ (x : ConfigView). length x.elements) d (take router ds))

pub owner-within : (cs : List ConfigView) (router line e : ℕ) → owner_at cs router line ≡ Some e → e < element_count cs
owner-within cs router line e = by_router (slice_get cs router) (λ c at. count-within cs router c at)
  where
    by_place : (c : ConfigView) (place : Option ℕ) → place_with_line c line ≡ place → element_count (take router cs) + length c.elements ≤ element_count cs
        → option_map (λ place. element_count (take router cs) + place) place ≡ Some e → e < element_count cs
    by_place c None at few is = absurd (cc)
    by_place c (Some place) at few is =
        let within = (position-Some (λ x. list_any (nat_eq line) x.lines) c.elements place (record { kind = kind.Interface; lines = [] }) at).0 in
        let same : element_count (take router cs) + place ≡ e = cc in
        omega arith

    by_router : (found : Option ConfigView) → ((c : ConfigView) → found ≡ Some c → element_count (take router cs) + length c.elements ≤ element_count cs)
        → option_and_then (λ c. option_map (λ place. element_count (take router cs) + place) (place_with_line c line)) found ≡ Some e → e < element_count cs
    by_router None few is = absurd (cc)
    by_router (Some c) few is = by_place c (place_with_line c line) refl (few c refl) is
