use Rattle.std.proofs.Common.{◌≡◌, ◌++◌, ◌+◌, ◌∷◌, drop}
use Rattle.std.specs.List.{flat_map}
use Rattle.std.specs.Fmt.{decimal}
use Rattle.nc_engine.proofs.suites.push_numbers.Given as goal

-- the numbers so far and those that are left are all numbers
abbrev pub invariant-places : goal.invariant-places
invariant-places l =
    l.out.items ++ flat_map (λ place. 32 ∷ decimal (place + 1)) (drop l.place-index l.places)
    ≡ l.fn.out.items ++ flat_map (λ place. 32 ∷ decimal (place + 1)) l.places
