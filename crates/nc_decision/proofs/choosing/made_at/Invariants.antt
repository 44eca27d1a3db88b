use Rattle.std.proofs.Common.{◌≡◌, ◌++◌, drop}
use Rattle.std.specs.Prelude.{slice_get}
use Rattle.std.specs.List.{filter_map}
use Rattle.nc_decision.proofs.choosing.made_at.Given as goal

-- the places that are left give what is missing
abbrev pub invariant-places : goal.invariant-places
invariant-places l = l.made.items ++ filter_map (slice_get l.candidates) (drop l.place-index l.places) ≡ filter_map (slice_get l.candidates) l.places
