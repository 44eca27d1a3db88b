use Rattle.std.proofs.Common.{◌≡◌, take}
use Rattle.nc_reader.specs.Configuration.{with_places}
use Rattle.nc_reader.proofs.placed.set_places.Given as goal

abbrev pub invariant-places : goal.invariant-places
invariant-places g l = (l.things.items ≡ with_places g.T.Placed.placed (take l.index l.places) l.initial.things.items)
