use Rattle.std.proofs.lemmas.List.{append_assoc}
use Rattle.nc_types.proofs.Placing.{places_in-push}
use Rattle.nc_types.proofs.network.elements.push_places.Goals as goal

pub places-preserved : goal.places-preserved
places-preserved c = rw (c.in_ok-push.ensures.items, c.places.invariant, places_in-push c.args.router.0 c.places.place) (simp append_assoc)
