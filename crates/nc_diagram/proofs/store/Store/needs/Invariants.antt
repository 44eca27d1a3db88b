use Rattle.std.proofs.Common.{◌≡◌, ◌∷◌, []}
use Rattle.nc_diagram.specs.Sets.{all_but}
use Rattle.nc_diagram.specs.Diagrams.{Belongs, meaning}
use Rattle.nc_diagram.proofs.store.Store.needs.Given as goal

abbrev pub invariant-walk : goal.invariant-walk
invariant-walk l =
    record {
      belongs : Belongs l.self.nodes l.place;
      value : meaning l.fn.self.nodes l.fn.r (all_but (l.v ∷ [])) ≡ meaning l.self.nodes l.place (all_but (l.v ∷ []));
    }

abbrev pub decreases-walk : goal.decreases-walk
decreases-walk l = l.place
