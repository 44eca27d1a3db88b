use Rattle.std.proofs.Common.{◌≡◌}
use Rattle.nc_diagram.specs.Sets.{among}
use Rattle.nc_diagram.specs.Diagrams.{Belongs, meaning}
use Rattle.nc_diagram.proofs.store.Store.eval.Given as goal

abbrev pub invariant-walk : goal.invariant-walk
invariant-walk l =
    record {
      belongs : Belongs l.self.nodes l.place;
      value : meaning l.fn.self.nodes l.fn.r (among l.members) ≡ meaning l.self.nodes l.place (among l.members);
    }

abbrev pub decreases-walk : goal.decreases-walk
decreases-walk l = l.place
