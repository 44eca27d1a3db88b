use Rattle.std.proofs.Common.{◌+◌, length, [], ◌∷◌, ◌++◌}
use Rattle.nc_cut.specs.Known.{known_in}
use Rattle.nc_cut.specs.Sizes.{AreSizes}
use Rattle.nc_cut.proofs.KnownLemmas.{IsPath, work}
use Rattle.nc_cut.proofs.sizes.sizes_from.Given as goal

abbrev pub invariant-walk : goal.invariant-walk
invariant-walk l =
    record {
      sizes : AreSizes l.store.nodes l.free (known_in l.sizes);
      path : IsPath (known_in l.sizes) l.fn.r (l.waiting.items ++ l.at ∷ []);
    }

abbrev pub decreases-walk : goal.decreases-walk
decreases-walk l = work (length l.store.nodes + 2) (known_in l.sizes) l.at
