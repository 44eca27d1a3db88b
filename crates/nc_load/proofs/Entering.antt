-- Which files are entered in a run.
use Rattle.std.proofs.Common.{◌≡◌, ℕ, List, [], Option, Ok, refl}
use Rattle.nc_types.specs.Config.{ConfigView}
use Rattle.nc_outside.specs.Named.{Named}
use Rattle.nc_outside.specs.Counts.{Entries}
use Rattle.nc_load.specs.Load.{load_each}
use Rattle.nc_load.specs.Entering.{EntersEach}
use Rattle.nc_load.proofs.Options.{some_of}

-- none was entered
pub enters_none : (names : List (List ℕ)) (files : Option (List Named)) (entries : Entries) → EntersEach names files entries entries
enters_none names files entries = record {
  entered = [];
  others = names;
  parts = refl;
  entries = refl;
  loaded = some_of files (λ fs. (routers : List ConfigView) × (load_each fs [] ≡ Ok routers)) (λ fs. ([], refl));
}
