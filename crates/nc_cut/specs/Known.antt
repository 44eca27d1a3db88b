-- What a contract sees of sizes by place.
use Rattle.nc_cut.specs.declared.pages.Sizes.{Sizes}
use Rattle.nc_cut.specs.Pages.{known_at}
use Rattle.nc_cut.specs.Sizes.{Known}

-- the sizes that are known, by place
abbrev pub known_in : Sizes → Known
known_in sizes p = known_at sizes.starts.items sizes.slots.items p
