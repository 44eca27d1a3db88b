-- A candidate on the way into memory.
use Rattle.std.specs.Prelude.{◌≤◌, length}
use Rattle.nc_types.specs.declared.TheConstants.{PATH_LIMIT}
use Rattle.nc_tables.specs.declared.bgp.Chosen.{Chosen}
use Rattle.nc_tables.specs.LearntView.{learnt_view, path_after}
use Rattle.nc_decision.specs.declared.feasible.Draft.{Draft}
use Rattle.nc_decision.specs.declared.feasible.Draft.TheVariants.{Plain, Made}

abbrev pub draft_view : Draft → Chosen
draft_view (Plain learnt) = learnt_view learnt
draft_view (Made chosen) = chosen

-- what isn't made yet has a path that may be made
abbrev pub IsShort : Draft → Type 0
IsShort (Plain l) = length (path_after l.system l.path.now) ≤ PATH_LIMIT
IsShort (Made chosen) = Unit {0}
