-- The lines of an element: a few in an array, or many.
use Rattle.std.specs.Prelude.{◌≤◌, ℕ, List, take}
use Rattle.nc_types.specs.declared.lines.TheConstants.{FEW}
use Rattle.nc_types.specs.declared.lines.Held.{Held}
use Rattle.nc_types.specs.declared.lines.Held.TheVariants.{Few, Many}

-- so many of an array, or all of a vector
abbrev pub held_lines : Held → List ℕ
held_lines (Few count lines) = take count lines
held_lines (Many lines) = lines.value.items

-- no more are few than the array holds
abbrev pub IsHeld : Held → Type 0
IsHeld (Few count lines) = count ≤ FEW
IsHeld (Many lines) = Unit {0}
