-- Objects that never fail.
use Rattle.std.proofs.Common.{◌≡◌, ◌∙◌, true, false, sym}
use Rattle.nc_outside.specs.Counts.{Faults, Rose}

-- a steady object never fails
pub steady_never : (before now : Faults) → before.is_steady ≡ true → Rose before now → ⊥
steady_never before now steady rose = let both : true ≡ false = sym steady ∙ rose.may in absurd cc
