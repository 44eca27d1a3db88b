use Rattle.nc_types.specs.declared.TheConstants.{ROUTER_LIMIT}
use Rattle.std.proofs.Common.{◌≡◌, ℕ, zero, suc, false, get_or, replicate, refl}
use Rattle.nc_underlay.proofs.levels.no_flags.Goals as goal

none : (n k : ℕ) → get_or (replicate n false) k false ≡ false
none zero k = refl
none (suc n) zero = refl
none (suc n) (suc k) = none n k

pub returns-clause-flags : goal.returns-clause-flags
returns-clause-flags c other = none ROUTER_LIMIT other
