use Rattle.std.proofs.Common.{ℕ, ◌<◌, ◌≤◌, IfSome, get_or}
use Rattle.nc_types.specs.Network.{up_of}
use Rattle.nc_types.specs.declared.config.Interface.{Interface}
use Rattle.nc_network.proofs.overlaps.least_length.Given as goal

-- no prefix so far falls short of it
abbrev pub invariant-interfaces : goal.invariant-interfaces
invariant-interfaces l = (k : ℕ) (d : Interface) → k < l.interface-index → IfSome (up_of (get_or l.interfaces k d)) (λ a. l.least ≤ a.prefix.len)
