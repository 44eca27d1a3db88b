use Rattle.std.proofs.Common.{◌≡◌, drop}
use Rattle.std.specs.List.{fold}
use Rattle.std.specs.Option.{option_map}
use Rattle.nc_sessions.specs.Ids.{counted, higher, highest}
use Rattle.nc_sessions.proofs.ids.highest.Given as goal

-- the interfaces that are left make the highest address of all from the one so far
abbrev pub invariant-interfaces : goal.invariant-interfaces
invariant-interfaces l = fold (λ most i. higher most (counted l.loopbacks i)) (option_map (λ a. a.0) l.most) (drop l.interface-index l.interfaces) ≡ highest l.loopbacks l.interfaces
