use Rattle.std.proofs.Common.{◌≡◌, List}
use Rattle.nc_types.specs.Joining.{Used}
use Rattle.nc_network.specs.Steps.{merge, first_of_all, Heads, by_prefix, in_shorter, AreCidrs, AreLong}
use Rattle.nc_network.proofs.overlaps.find_shorter.Given as goal

abbrev pub invariant-lengths : goal.invariant-lengths
invariant-lengths l = (all : List Used) → Heads by_prefix l.heads.entries all → AreCidrs all → AreLong l.fn.least all
    → l.found ≡ merge l.fn.found (first_of_all (in_shorter l.router l.len (record { router = l.router; line = l.line; address = l.fn.address })) all)
