use Rattle.std.proofs.Common.{◌≡◌, ◌++◌, drop}
use Rattle.nc_gen.specs.Tree.{ports_in}
use Rattle.nc_gen.proofs.ports.ports_in.Given as goal

-- the ports so far and those of the links that are left are all ports
abbrev pub invariant-links : goal.invariant-links
invariant-links l = l.ports.items ++ ports_in (drop l.link-index l.links) l.number ≡ ports_in l.links l.number
