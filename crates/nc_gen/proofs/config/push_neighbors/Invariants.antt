use Rattle.std.proofs.Common.{◌≡◌, ◌++◌, map, drop}
use Rattle.nc_gen.specs.Files.{text_of, neighbor_line}
use Rattle.nc_gen.proofs.config.push_neighbors.Given as goal

-- the lines so far and those of the ports that are left are all lines
abbrev pub invariant-ports : goal.invariant-ports
invariant-ports l = l.out.items ++ text_of (map neighbor_line (drop l.port-index l.ports)) ≡ l.fn.out.items ++ text_of (map neighbor_line l.ports)
