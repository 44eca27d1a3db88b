use Rattle.std.proofs.Common.{◌≡◌, ◌++◌, drop}
use Rattle.nc_gen.specs.Files.{text_of, port_lines}
use Rattle.nc_gen.proofs.config.push_ports.Given as goal

-- the lines so far and those of the ports that are left are all lines
abbrev pub invariant-ports : goal.invariant-ports
invariant-ports l = l.out.items ++ text_of (port_lines l.place (drop l.place l.ports)) ≡ l.fn.out.items ++ text_of (port_lines 0 l.ports)
