use Rattle.std.proofs.Common.{◌≡◌, ◌++◌, map}
use Rattle.nc_read_bgp.specs.Processes.{network_of}
use Rattle.nc_read_bgp.specs.Drafts.{prefixes_of}
use Rattle.nc_read_bgp.specs.Outcomes.{each_lines}
use Rattle.nc_read_bgp.proofs.processes.make_networks.Given as goal

abbrev pub invariant-loop-prefix : goal.invariant-loop-prefix
invariant-loop-prefix l =
    (l.networks.items ++ map network_of (prefixes_of l.prefix-iterator) ≡ map network_of (prefixes_of l.fn.drafts.entries))
    × (each_lines l.lines ++ map (λ e. e.1.lines) (prefixes_of l.prefix-iterator) ≡ map (λ e. e.1.lines) (prefixes_of l.fn.drafts.entries))
