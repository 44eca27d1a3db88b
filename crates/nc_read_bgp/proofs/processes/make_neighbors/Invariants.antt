use Rattle.std.proofs.Common.{◌≡◌, ◌++◌, map}
use Rattle.nc_read_bgp.specs.Processes.{neighbor_of}
use Rattle.nc_read_bgp.specs.Drafts.{neighbors_of}
use Rattle.nc_read_bgp.specs.Outcomes.{each_lines}
use Rattle.nc_read_bgp.proofs.processes.make_neighbors.Given as goal

abbrev pub invariant-loop-addr : goal.invariant-loop-addr
invariant-loop-addr l =
    (l.neighbors.items ++ map neighbor_of (neighbors_of l.addr-iterator) ≡ map neighbor_of (neighbors_of l.fn.drafts.entries))
    × (each_lines l.lines ++ map (λ e. e.1.lines) (neighbors_of l.addr-iterator) ≡ map (λ e. e.1.lines) (neighbors_of l.fn.drafts.entries))
