use Rattle.std.proofs.Common.{◌≡◌}
use Rattle.nc_read_bgp.specs.Processes.{lack_in}
use Rattle.nc_read_bgp.specs.Drafts.{neighbors_of}
use Rattle.nc_read_bgp.proofs.processes.find_lack.Given as goal

abbrev pub invariant-loop-draft : goal.invariant-loop-draft
invariant-loop-draft l = lack_in (neighbors_of l.draft-iterator) ≡ lack_in (neighbors_of l.drafts.entries)
