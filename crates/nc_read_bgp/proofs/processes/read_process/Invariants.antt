use Rattle.std.proofs.Common.{◌≡◌, drop}
use Rattle.nc_lines.specs.Parts.{numbered}
use Rattle.nc_read_bgp.specs.Processes.{process_in}
use Rattle.nc_read_bgp.specs.Steps.{finished}
use Rattle.nc_read_bgp.specs.Drafts.{process_fields}
use Rattle.nc_read_bgp.proofs.processes.read_process.Given as goal

abbrev pub invariant-loop-line : goal.invariant-loop-line
invariant-loop-line l = finished (process_fields l.draft) l.told (numbered l.lines (drop l.line-index l.block.lines.items)) ≡ process_in (numbered l.lines l.block.lines.items)
