use Rattle.std.proofs.Common.{◌≡◌, drop}
use Rattle.nc_lines.specs.Parts.{numbered}
use Rattle.nc_read_policy.specs.Clauses.{clause_in}
use Rattle.nc_read_policy.specs.Drafts.{part_of, finished}
use Rattle.nc_read_policy.proofs.clauses.read_clause.Given as goal

abbrev pub invariant-loop-line : goal.invariant-loop-line
invariant-loop-line l = finished (part_of l.draft) (numbered l.lines (drop l.line-index l.block.lines.items)) ≡ clause_in (numbered l.lines l.block.lines.items)
