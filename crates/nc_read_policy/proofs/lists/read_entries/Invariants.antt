use Rattle.std.proofs.Common.{◌≡◌, ◌++◌, List, drop}
use Rattle.nc_types.specs.declared.config.ListEntry.{ListEntry}
use Rattle.nc_lines.specs.Parts.{numbered}
use Rattle.nc_read_policy.specs.Results.{ok_map}
use Rattle.nc_read_policy.specs.Lists.{stated_from}
use Rattle.nc_read_policy.proofs.lists.read_entries.Given as goal

abbrev pub invariant-loop-line : goal.invariant-loop-line
invariant-loop-line l =
    ok_map (λ (es : List ListEntry). l.entries.items ++ es) (stated_from l.highest (numbered l.lines (drop l.line-index l.block.lines.items))) ≡ stated_from 0 (numbered l.lines l.block.lines.items)
