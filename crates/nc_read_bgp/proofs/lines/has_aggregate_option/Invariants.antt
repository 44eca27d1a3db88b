use Rattle.std.proofs.Common.{◌≡◌, length}
use Rattle.std.specs.List.{list_any}
use Rattle.nc_lines.specs.Lines.{words_of}
use Rattle.nc_read_bgp.specs.Statements.{is_aggregate_option}
use Rattle.nc_read_bgp.proofs.lines.has_aggregate_option.Given as goal

abbrev pub invariant-words : goal.invariant-words
invariant-words l = list_any is_aggregate_option (words_of l.rest) ≡ list_any is_aggregate_option (words_of l.text)

abbrev pub decreases-words : goal.decreases-words
decreases-words l = length l.rest
