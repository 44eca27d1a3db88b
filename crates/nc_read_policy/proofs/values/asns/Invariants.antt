use Rattle.std.proofs.Common.{◌≡◌, ◌++◌, length}
use Rattle.std.specs.List.{filter_map}
use Rattle.nc_lines.specs.Lines.{words_of}
use Rattle.nc_read_policy.specs.Clauses.{asn_of}
use Rattle.nc_read_policy.proofs.values.asns.Given as goal

abbrev pub invariant-numbers : goal.invariant-numbers
invariant-numbers l = l.numbers.items ++ filter_map asn_of (words_of l.rest) ≡ filter_map asn_of (words_of l.text)

abbrev pub decreases-numbers : goal.decreases-numbers
decreases-numbers l = length l.rest
