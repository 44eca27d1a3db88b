use Rattle.std.proofs.Common.{◌≡◌, ◌≤◌, ◌+◌, length}
use Rattle.std.specs.List.{list_all}
use Rattle.std.specs.Prelude.{is_some}
use Rattle.nc_lines.specs.Lines.{words_of}
use Rattle.nc_read_policy.specs.declared.TheConstants.{PREPEND_LIMIT}
use Rattle.nc_read_policy.specs.Clauses.{asn_of}
use Rattle.nc_read_policy.proofs.values.are_asns.Given as goal

abbrev pub invariant-numbers : goal.invariant-numbers
invariant-numbers l = record {
  within : l.count ≤ PREPEND_LIMIT;
  count : l.count + length (words_of l.rest) ≡ length (words_of l.text);
  numbers : list_all (λ word. is_some (asn_of word)) (words_of l.rest) ≡ list_all (λ word. is_some (asn_of word)) (words_of l.text);
}

abbrev pub decreases-numbers : goal.decreases-numbers
decreases-numbers l = length l.rest
