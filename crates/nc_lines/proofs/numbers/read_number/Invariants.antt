use Rattle.std.proofs.Common.{◌≡◌, ◌≤◌, drop}
use Rattle.std.specs.List.{list_all}
use Rattle.nc_lines.specs.Numbers.{is_digit, value_after}
use Rattle.nc_lines.proofs.numbers.read_number.Given as goal

abbrev pub invariant-loop-digit : goal.invariant-loop-digit
invariant-loop-digit l = record {
  value : value_after l.value (drop l.digit-index l.word) ≡ value_after 0 l.word;
  digits : list_all is_digit (drop l.digit-index l.word) ≡ list_all is_digit l.word;
  within : l.value ≤ l.most;
}
