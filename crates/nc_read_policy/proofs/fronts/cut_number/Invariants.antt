use Rattle.std.proofs.Common.{◌≡◌, ◌≤◌, ◌-◌, true, length, take}
use Rattle.std.specs.List.{list_all}
use Rattle.nc_lines.specs.Numbers.{is_digit, value_after}
use Rattle.nc_read_policy.proofs.fronts.cut_number.Given as goal

abbrev pub invariant-digits : goal.invariant-digits
invariant-digits l = record {
  value : value_after 0 (take l.len l.text) ≡ l.value;
  digits : list_all is_digit (take l.len l.text) ≡ true;
  within : l.value ≤ l.most;
  len : l.len ≤ length l.text;
}

abbrev pub decreases-digits : goal.decreases-digits
decreases-digits l = length l.text - l.len
