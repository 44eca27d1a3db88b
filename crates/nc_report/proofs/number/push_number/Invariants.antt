use Rattle.std.proofs.Common.{◌≡◌, ◌++◌, ◌≤◌, drop, length}
use Rattle.std.specs.Fmt.{decimal}
use Rattle.nc_report.proofs.number.push_number.Given as goal

-- the digits that are left and those that are written are those of the number
abbrev pub invariant-digits : goal.invariant-digits
invariant-digits l = record {
  are : decimal l.fn.number ≡ decimal l.rest ++ drop l.start l.digits;
  room : length (decimal l.rest) ≤ l.start;
  within : l.start ≤ 20;
  len : length l.digits ≡ 20;
}

abbrev pub decreases-digits : goal.decreases-digits
decreases-digits l = l.rest
