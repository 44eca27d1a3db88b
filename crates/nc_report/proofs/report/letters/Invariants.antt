use Rattle.std.proofs.Common.{◌≡◌}
use Rattle.nc_report.specs.Sheets.{letters_from}
use Rattle.nc_report.proofs.report.letters.Given as goal

abbrev pub invariant-lines : goal.invariant-lines
invariant-lines l = l.letters.items ≡ letters_from l.network l.marks l.router.0 0 l.line
