use Rattle.std.proofs.Common.{◌≡◌, ◌≤◌, ℕ, length}
use Rattle.nc_formula.specs.Formulas.{known}
use Rattle.nc_formula.proofs.formulas.reach.Given as goal

abbrev pub invariant-loop-number : goal.invariant-loop-number
invariant-loop-number l = record {
  long : length l.initial.references.items ≤ l._number → length l.references.items ≡ l._number;
  known : (i : ℕ) → known l.references.items i ≡ known l.initial.references.items i;
}
