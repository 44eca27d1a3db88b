use Rattle.std.proofs.Common.{◌≡◌, length, All}
use Rattle.nc_marks.specs.Marks.{marked_elements}
use Rattle.bench.proofs.suites.marks_of_each.Given as goal

abbrev pub invariant-tests : goal.invariant-tests
invariant-tests l = record {
  len : length l.each.items ≡ l.nodes-index;
  marked : All (λ k. marked_elements k.marks ≡ 4) l.each.items;
}
