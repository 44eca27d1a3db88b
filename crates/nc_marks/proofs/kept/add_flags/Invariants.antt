use Rattle.std.proofs.Common.{◌≡◌, ℕ, length, take}
use Rattle.nc_marks.specs.Sets.{flag}
use Rattle.nc_marks.proofs.kept.add_flags.Given as goal

abbrev pub invariant-nodes : goal.invariant-nodes
invariant-nodes l = record {
  long : length l.reached.items ≡ l._number;
  kept : take (length l.initial.reached.items) l.reached.items ≡ l.initial.reached.items;
  flags : (i : ℕ) → flag l.reached.items i ≡ flag l.initial.reached.items i;
}
