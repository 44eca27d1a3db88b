use Rattle.std.proofs.Common.{◌≡◌, ◌<◌, ◌||◌, ℕ, length, take}
use Rattle.std.specs.List.{list_any}
use Rattle.nc_marks.specs.Reach.{is_leaf_of}
use Rattle.nc_marks.specs.Sets.{flag}
use Rattle.nc_suite.proofs.unmet.flag_elements.Given as goal

abbrev pub invariant-nodes : goal.invariant-nodes
invariant-nodes g l = record {
  len : length l.flags.items ≡ length l.initial.flags.items;
  flags : (e : ℕ) → e < length l.initial.flags.items → flag l.flags.items e ≡ (list_any (is_leaf_of e) (take l.number l.graph.kinds) || flag l.initial.flags.items e);
}
