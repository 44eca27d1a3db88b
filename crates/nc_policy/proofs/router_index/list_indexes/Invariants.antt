use Rattle.std.proofs.Common.{◌≡◌, ℕ, Option, Some, IfSome, length, map}
use Rattle.std.specs.Prelude.{slice_get}
use Rattle.nc_types.specs.Config.{PrefixListView, list_view}
use Rattle.nc_policy.specs.declared.index.ListIndex.{ListIndex}
use Rattle.std.specs.Option.{option_map}
use Rattle.nc_policy.specs.Indexes.{IsEntryTable}
use Rattle.nc_policy.specs.Seen.{entry_table}
use Rattle.nc_policy.proofs.router_index.list_indexes.Given as goal

-- the lists so far have their tables
abbrev pub invariant-lists : goal.invariant-lists
invariant-lists l = record {
  count : length l.indexes.items ≡ l.place;
  each : (k : ℕ) (p : PrefixListView) (x : Option ListIndex) → slice_get (map list_view l.lists) k ≡ Some p → slice_get l.indexes.items k ≡ Some x → IfSome (option_map entry_table x) (IsEntryTable p.entries);
}
