use Rattle.std.proofs.Common.{◌≡◌, ℕ, ◌<◌, true, Some, None, length, map}
use Rattle.std.specs.Prelude.{slice_get}
use Rattle.nc_types.specs.Cidr.{Cidr}
use Rattle.nc_types.specs.Config.{PrefixListView, list_view}
use Rattle.nc_tables.specs.Policy.{permitting_prefix}
use Rattle.nc_policy.specs.declared.spans.Span.{Span}
use Rattle.nc_policy.specs.Spans.{is_outside}
use Rattle.nc_policy.proofs.spans.list_spans.Given as goal

-- the lists so far have their spans
abbrev pub invariant-lists : goal.invariant-lists
invariant-lists l = record {
  count : length l.spans.items ≡ l.list-index;
  each : (k : ℕ) (e : PrefixListView) (s : Span) → slice_get (map list_view l.lists) k ≡ Some e → slice_get l.spans.items k ≡ Some s → (p : Cidr) → p.base < 4294967296 → is_outside s p.base ≡ true → permitting_prefix p e.entries ≡ None;
}
