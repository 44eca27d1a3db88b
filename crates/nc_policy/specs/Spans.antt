-- Between which addresses prefix lists and clauses permit.
use Rattle.std.specs.Prelude.{◌≡◌, ℕ, ◌<◌, Bool, true, ◌||◌, nat_lt, nat_le, List, length, Some, None, slice_get}
use Rattle.nc_types.specs.Cidr.{Cidr}
use Rattle.nc_types.specs.Config.{ClauseView, ConfigView, PrefixListView}
use Rattle.nc_tables.specs.Policy.{met, permitting_prefix, prefix_place}
use Rattle.nc_policy.specs.declared.spans.Span.{Span}

-- an address isn't among those of a span
abbrev pub is_outside : Span → ℕ → Bool
is_outside s addr = nat_lt addr s.low || nat_le s.end addr

-- what isn't in the span of a prefix list isn't permitted by it
pub record AreListSpans (lists : List PrefixListView) (spans : List Span) : Type 0 where
  pub count : length spans ≡ length lists
  pub each : (k : ℕ) (l : PrefixListView) (s : Span) → slice_get lists k ≡ Some l → slice_get spans k ≡ Some s → (p : Cidr) → p.base < 4294967296 → is_outside s p.base ≡ true → permitting_prefix p l.entries ≡ None

-- what isn't in the span of a clause isn't matched by it
pub record AreSpans (c : ConfigView) (spans : List Span) : Type 0 where
  pub each : (k : ℕ) (clause : ClauseView) (s : Span) → slice_get c.clauses k ≡ Some clause → slice_get spans k ≡ Some s → (p : Cidr) → p.base < 4294967296 → is_outside s p.base ≡ true → met (prefix_place c p) clause.lists ≡ None
