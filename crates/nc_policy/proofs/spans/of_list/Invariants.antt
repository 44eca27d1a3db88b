use Rattle.std.proofs.Common.{◌≡◌, ℕ, ◌<◌, true, false, Some}
use Rattle.std.specs.Prelude.{slice_get}
use Rattle.nc_types.specs.declared.config.ListEntry.{ListEntry}
use Rattle.nc_tables.specs.Base.{covers}
use Rattle.nc_policy.specs.Spans.{is_outside}
use Rattle.nc_policy.proofs.spans.of_list.Given as goal

-- the addresses of the entries so far that permit
abbrev pub invariant-entries : goal.invariant-entries
invariant-entries l = (k : ℕ) (e : ListEntry) → k < l.entry-index → slice_get l.entries k ≡ Some e → e.permit ≡ true → (addr : ℕ) → addr < 4294967296 → covers e.prefix addr ≡ true → is_outside l.span addr ≡ false
