use Rattle.std.proofs.Common.{◌≡◌, ◌<◌, ℕ, get_or, length}
use Rattle.nc_types.specs.declared.config.ListEntry.{ListEntry}
use Rattle.nc_policy.specs.Indexes.{HasCidr, HasLength}
use Rattle.nc_policy.proofs.index.lengths_of.Given as goal

-- the lengths of the entries so far are noted
abbrev pub invariant-entries : goal.invariant-entries
invariant-entries l = record {
  count : length l.lengths ≡ 33;
  lengths : (k : ℕ) (d : ListEntry) → k < l.entry-index → HasLength l.lengths (get_or l.entries k d).prefix.len;
  valid : (k : ℕ) (d : ListEntry) → k < l.entry-index → HasCidr (get_or l.entries k d);
}
