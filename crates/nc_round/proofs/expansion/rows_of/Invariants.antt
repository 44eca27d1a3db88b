use Rattle.std.proofs.Common.{◌≡◌, ◌++◌, ◌+◌, ◌<◌, ℕ, length, map, drop, get_or}
use Rattle.std.specs.Vec.Iter.{into_iter_items, into_iter_len}
use Rattle.nc_types.specs.Cidr.{Cidr, IsCidr}
use Rattle.nc_tables.specs.LocRibs.{rows_by}
use Rattle.nc_tables.specs.Rounds.{bgp_row_view}
use Rattle.nc_round.proofs.expansion.rows_of.Given as goal

abbrev pub invariant-prefixes : goal.invariant-prefixes
invariant-prefixes l = record {
  -- a choice for each prefix that is left
  count : l.prefix-index + into_iter_len l.left ≡ length l.prefixes;
  -- the rows so far, and those of the prefixes that are left, are all
  rows : map bgp_row_view l.rows.items ++ rows_by (drop l.prefix-index l.prefixes) (into_iter_items l.left) ≡ rows_by l.prefixes l.fn.choices.items;
  valid : (k : ℕ) (d : Cidr) → k < l.prefix-index → IsCidr (get_or l.prefixes k d).base (get_or l.prefixes k d).len;
}
