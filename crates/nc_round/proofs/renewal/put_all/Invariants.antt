use Rattle.std.proofs.Common.{◌≡◌, ℕ, List, All, length, map}
use Rattle.nc_types.specs.Cidr.{Cidr}
use Rattle.nc_tables.specs.declared.bgp.Chosen.{Chosen}
use Rattle.nc_round.specs.Renewing.{row_change, IsLocRibChange, IsCompletedBy}
use Rattle.nc_round.proofs.renewal.put_all.Given as goal

abbrev pub invariant-changes : goal.invariant-changes
invariant-changes l = record {
  prefixes : l.ribs.prefixes ≡ l.fn.ribs.prefixes;
  count : length l.ribs.rows ≡ length l.fn.ribs.rows;
  changes : All (IsLocRibChange (length l.fn.ribs.rows) l.fn.ribs.prefixes) l.changes.items;
  -- what is left to be put leads where all did
  leads : (target : ℕ → Cidr → List Chosen) → IsCompletedBy target l.fn.ribs.rows (map row_change l.fn.changes.items) → IsCompletedBy target l.ribs.rows (map row_change l.changes.items);
}

abbrev pub decreases-changes : goal.decreases-changes
decreases-changes l = length l.changes.items
