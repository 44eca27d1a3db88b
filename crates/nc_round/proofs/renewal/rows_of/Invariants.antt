use Rattle.std.proofs.Common.{◌≡◌, ◌++◌, ℕ, List, All, map, drop}
use Rattle.nc_types.specs.Cidr.{Cidr}
use Rattle.nc_round.specs.Renewing.{row_change, IsLocRibChange}
use Rattle.nc_round.specs.Rows.{row_key, AreRows}
use Rattle.nc_round.proofs.renewal.rows_of.Given as goal

abbrev pub invariant-changes : goal.invariant-changes
invariant-changes l = record {
  -- the rows so far and those of what is left are all
  keys : map row_key l.rows.items ++ map (λ n. (row_change n).key) (drop l.new-index l.changes) ≡ map (λ n. (row_change n).key) l.changes;
  numbers : (count : ℕ) (prefixes : List Cidr) → All (IsLocRibChange count prefixes) l.changes → AreRows prefixes l.rows.items;
}
