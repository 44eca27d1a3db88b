use Rattle.std.proofs.Common.{◌≡◌, ◌++◌, [], All, drop, slice_index_or, take}
use Rattle.nc_types.specs.Cidr.{Cidr, IsCidr}
use Rattle.nc_types.proofs.Members.{In}
use Rattle.nc_tables.specs.Base.{prefix_cmp}
use Rattle.nc_tables.specs.Main.{main_rows_at, main_table}
use Rattle.nc_tables.proofs.SideBySide.{prefix_total}
use Rattle.nc_base_rib.proofs.Members.{Ascends}
use Rattle.nc_main_rib.specs.Sides.{ArePassed}
use Rattle.nc_main_rib.proofs.Alone.{left_of}
use Rattle.nc_main_rib.proofs.Passing.{AreLeft}
use Rattle.nc_main_rib.proofs.tables.main_table.Given as goal

abbrev pub invariant-prefixes : goal.invariant-prefixes
invariant-prefixes l = record {
  -- the rows so far, and those of the prefixes and the BGP rows that are left, are all
  rows : l.main.items ++ left_of (main_rows_at l.network l.base l.bgp l.fn.router.0) (drop l.prefix-index l.prefix-items) l.rows ≡ main_table l.network l.base l.bgp l.fn.router.0;
  valid : All (λ (p : Cidr). IsCidr p.base p.len) (take l.prefix-index l.prefix-items);
  -- the prefixes that are left are in order, and the base rows that were passed are no later than each
  left : Ascends prefix_cmp prefix_total (drop l.prefix-index l.prefix-items);
  base : (p : Cidr) → In p (drop l.prefix-index l.prefix-items) → ArePassed l.base_rows l.passed p;
  -- the BGP rows that are left are those of later prefixes than were passed
  bgp : AreLeft (slice_index_or l.bgp l.fn.router.0 []) l.rows l.prefix-items (drop l.prefix-index l.prefix-items);
}
