-- The order of base rows.
use Rattle.std.proofs.Common.{◌≡◌, ◌+◌, false, List, get_or, refl}
use Rattle.std.specs.List.Sorted.{IsSorted, IsSortedByKey}
use Rattle.std.specs.Cmp.{IsTotalOrder}
use Rattle.std.specs.declared.cmp.Ordering.{Ordering}
use Rattle.std.specs.declared.cmp.Ordering.TheVariants.{Less, Equal, Greater}
use Rattle.std.specs.Ordering.{ordering_then, is_lt}
use Rattle.std.proofs.lemmas.Cmp.{nat_cmp_total, on_total, then_total}
use Rattle.nc_tables.specs.declared.base.BaseRow.{BaseRow}
use Rattle.nc_tables.specs.declared.base.BaseFrom.{BaseFrom}
use Rattle.nc_tables.specs.Base.{prefix_cmp, rank_of, from_cmp, row_cmp, AreRows}
use Rattle.nc_tables.specs.Longest.{AreByPrefix}
use Rattle.nc_tables.proofs.SideBySide.{prefix_total}

pub from_total : IsTotalOrder from_cmp
from_total = then_total (on_total (λ (a : BaseFrom). (rank_of a).0) nat_cmp_total) (on_total (λ (a : BaseFrom). (rank_of a).1) nat_cmp_total)

pub row_total : IsTotalOrder row_cmp
row_total = then_total (on_total (λ (r : BaseRow). r.prefix) prefix_total) (on_total (λ (r : BaseRow). r.from) from_total)

first_below : (o x : Ordering) → is_lt (ordering_then o x) ≡ false → is_lt o ≡ false
first_below Less x e = e
first_below Equal x e = refl
first_below Greater x e = refl

-- rows in order are in order of their prefixes
pub by_prefix : (rows : List BaseRow) → IsSorted row_cmp rows → IsSortedByKey (λ (row : BaseRow). row.prefix) prefix_cmp rows
by_prefix rows ordered k d lo hi = first_below (prefix_cmp (get_or rows (k + 1) d).prefix (get_or rows k d).prefix) _ (ordered k d lo hi)

pub rows_by_prefix : (rows : List BaseRow) → AreRows rows → AreByPrefix (λ (row : BaseRow). row.prefix) rows
rows_by_prefix rows are = record { ordered = by_prefix rows are.ordered; valid = are.valid }
