-- The order of rows by prefix, then by distance.
use Rattle.std.specs.Ordering.{nat_cmp, ordering_then}
use Rattle.std.specs.declared.cmp.Ordering.{Ordering}
use Rattle.nc_tables.specs.declared.base.BaseRow.{BaseRow}

-- rows go by address and length of their prefix, then by distance
abbrev pub distance_cmp : BaseRow → BaseRow → Ordering
distance_cmp a b =
    ordering_then (nat_cmp a.prefix.base b.prefix.base) (ordering_then (nat_cmp a.prefix.len b.prefix.len) (nat_cmp a.distance b.distance))
