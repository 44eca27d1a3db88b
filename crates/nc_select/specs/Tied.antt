-- Which of two candidates is preferred, where they tie up to the lengths of their paths.
use Rattle.std.specs.declared.cmp.Ordering.{Ordering}
use Rattle.std.specs.Ordering.{nat_cmp, ordering_then}
use Rattle.nc_tables.specs.declared.bgp.Chosen.{Chosen}
use Rattle.nc_tables.specs.Choice.{origin_rank, internal_rank}

abbrev pub tied_cmp : Chosen → Chosen → Ordering
tied_cmp a b =
    ordering_then (nat_cmp (origin_rank a.route.origin) (origin_rank b.route.origin))
    (ordering_then (nat_cmp a.route.metric b.route.metric)
    (ordering_then (nat_cmp (internal_rank a.internal) (internal_rank b.internal))
    (ordering_then (nat_cmp a.sender_id.0 b.sender_id.0) (nat_cmp a.sender.0 b.sender.0))))
