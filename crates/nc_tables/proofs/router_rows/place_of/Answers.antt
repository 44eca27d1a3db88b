use Rattle.std.proofs.Common.{◌≡◌, false, slice_index_or, length, refl, ap, sym, ◌∙◌, arith, rules}
use Rattle.std.specs.Ordering.{is_lt}
use Rattle.std.proofs.lemmas.List.{get_or_read_under}
use Rattle.std.proofs.lemmas.List.Sorted.{IsPartitionPoint-from_clause}
use Rattle.nc_tables.specs.declared.bgp.BgpRow.{BgpRow}
use Rattle.nc_types.specs.Cidr.{Cidr}
use Rattle.nc_tables.specs.Base.{prefix_cmp, same_prefix}
use Rattle.nc_tables.proofs.ByPrefix.{same_itself}
use Rattle.nc_tables.proofs.BgpRows.{by_prefix}
use Rattle.nc_tables.proofs.InOrder.{equal_is}
use Rattle.nc_tables.proofs.SideBySide.{rises, below_first}
use Rattle.nc_tables.proofs.RowPlaces.{parted}
use Rattle.nc_tables.proofs.router_rows.place_of.Goals as goal

pub returns-then-place-rows-clause-parts : goal.returns-then-place-rows-clause-parts
returns-then-place-rows-clause-parts c =
    parted c.args.rows.now c.requires c.args.prefix c.partition_point-place.result
    (IsPartitionPoint-from_clause (λ (row : BgpRow). is_lt (prefix_cmp row.prefix c.args.prefix)) c.args.rows.now c.partition_point-place.result c.partition_point-place.ensures.partitioned
    (below_first (λ (row : BgpRow). row.prefix) c.args.rows.now (rises (λ (row : BgpRow). row.prefix) c.args.rows.now (by_prefix c.args.rows.now c.requires)) c.args.prefix) (λ a r q k. search rules))
    (λ d lt equal. absurd (omega (arith, c.if-place-rows.true)))

pub returns-clause-parts : goal.returns-clause-parts
returns-clause-parts c =
    parted c.args.rows.now c.requires c.args.prefix c.partition_point-place.result
    (IsPartitionPoint-from_clause (λ (row : BgpRow). is_lt (prefix_cmp row.prefix c.args.prefix)) c.args.rows.now c.partition_point-place.result c.partition_point-place.ensures.partitioned
    (below_first (λ (row : BgpRow). row.prefix) c.args.rows.now (rises (λ (row : BgpRow). row.prefix) c.args.rows.now (by_prefix c.args.rows.now c.requires)) c.args.prefix) (λ a r q k. search rules))
    (λ d lt equal.
    let row = c.index-rows-place.result in
    let here : row ≡ slice_index_or c.args.rows.now c.partition_point-place.result d = get_or_read_under c.args.rows.now c.partition_point-place.result (length c.args.rows.now) row d c.index-rows-place.is lt refl in
    let is : row.prefix ≡ c.args.prefix = ap (λ (r : BgpRow). r.prefix) here ∙ equal_is (slice_index_or c.args.rows.now c.partition_point-place.result d).prefix c.args.prefix equal in
    let same : false ≡ same_prefix row.prefix c.args.prefix = search rules in
    absurd (cc (same, ap (λ (p : Cidr). same_prefix row.prefix p) (sym is), same_itself row.prefix)))
