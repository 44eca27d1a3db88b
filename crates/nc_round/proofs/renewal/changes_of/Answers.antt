use Rattle.std.proofs.Common.{ℕ, ◌+◌, ◌<◌, length, map, drop, sym, ap, subst, arith}
use Rattle.std.specs.List.{filter_map}
use Rattle.nc_types.proofs.Walks.{drop_read}
use Rattle.nc_tables.specs.LocRibs.{IsNumbered}
use Rattle.nc_round.specs.declared.changed.NumberedRow.{NumberedRow}
use Rattle.nc_round.specs.Rows.{row_key}
use Rattle.nc_round.proofs.Renewed.{one_more}
use Rattle.nc_round.proofs.NumberedRows.{all_under}
use Rattle.nc_round.specs.Renewing.{row_change, change_at}
use Rattle.nc_round.proofs.renewal.changes_of.Goals as goal

-- the item at a place is of a router of the network
abbrev of_network : ℕ → NumberedRow → Type 0
of_network count r = r.router.0 < count

pub get-peerings-requires : goal.get-peerings-requires
get-peerings-requires c =
    let rows = c.args.rows.now in
    let count = length c.args.inputs.network.now in
    let lt : c.rows.row-index < length rows = omega arith in
    let within : of_network count c.row-item.result = subst (of_network count) (sym c.row-item.is) (all_under row_key count rows c.requires.within c.rows.row-index c.row-item.result lt) in
    omega (arith, within, c.requires.all.count)

pub add_of-requires-clause-router : goal.add_of-requires-clause-router
add_of-requires-clause-router c =
    let rows = c.args.rows.now in
    let count = length c.args.inputs.network.now in
    subst (of_network count) (sym c.row-item.is) (all_under row_key count rows c.requires.within c.rows.row-index c.row-item.result (omega arith))

pub add_of-requires-clause-number : goal.add_of-requires-clause-number
add_of-requires-clause-number c =
    let numbered : NumberedRow → Type 0 = λ r. IsNumbered c.args.ribs.now.prefixes r.of in
    subst numbered (sym c.row-item.is) (c.requires.numbers c.rows.row-index c.row-item.result (omega arith))

pub add_of-requires-clause-peerings : goal.add_of-requires-clause-peerings
add_of-requires-clause-peerings c = c.requires.all.each c.row-item.result.router.0 c.get-peerings.result.now c.get-peerings.ensures

pub rows-preserved : goal.rows-preserved
rows-preserved c =
    let rows = c.args.rows.now in
    let k = c.rows.row-index in
    let lt : k < length rows = omega arith in
    record {
      rows = one_more (change_at c.args.inputs c.args.ribs.now.rows) (row_key c.row-item.result) (map row_key (drop k rows)) (map row_key (drop (k + 1) rows)) (map row_change c.rows.changes.items) (map row_change c.add_of.new.changes.items) (filter_map (change_at c.args.inputs c.args.ribs.now.rows) (map row_key rows))
          (ap (map row_key) (drop_read rows k c.row-item.result c.row-item.is lt)) c.in_ok-add_of.ensures.rows c.rows.invariant.rows;
      changes = c.add_of.ensures.changes;
    }
