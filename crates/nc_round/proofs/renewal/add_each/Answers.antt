use Rattle.std.proofs.Common.{◌+◌, ◌<◌, ◌++◌, List, length, map, drop, sym, ap, subst, arith}
use Rattle.std.specs.List.{filter_map}
use Rattle.nc_types.proofs.Walks.{drop_read}
use Rattle.nc_tables.specs.declared.ribs.Numbered.{Numbered}
use Rattle.nc_tables.specs.LocRibs.{IsNumbered}
use Rattle.nc_round.specs.Keys.{Key}
use Rattle.nc_round.specs.Rows.{numbered_row, row_key}
use Rattle.nc_round.specs.Renewing.{row_change, change_at}
use Rattle.nc_round.proofs.Renewed.{one_more}
use Rattle.nc_round.proofs.renewal.add_each.Goals as goal

pub add_of-requires-clause-number : goal.add_of-requires-clause-number
add_of-requires-clause-number c =
    subst (IsNumbered c.args.ribs.now.prefixes) (sym c.of-item.is) (c.requires.numbers c.noted.of-index c.of-item.result (omega arith))

pub noted-preserved : goal.noted-preserved
noted-preserved c =
    let noted = c.args.noted.now in
    let k = c.noted.of-index in
    let of : Numbered = c.of-item.result in
    let lt : k < length noted = omega arith in
    let keys : List Numbered → List Key = λ ns. map row_key (map (numbered_row c.args.router) ns) in
    let f = change_at c.args.inputs c.args.ribs.now.rows in
    record {
      rows = one_more f (row_key (numbered_row c.args.router of)) (keys (drop k noted)) (keys (drop (k + 1) noted)) (map row_change c.noted.changes.items) (map row_change c.add_of.new.changes.items) (map row_change c.args.changes.now.items ++ filter_map f (keys noted))
          (ap keys (drop_read noted k of c.of-item.is lt)) c.in_ok-add_of.ensures.rows c.noted.invariant.rows;
      changes = c.add_of.ensures.changes;
    }
