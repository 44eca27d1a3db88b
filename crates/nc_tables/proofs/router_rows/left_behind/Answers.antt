use Rattle.std.proofs.Common.{◌≡◌, ◌+◌, ◌-◌, ◌<◌, Some, drop, get_or, length, map, slice_get, subst, arith}
use Rattle.std.proofs.lemmas.Option.{slice_get-get_or}
use Rattle.nc_tables.specs.Rounds.{bgp_row_view}
use Rattle.nc_tables.specs.OwnRows.{HaveSameRows}
use Rattle.nc_tables.proofs.Spread.{behind_one}
use Rattle.nc_tables.proofs.router_rows.left_behind.Goals as goal

pub returns-clause-same : goal.returns-clause-same
returns-clause-same c =
    let ps = c.args.spread.prefixes.now in
    let last = c.args.count - 1 in
    let q = get_or ps last c.index-spread-count.result in
    let next : last + 1 ≡ c.args.count = omega (arith, c.if-count-eq0.false) in
    let lt : last < length ps = omega (arith, c.requires.count, c.if-count-eq0.false) in
    let there : slice_get ps last ≡ Some q = slice_get-get_or ps last c.index-spread-count.result lt in
    subst (λ (k : _). HaveSameRows (drop k ps) (map bgp_row_view c.own_behind.result.now) (map bgp_row_view c.args.spread.own.now)) next
    (c.own_behind.ensures.same (drop (last + 1) ps) (behind_one ps last q c.requires.spread.0.ordered there))
