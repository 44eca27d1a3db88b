use Rattle.std.proofs.Common.{List, map, subst, sym}
use Rattle.std.proofs.lemmas.List.{drop-map, take_rest}
use Rattle.nc_tables.specs.declared.bgp.BgpRow.{BgpRow}
use Rattle.nc_tables.specs.Rounds.{bgp_row_view, AreBgpRows}
use Rattle.nc_tables.specs.OwnRows.{HaveSameRows}
use Rattle.nc_tables.proofs.OwnRows.{rows_left, same_left}
use Rattle.nc_tables.proofs.router_rows.own_behind.Goals as goal

pub returns-clause-valid : goal.returns-clause-valid
returns-clause-valid c =
    let rows = c.args.own.now in
    let n = c.count_upto.result in
    subst (λ (l : List BgpRow). AreBgpRows (map bgp_row_view l)) (sym (take_rest rows n))
    (subst AreBgpRows (drop-map bgp_row_view n rows) (rows_left n (map bgp_row_view rows) c.requires))

pub returns-clause-same : goal.returns-clause-same
returns-clause-same c =
    let rows = c.args.own.now in
    let n = c.count_upto.result in
    λ ps above. subst (λ (l : List BgpRow). HaveSameRows ps (map bgp_row_view l) (map bgp_row_view rows)) (sym (take_rest rows n))
    (same_left c.args.prefix n rows ps c.count_upto.ensures.upto above)
