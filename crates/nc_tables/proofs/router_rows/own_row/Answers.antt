use Rattle.std.proofs.Common.{Some, get_or, length, refl, sym, ap, ◌∙◌}
use Rattle.std.proofs.lemmas.List.{get_or_read_under}
use Rattle.nc_tables.specs.Base.{prefix_cmp}
use Rattle.nc_tables.specs.Rounds.{bgp_row_view}
use Rattle.nc_tables.specs.declared.bgp.BgpRow.{BgpRow}
use Rattle.nc_tables.proofs.BgpRows.{found_row, no_row}
use Rattle.nc_tables.proofs.InOrder.{equal_is}
use Rattle.nc_tables.proofs.RowPlaces.{first_above}
use Rattle.nc_tables.proofs.router_rows.own_row.Goals as goal

pub returns-in-Greater : goal.returns-in-Greater
returns-in-Greater c =
    let own = c.args.own.now in
    sym (no_row c.args.prefix own 0 (first_above own c.requires c.args.prefix (λ d. ap (λ (row : BgpRow). prefix_cmp row.prefix c.args.prefix) (sym (c.in_ok-first.ensures.item.3.1 d)) ∙ sym c.in-Greater.ensures)))

pub returns-in-Ok : goal.returns-in-Ok
returns-in-Ok c =
    let rows = c.args.own.now in
    let d = c.index-own-place.result in
    ap (λ (row : BgpRow). Some (bgp_row_view row)) (get_or_read_under rows c.in-Ok.place (length rows) d d c.index-own-place.is c.in-Ok.ensures.bound refl)
    ∙ sym (found_row c.args.prefix rows c.in-Ok.place d c.requires c.in-Ok.ensures.bound (equal_is (get_or rows c.in-Ok.place d).prefix c.args.prefix (c.in-Ok.ensures.found d)))

pub returns-in-Err : goal.returns-in-Err
returns-in-Err c = sym (no_row c.args.prefix c.args.own.now c.in-Err.field-0 c.in-Err.ensures.parts)
