use Rattle.std.proofs.Common.{◌≤◌, ◌++◌, List, All, length, append_assoc, sym, ap, subst, ◌∙◌}
use Rattle.std.proofs.lemmas.List.Elements.{All-tail}
use Rattle.nc_types.specs.declared.TheConstants.{MULTIPATH_LIMIT}
use Rattle.nc_tables.specs.declared.bgp.MainRow.{MainRow}
use Rattle.nc_tables.specs.Main.{learnt_rows}
use Rattle.nc_tables.specs.Rounds.{BgpRowView}
use Rattle.nc_tables.specs.SpreadView.{row_view}
use Rattle.nc_main_rib.specs.Sides.{learnt_of}
use Rattle.nc_main_rib.proofs.rows.add_alone.Goals as goal

pub rows-preserved : goal.rows-preserved
rows-preserved c =
    let row = row_view c.in-Some.row in
    let left = c.next_row.new.self in
    let before = c.rows.main.items in
    let few = λ (r : BgpRowView). length r.chosen ≤ MULTIPATH_LIMIT in
    record {
      rows =
          ap (λ (l : List MainRow). l ++ learnt_of left) c.in_ok-add_chosen.ensures
          ∙ append_assoc before (learnt_rows row.prefix row.chosen) (learnt_of left)
          ∙ ap (λ (l : List BgpRowView). before ++ learnt_of l) (sym c.in-Some.ensures.some)
          ∙ c.rows.invariant.rows;
      few = All-tail few row left (subst (λ (l : List BgpRowView). All few l) c.in-Some.ensures.some c.rows.invariant.few);
    }
