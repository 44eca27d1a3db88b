use Rattle.std.proofs.Common.{◌≡◌, ◌++◌, ◌≤◌, List, All, length, take, sym, ap, ◌∙◌, append_assoc, arith}
use Rattle.std.specs.List.{flat_map}
use Rattle.std.proofs.lemmas.Grind.{common_steps}
use Rattle.std.proofs.lemmas.List.Elements.{All-rest}
use Rattle.nc_types.specs.declared.TheConstants.{MULTIPATH_LIMIT}
use Rattle.nc_tables.specs.Rounds.{BgpRowView}
use Rattle.nc_tables.specs.SpreadView.{row_view}
use Rattle.nc_fact.specs.declared.fact.Fact.{Fact}
use Rattle.nc_rules_route.specs.Parents.{each_chosen}
use Rattle.nc_rules_route.proofs.begun.push_rows.Goals as goal

pub rows-preserved : goal.rows-preserved
rows-preserved c =
    let row : BgpRowView = row_view c.in-Some.row in
    let left = c.next_row.new.self in
    let before = c.rows.into.items in
    let each = each_chosen c.args.router in
    record {
      rest = ap (λ (fs : List Fact). fs ++ flat_map each left) c.in_ok-push_row.ensures.ok ∙ append_assoc before (each row) (flat_map each left)
          ∙ ap (λ (rows : List BgpRowView). before ++ flat_map each rows) (sym c.in-Some.ensures.some) ∙ c.rows.invariant.rest;
      front = grind (arith, common_steps);
      few = All-rest (λ (r : BgpRowView). length r.chosen ≤ MULTIPATH_LIMIT) row left c.rows.rows c.in-Some.ensures.some c.rows.invariant.few;
    }
