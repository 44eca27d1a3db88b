use Rattle.std.proofs.Common.{◌≤◌, All, filter, length, sym, subst}
use Rattle.nc_types.specs.declared.TheConstants.{MULTIPATH_LIMIT}
use Rattle.nc_types.proofs.Members.{in_by_filter, all_in, all_by_in}
use Rattle.nc_tables.specs.Rounds.{BgpRowView, is_longer_in}
use Rattle.nc_rules_route.proofs.begun.push_inside.Goals as goal

pub push_rows-requires : goal.push_rows-requires
push_rows-requires c =
    let few = λ (row : BgpRowView). length row.chosen ≤ MULTIPATH_LIMIT in
    let inside = λ (row : BgpRowView). is_longer_in row.prefix c.args.outer in
    let rows = c.in-Some.rows in
    subst (All few) (sym c.inside.ensures) (all_by_in few (filter inside rows) (λ row i. all_in few rows c.in-Some.ensures.valid.few row (in_by_filter inside rows row i).0))
