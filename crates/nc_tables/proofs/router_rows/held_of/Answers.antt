use Rattle.std.proofs.Common.{[], Option, length, get_or, refl, ap, ◌∙◌}
use Rattle.std.specs.Option.{option_map_or}
use Rattle.std.proofs.lemmas.List.{get_or_read_under}
use Rattle.nc_tables.specs.Rounds.{BgpRowView}
use Rattle.nc_tables.proofs.router_rows.held_of.Goals as goal

pub returns-in-Some : goal.returns-in-Some
returns-in-Some c =
    let others = get_or c.args.standing.now c.args.place [] in
    ap (λ (o : Option BgpRowView). option_map_or (λ (row : BgpRowView). row.chosen) o others) c.in-Some.ensures

pub returns-in-None : goal.returns-in-None
returns-in-None c =
    let others = get_or c.args.standing.now c.args.place [] in
    get_or_read_under c.args.standing.now c.args.place (length c.args.standing.now) c.index-standing-place.result [] c.index-standing-place.is c.requires.place refl
    ∙ ap (λ (o : Option BgpRowView). option_map_or (λ (row : BgpRowView). row.chosen) o others) c.in-None.ensures
