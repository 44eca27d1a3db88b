use Rattle.std.proofs.Common.{◌≡◌, List, [], length, replicate, sym, ap, ◌∙◌, arith}
use Rattle.std.proofs.lemmas.List.{length-map}
use Rattle.nc_types.specs.Config.{ConfigView, config_view}
use Rattle.nc_tables.specs.Rounds.{BgpRowView}
use Rattle.nc_tables.proofs.NoRoutes.{no_routes_is}
use Rattle.nc_round.proofs.rounds.none_chosen.Goals as goal

pub returns-clause-rows : goal.returns-clause-rows
returns-clause-rows c =
    let count : length c.routers.result.now ≡ length c.args.network.now = omega (arith, length-map c.routers.result.now config_view, ap (length {A = ConfigView}) c.routers.ensures.routers) in
    c.in_ok-ribs.ensures.rows ∙ ap (λ n. replicate {A = List BgpRowView} n []) count ∙ sym (no_routes_is c.args.network.now)
