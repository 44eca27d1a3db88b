use Rattle.std.proofs.Common.{◌≡◌, List, Vec, Global, All, length, map, sym, ap, subst, ◌∙◌, arith}
use Rattle.std.proofs.lemmas.List.{length-map, map_push}
use Rattle.std.proofs.lemmas.List.Elements.{All-push}
use Rattle.nc_tables.specs.declared.bgp.BgpRow.{BgpRow}
use Rattle.nc_tables.specs.Rounds.{BgpRowView, bgp_row_view, AreBgpRows}
use Rattle.nc_round.proofs.Expanding.{more_own}
use Rattle.nc_round.proofs.expansion.each_own_rows.Goals as goal

abbrev view : Vec BgpRow Global → List BgpRowView
view rows = map bgp_row_view rows.items

pub routers-preserved : goal.routers-preserved
routers-preserved c =
    let made = c.routers.own.items in
    let rows = c.in_ok-rows.rows in
    record {
      count = omega (arith, c.in_ok-push.ensures.len, c.routers.invariant.count);
      valid = subst (All (λ (r : Vec BgpRow Global). AreBgpRows (view r))) (sym c.in_ok-push.ensures.items) (All-push (λ (r : Vec BgpRow Global). AreBgpRows (view r)) made rows c.routers.invariant.valid c.in_ok-rows.ensures.valid);
      own = more_own c.args.inputs.now.network.now c.args.likeness.now c.args.ribs.now.rows c.routers.router (map view made) (map view c.push.new.self.items) (view rows) (length-map made view ∙ c.routers.invariant.count)
          (ap (map view) c.in_ok-push.ensures.items ∙ map_push view made rows) c.in_ok-rows.ensures.own c.routers.invariant.own;
    }
