use Rattle.std.proofs.Common.{◌≡◌, [], length, map, sym, ◌∙◌, ap, arith, inl, inr}
use Rattle.std.proofs.lemmas.Bool.{cases_lt}
use Rattle.std.proofs.lemmas.List.{get_or_past, length-map}
use Rattle.std.specs.Global.{Vec}
use Rattle.nc_types.specs.Config.{config_view}
use Rattle.nc_types.specs.declared.config.RouterId.{RouterId}
use Rattle.nc_underlay.specs.Distances.{nexts_view}
use Rattle.nc_underlay.proofs.Nexts.{no_nexts}
use Rattle.nc_underlay.proofs.toward.Toward.new.Goals as goal

pub returns : goal.returns
returns c =
    let size : length c.routers-count.result.now ≡ length c.args.network.now = sym (length-map c.routers-count.result.now config_view) ∙ ap (λ cs. length cs) c.routers-count.ensures.routers in
    record {
      owner = c.owner_of-owner.ensures;
      nexts = λ r. elim (cases_lt r c.routers.router) [
        | inl lt ↦ c.routers.invariant.made r lt
        | inr le ↦
            let count = length-map c.routers.nexts.items (λ (found : Vec RouterId). map (λ (next : RouterId). next.0) found.items) in
            get_or_past (nexts_view c.routers.nexts.items) r [] (omega (arith, count, c.routers.invariant.count, le))
            ∙ sym (no_nexts c.args.network.now c.args.base.now c.args.addr.0 r (omega (arith, size, c.requires, le, c.routers-test.false)))
      ];
      count = c.routers.invariant.count ∙ omega (arith, size, c.routers-test.false, c.routers.auto.router-end);
    }
