use Rattle.std.proofs.Common.{ℕ, length, sym, ap, subst, arith}
use Rattle.std.proofs.lemmas.List.{length-map, length_push}
use Rattle.nc_types.specs.Config.{ConfigView, config_view}
use Rattle.nc_decision.specs.Peerings.{ArePeerings, RouterPeerings}
use Rattle.nc_message.proofs.Ends.{numbered}
use Rattle.nc_decision.proofs.peerings.NetworkPeerings.of.Goals as goal

pub of-requires-clause-router : goal.of-requires-clause-router
of-requires-clause-router c = omega (arith, length-map c.routers-count.result.now config_view, ap (length {A = ConfigView}) c.routers-count.ensures.routers)

pub routers-preserved : goal.routers-preserved
routers-preserved c =
    let i = c.args.inputs.now in
    let before = c.routers.routers.items in
    let p : RouterPeerings = c.in_ok-peerings.peerings in
    let P : ℕ → RouterPeerings → Type 0 = ArePeerings i.network.now i.base.now i.sessions.now in
    let items = c.in_ok-push.ensures.items in
    record {
      count = omega (arith, ap (length {A = RouterPeerings}) items, length_push before p, c.routers.invariant.count);
      each = numbered P before c.push.new.self.items p items c.routers.invariant.each (subst (λ (n : ℕ). P n p) (sym c.routers.invariant.count) c.in_ok-peerings.ensures);
    }

pub returns : goal.returns
returns c = record {
  count = omega (arith, c.routers.invariant.count, length-map c.routers-count.result.now config_view, ap (length {A = ConfigView}) c.routers-count.ensures.routers);
  each = c.routers.invariant.each;
}
