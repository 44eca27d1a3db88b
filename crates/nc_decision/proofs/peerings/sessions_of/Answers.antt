use Rattle.std.proofs.Common.{ℕ, Option, length, sym, ap, subst, arith}
use Rattle.std.proofs.lemmas.List.{length_push}
use Rattle.nc_types.specs.declared.config.Neighbor.{Neighbor}
use Rattle.nc_decision.specs.declared.peerings.Peering.{Peering}
use Rattle.nc_decision.specs.Peerings.{IsPeeringAt}
use Rattle.nc_message.proofs.Ends.{numbered}
use Rattle.nc_decision.proofs.peerings.sessions_of.Goals as goal

pub places-preserved : goal.places-preserved
places-preserved c =
    let i = c.args.inputs.now in
    let before = c.places.sessions.items in
    let o : Option Peering = c.peering_of.result in
    let P : ℕ → Option Peering → Type 0 = IsPeeringAt i.network.now i.base.now i.sessions.now c.args.router.0 in
    let items = c.in_ok-push.ensures.items in
    record {
      count = omega (arith, ap (length {A = Option Peering}) items, length_push before o, c.places.invariant.count);
      each = numbered P before c.push.new.self.items o items c.places.invariant.each (subst (λ (n : ℕ). P n o) (sym c.places.invariant.count) c.peering_of.ensures);
    }

pub returns : goal.returns
returns c = record {
  count = omega (arith, c.places.invariant.count, ap (length {A = Neighbor}) c.statements-count.ensures.statements);
  each = c.places.invariant.each;
}
