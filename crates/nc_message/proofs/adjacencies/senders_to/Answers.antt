use Rattle.std.proofs.Common.{◌≡◌, ℕ, Option, sym, subst}
use Rattle.std.specs.Prelude.{is_some}
use Rattle.nc_types.specs.declared.config.Neighbor.{Neighbor}
use Rattle.nc_tables.specs.Rounds.{link_at}
use Rattle.nc_message.specs.declared.adjacencies.Sender.{Sender}
use Rattle.nc_message.specs.Adjacencies.{IsSenderAt}
use Rattle.nc_message.proofs.Ends.{numbered}
use Rattle.std.proofs.Common.{length, ap, arith}
use Rattle.std.proofs.lemmas.List.{length_push}
use Rattle.nc_message.proofs.adjacencies.senders_to.Goals as goal

pub places-preserved : goal.places-preserved
places-preserved c =
    let router = c.args.router.0 in
    let before = c.places.row.items in
    let o : Option Sender = c.sender_at.result in
    let P : ℕ → Option Sender → Type 0 = IsSenderAt c.args.network.now c.args.base.now c.args.sessions.now router in
    let Q : ℕ → Option Sender → Type 0 = λ k p. is_some p ≡ is_some (link_at c.args.network.now c.args.sessions.now router k) in
    let items = c.in_ok-push.ensures.items in
    record {
      count = omega (arith, ap (length {A = Option Sender}) items, length_push before o, c.places.invariant.count);
      each = numbered P before c.push.new.self.items o items c.places.invariant.each (subst (λ (n : ℕ). P n o) (sym c.places.invariant.count) c.sender_at.ensures.sender);
      known = numbered Q before c.push.new.self.items o items c.places.invariant.known (subst (λ (n : ℕ). Q n o) (sym c.places.invariant.count) c.sender_at.ensures.known);
    }

pub returns-clause-all : goal.returns-clause-all
returns-clause-all c = record {
  count = omega (arith, c.places.invariant.count, ap (length {A = Neighbor}) c.statements-count.ensures.statements);
  known = c.places.invariant.known;
}
