use Rattle.std.proofs.Common.{ℕ, Option, length, sym, ap, subst, arith}
use Rattle.std.specs.Global.{Vec}
use Rattle.std.proofs.lemmas.List.{length_push}
use Rattle.nc_message.specs.declared.adjacencies.Sender.{Sender}
use Rattle.std.proofs.lemmas.List.{length-map}
use Rattle.nc_types.specs.Config.{ConfigView, config_view}
use Rattle.nc_message.specs.Adjacencies.{AreOfSessions, AreSenders}
use Rattle.nc_message.proofs.Ends.{all_known, all_senders, numbered}
use Rattle.nc_message.proofs.adjacencies.Adjacencies.new.Goals as goal

pub routers-preserved : goal.routers-preserved
routers-preserved c =
    let before = c.routers.routers.items in
    let row : Vec (Option Sender) = c.in_ok-senders_to.field-0 in
    let P : ℕ → Vec (Option Sender) → Type 0 = λ k r. AreSenders c.args.network.now c.args.base.now c.args.sessions.now k r.items in
    let Q : ℕ → Vec (Option Sender) → Type 0 = λ k r. AreOfSessions c.args.network.now c.args.sessions.now k r.items in
    let items = c.in_ok-push.ensures.items in
    record {
      count = omega (arith, ap (length {A = Vec (Option Sender)}) items, length_push before row, c.routers.invariant.count);
      each = numbered P before c.push.new.self.items row items c.routers.invariant.each (subst (λ (n : ℕ). P n row) (sym c.routers.invariant.count) c.in_ok-senders_to.ensures.senders);
      all = numbered Q before c.push.new.self.items row items c.routers.invariant.all (subst (λ (n : ℕ). Q n row) (sym c.routers.invariant.count) c.in_ok-senders_to.ensures.all);
    }

pub returns-clause-so : goal.returns-clause-so
returns-clause-so c =
    all_senders c.args.network.now c.args.base.now c.args.sessions.now c.routers.routers.items c.routers.invariant.each

pub returns-clause-all : goal.returns-clause-all
returns-clause-all c =
    all_known c.args.network.now c.args.sessions.now c.routers.routers.items
    (omega (arith, c.routers.invariant.count, length-map c.routers-count.result.now config_view, ap (length {A = ConfigView}) c.routers-count.ensures.routers)) c.routers.invariant.all
