use Rattle.std.proofs.Common.{◌≡◌, ℕ, List, Option, Some, None, IfSome, sym, subst, ap, ◌∙◌}
use Rattle.std.specs.Option.{option_and_then, option_map}
use Rattle.nc_tables.specs.declared.base.BaseRow.{BaseRow}
use Rattle.nc_tables.specs.declared.bgp.Chosen.{Chosen}
use Rattle.nc_tables.specs.Rounds.{Link, Message, accepted_of, learnt_from, message_of}
use Rattle.nc_tables.specs.Sessions.{router_id}
use Rattle.nc_tables.specs.SpreadView.{route_view}
use Rattle.nc_sessions.specs.Views.{link_view}
use Rattle.nc_message.specs.Adjacencies.{IsSender}
use Rattle.nc_message.specs.declared.adjacencies.Sender.{Sender}
use Rattle.nc_message.proofs.Sending.{message_is}
use Rattle.nc_message.proofs.Holding.{held_not_taken}
use Rattle.nc_decision.specs.declared.peerings.Bare.{Bare}
use Rattle.nc_decision.specs.Bare.{IsBare}
use Rattle.nc_decision.proofs.feasible.feasible_over.Goals as goal

-- of what is known of a sender, its router id
id_of : (tables : List (List BaseRow)) (router : ℕ) (k : Link) (o : Option Sender) → IfSome o (IsSender tables router k) → IfSome o (λ d. d.id.0 ≡ router_id k.sender.config)
id_of tables router k None known = tt
id_of tables router k (Some d) known = known.id

-- what is learnt of a message by a neighbor statement
abbrev learnt_by : List (List BaseRow) → ℕ → ℕ → Option Message → Option Chosen
learnt_by tables router place o = option_map (learnt_from place) (option_and_then (accepted_of tables router) o)

-- nothing stands on the way
pub returns-in-Some-clause-feasible : goal.returns-in-Some-clause-feasible
returns-in-Some-clause-feasible c =
    let bare = subst (λ (o : Option Bare). IfSome o (IsBare c.args.inputs.now.base.now c.args.router.0 (link_view c.args.peering.now.adjacency.link))) c.in-Some.is c.requires.peering.bare in
    c.feasible_bare.ensures.feasible c.args.inputs.now.base.now c.args.router.0 (link_view c.args.peering.now.adjacency.link) bare

pub returns-then-holds_receiver-clause-feasible : goal.returns-then-holds_receiver-clause-feasible
returns-then-holds_receiver-clause-feasible c =
    let p = c.args.peering.now in
    let k = link_view p.adjacency.link in
    ap (option_map (learnt_from p.place)) (held_not_taken k (route_view c.of-best.result) (sym c.holds_receiver.ensures ∙ c.if-holds_receiver.true) c.args.inputs.now.base.now c.args.router.0)
    ∙ ap (λ (b : Chosen). learnt_by c.args.inputs.now.base.now c.args.router.0 p.place (message_of k b)) c.of-best.ensures

pub passed_into-requires-clause-other : goal.passed_into-requires-clause-other
passed_into-requires-clause-other c = sym c.holds_receiver.ensures ∙ c.if-holds_receiver.false

pub passed_into-requires-clause-feasible : goal.passed_into-requires-clause-feasible
passed_into-requires-clause-feasible c = record { short = c.in_ok-out.ensures.short; few = c.in_ok-out.ensures.few }

pub learnt-requires-clause-taken : goal.learnt-requires-clause-taken
learnt-requires-clause-taken c = record {
  feasible = record { short = c.in_ok-out.ensures.short; few = c.in_ok-out.ensures.few };
  short = c.in_ok-into.ensures.short;
  few = c.in_ok-into.ensures.few;
}

pub learnt-requires-clause-sender : goal.learnt-requires-clause-sender
learnt-requires-clause-sender c =
    let p = c.args.peering.now in
    id_of c.args.inputs.now.base.now c.args.router.0 (link_view p.adjacency.link) p.adjacency.sender c.requires.peering.known

pub returns-in_err-out-clause-feasible : goal.returns-in_err-out-clause-feasible
returns-in_err-out-clause-feasible c =
    let p = c.args.peering.now in
    c.from_residual.ensures
    ∙ ap (learnt_by c.args.inputs.now.base.now c.args.router.0 p.place) (c.in_err-out.ensures.message ∙ ap (message_of (link_view p.adjacency.link)) c.of-best.ensures)

pub returns-in_err-into-clause-feasible : goal.returns-in_err-into-clause-feasible
returns-in_err-into-clause-feasible c =
    let p = c.args.peering.now in
    c.from_residual-in_err-into.ensures
    ∙ ap (option_map (learnt_from p.place)) c.in_err-into.ensures.accepted
    ∙ ap (learnt_by c.args.inputs.now.base.now c.args.router.0 p.place) (c.in_ok-out.ensures.message ∙ ap (message_of (link_view p.adjacency.link)) c.of-best.ensures)

pub returns-clause-feasible : goal.returns-clause-feasible
returns-clause-feasible c =
    let p = c.args.peering.now in
    ap Some c.learnt.ensures
    ∙ ap (option_map (learnt_from p.place)) c.in_ok-into.ensures.accepted
    ∙ ap (learnt_by c.args.inputs.now.base.now c.args.router.0 p.place) (c.in_ok-out.ensures.message ∙ ap (message_of (link_view p.adjacency.link)) c.of-best.ensures)

pub returns-clause-own : goal.returns-clause-own
returns-clause-own c =
    ap (λ (x : Chosen). x.route.prefix) c.learnt.ensures ∙ (message_is (link_view c.args.peering.now.adjacency.link) (route_view c.of-best.result) c.in_ok-out.out).prefix
    ∙ ap (λ (x : Chosen). x.route.prefix) c.of-best.ensures
