use Rattle.std.proofs.Common.{sym, ap, ◌∙◌}
use Rattle.std.specs.Option.{option_and_then, option_map}
use Rattle.nc_tables.specs.Rounds.{accepted_of}
use Rattle.nc_tables.specs.SpreadView.{route_view}
use Rattle.nc_sessions.specs.Views.{link_view}
use Rattle.nc_message.specs.Views.{accepted_view}
use Rattle.nc_message.proofs.Holding.{held_not_taken}
use Rattle.nc_message.proofs.accepting.accepted_over.Goals as goal

pub returns-then-holds_receiver-clause-accepted : goal.returns-then-holds_receiver-clause-accepted
returns-then-holds_receiver-clause-accepted c =
    held_not_taken (link_view c.args.adjacency.link) (route_view c.args.best) (sym c.holds_receiver.ensures ∙ c.if-holds_receiver.true) c.args.inputs.now.base.now c.args.router.0

pub passed_into-requires-clause-other : goal.passed_into-requires-clause-other
passed_into-requires-clause-other c = sym c.holds_receiver.ensures ∙ c.if-holds_receiver.false

pub passed_into-requires-clause-feasible : goal.passed_into-requires-clause-feasible
passed_into-requires-clause-feasible c = record { short = c.in_ok-out.ensures.short; few = c.in_ok-out.ensures.few }

pub returns-in_err-out-clause-accepted : goal.returns-in_err-out-clause-accepted
returns-in_err-out-clause-accepted c =
    ap (option_map accepted_view) c.from_residual.ensures
    ∙ ap (option_and_then (accepted_of c.args.inputs.now.base.now c.args.router.0)) c.in_err-out.ensures.message

pub returns-in_err-into-clause-accepted : goal.returns-in_err-into-clause-accepted
returns-in_err-into-clause-accepted c =
    ap (option_map accepted_view) c.from_residual-in_err-into.ensures
    ∙ c.in_err-into.ensures.accepted
    ∙ ap (option_and_then (accepted_of c.args.inputs.now.base.now c.args.router.0)) c.in_ok-out.ensures.message

pub returns-clause-accepted : goal.returns-clause-accepted
returns-clause-accepted c =
    c.in_ok-into.ensures.accepted
    ∙ ap (option_and_then (accepted_of c.args.inputs.now.base.now c.args.router.0)) c.in_ok-out.ensures.message

pub returns-clause-taken : goal.returns-clause-taken
returns-clause-taken c = record {
  feasible = record { short = c.in_ok-out.ensures.short; few = c.in_ok-out.ensures.few };
  short = c.in_ok-into.ensures.short;
  few = c.in_ok-into.ensures.few;
}
