use Rattle.std.proofs.Common.{Option, is_some, option_and_then, sym, ap, ◌∙◌}
use Rattle.nc_types.proofs.Placing.{same_some}
use Rattle.nc_tables.specs.declared.bgp.Chosen.{Chosen}
use Rattle.nc_tables.specs.Rounds.{Accepted, accepted_of, message_of}
use Rattle.nc_tables.specs.SpreadView.{row_view}
use Rattle.nc_sessions.specs.Views.{link_view}
use Rattle.nc_message.specs.Views.{accepted_view}
use Rattle.nc_fact.proofs.First.{first_is}
use Rattle.nc_fact.proofs.all.accepts.Goals as goal

pub returns-in-Some : goal.returns-in-Some
returns-in-Some c =
    c.is_some.ensures ∙ same_some accepted_view c.accepted_over.result ∙ ap (λ (o : Option Accepted). is_some o) c.accepted_over.ensures.accepted
    ∙ ap (λ (o : Option Chosen). is_some (option_and_then (accepted_of c.args.inputs.now.base.now c.args.router.0) (option_and_then (message_of (link_view c.args.adjacency.link)) o)))
    (c.in-Some.ensures ∙ sym (first_is (row_view c.args.row).chosen))
