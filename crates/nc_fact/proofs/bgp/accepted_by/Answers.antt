use Rattle.std.proofs.Common.{List, Option, option_and_then, sym, ap, ◌∙◌}
use Rattle.nc_tables.specs.declared.base.BaseRow.{BaseRow}
use Rattle.nc_tables.specs.declared.bgp.Chosen.{Chosen}
use Rattle.nc_tables.specs.Rounds.{accepted_of, chosen_at, message_of}
use Rattle.nc_tables.specs.SpreadView.{route_view}
use Rattle.nc_sessions.specs.Views.{link_view}
use Rattle.nc_fact.proofs.First.{first_is}
use Rattle.nc_fact.proofs.bgp.accepted_by.Goals as goal

pub returns : goal.returns
returns c =
    let s = c.args.state.now in
    let router = c.args.router.0 in
    let k = link_view c.args.link in
    c.accepted_over.ensures.accepted
    ∙ ap (λ (tables : List (List BaseRow)). option_and_then (accepted_of tables router) (message_of k (route_view c.in_ok-best.best))) c.inputs-inputs.ensures.base
    ∙ ap (λ (o : Option Chosen). option_and_then (accepted_of s.base router) (option_and_then (message_of k) o)) (c.in_ok-best.ensures ∙ sym (first_is (chosen_at s.bgp k.session.peer.0 c.args.prefix)))
