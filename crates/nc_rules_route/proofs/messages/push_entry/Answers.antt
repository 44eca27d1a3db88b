use Rattle.std.proofs.Common.{◌≡◌, ◌++◌, not, List, OnOk, sym, ap, subst, ◌∙◌}
use Rattle.std.proofs.lemmas.List.{append-nil}
use Rattle.nc_types.proofs.Options.{is_none}
use Rattle.nc_sessions.specs.Views.{link_view}
use Rattle.nc_message.specs.Views.{accepted_view}
use Rattle.nc_fact.specs.declared.fact.Fact.{Fact}
use Rattle.nc_rules_route.specs.Parents.{parents}
use Rattle.nc_rules_route.proofs.SentFacts.{accepted_over, entry_passed, entry_plain, no_entry}
use Rattle.nc_rules_route.proofs.messages.push_entry.Goals as goal

pub returns-in_default-clause-ok : goal.returns-in_default-clause-ok
unfolding parents
returns-in_default-clause-ok c =
    sym (append-nil c.args.into.now.items)
    ∙ ap (λ (fs : List Fact). c.args.into.now.items ++ fs) (no_entry c.args.state.now c.args.router c.args.place c.args.prefix c.in_default.ensures.link)

pub returns-then-is_none-clause-ok : goal.returns-then-is_none-clause-ok
unfolding parents
returns-then-is_none-clause-ok c =
    let k = link_view c.in-Some.link in
    subst (λ (fs : List Fact). OnOk c.push_heard.result (c.push_heard.new.into.items ≡ c.args.into.now.items ++ fs))
    (entry_plain c.args.state.now c.args.router c.args.place c.args.prefix k c.in-Some.ensures.link c.if-not-link.true (is_none k.receiver.statement.map_in (c.is_none.ensures ∙ ap not c.if-is_none.true)) c.requires.accepted) c.push_heard.ensures.ok

pub returns-in_default-accepted_by-clause-ok : goal.returns-in_default-accepted_by-clause-ok
returns-in_default-accepted_by-clause-ok c =
    absurd (accepted_over c.args.state.now c.args.router c.args.place c.args.prefix (link_view c.in-Some.link) c.in-Some.ensures.link c.requires.accepted c.in_default-accepted_by.ensures)

pub returns-clause-ok : goal.returns-clause-ok
unfolding parents
returns-clause-ok c =
    subst (λ (fs : List Fact). OnOk c.push_passed.result (c.push_passed.new.into.items ≡ fs))
    (entry_passed c.args.state.now c.args.router c.args.place c.args.prefix (link_view c.in-Some.link) c.in-Some.ensures.link
    (accepted_view c.in-Some-accepted_by.taken) c.in-Some-accepted_by.ensures c.next_hop.result c.next_hop.ensures c.args.into.now.items _ c.in_ok-push_heard.ensures.ok) c.push_passed.ensures.ok
