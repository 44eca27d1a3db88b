use Rattle.std.proofs.Common.{◌≡◌, ◌++◌, List, OnOk, sym, ap, subst, ◌∙◌}
use Rattle.std.proofs.lemmas.List.{append-nil}
use Rattle.nc_sessions.specs.Views.{link_view}
use Rattle.nc_fact.specs.declared.fact.Fact.{Fact}
use Rattle.nc_rules_route.specs.Parents.{parents}
use Rattle.nc_rules_route.proofs.SentFacts.{message_passed, no_message}
use Rattle.nc_rules_route.proofs.messages.push_message.Goals as goal

pub returns-in_default-clause-ok : goal.returns-in_default-clause-ok
unfolding parents
returns-in_default-clause-ok c =
    sym (append-nil c.args.into.now.items)
    ∙ ap (λ (fs : List Fact). c.args.into.now.items ++ fs) (no_message c.args.state.now c.args.router c.args.place c.args.prefix c.in_default.ensures.link)

pub returns-clause-ok : goal.returns-clause-ok
unfolding parents
returns-clause-ok c =
    subst (λ (fs : List Fact). OnOk c.push_out.result (c.push_out.new.into.items ≡ fs))
    (message_passed c.args.state.now c.args.router c.args.place c.args.prefix (link_view c.in-Some.link) c.in-Some.ensures.link c.requires.sent c.args.into.now.items _ c.in_ok-push_two.ensures.ok) c.push_out.ensures.ok
