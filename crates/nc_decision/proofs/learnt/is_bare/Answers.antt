use Rattle.std.proofs.Common.{Bool, [], cond, ap, ◌∙◌}
use Rattle.nc_tables.specs.SpreadView.{route_view}
use Rattle.nc_policy.specs.Passing.{communities_by}
use Rattle.nc_policy.specs.declared.passing.Passing.{Passing}
use Rattle.nc_sessions.specs.Views.{link_view}
use Rattle.nc_message.specs.Views.{advertised, message_view}
use Rattle.nc_message.proofs.Sending.{message_is}
use Rattle.nc_decision.proofs.learnt.is_bare.Goals as goal

pub returns-in-Unchanged : goal.returns-in-Unchanged
returns-in-Unchanged c e =
    let s = advertised c.args.taken.now.sent in
    ap (λ (p : Passing). communities_by p (message_view s).route.communities) c.in-Unchanged.is
    ∙ (message_is (link_view s.link) (route_view s.best) s.out).communities
    ∙ ap (λ (t : Bool). cond t (communities_by s.out (route_view s.best).route.communities) []) c.if-link.false
