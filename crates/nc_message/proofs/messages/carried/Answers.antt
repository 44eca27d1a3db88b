use Rattle.std.proofs.Common.{◌≡◌, ◌≤◌, true, false, cond, [], List, length, ℕ, Bool, sym, ap, subst, ◌∙◌}
use Rattle.nc_tables.specs.SpreadView.{route_view}
use Rattle.nc_types.specs.declared.TheConstants.{COMMUNITY_LIMIT}
use Rattle.nc_policy.specs.Passing.{communities_by}
use Rattle.nc_sessions.specs.Views.{link_view}
use Rattle.nc_message.specs.declared.messages.Advertisement.{Advertisement}
use Rattle.nc_message.specs.Views.{advertised, message_view}
use Rattle.nc_message.proofs.Sending.{message_is}
use Rattle.nc_message.proofs.messages.carried.Goals as goal

module _ (s : Advertisement) where
  abbrev left : List ℕ
  left = communities_by s.out (route_view s.best).route.communities

  sent_by : (send : Bool) → (link_view s.link).sender.statement.send_community ≡ send → (message_view s).route.communities ≡ cond send left []
  sent_by send is = (message_is (link_view s.link) (route_view s.best) s.out).communities ∙ ap (λ (t : Bool). cond t left []) is

pub returns-then-not-link : goal.returns-then-not-link
returns-then-not-link c = c.none.ensures ∙ sym (sent_by (advertised c.args.sent.now) false c.if-not-link.true)

pub communities-requires : goal.communities-requires
communities-requires c =
    subst (λ (held : List ℕ). length (communities_by c.args.sent.now.out held) ≤ COMMUNITY_LIMIT) (sym c.communities-held.ensures)
    (subst (λ (l : List ℕ). length l ≤ COMMUNITY_LIMIT) (sent_by (advertised c.args.sent.now) true c.if-not-link.false) c.requires.few)

pub returns : goal.returns
returns c = c.communities.ensures ∙ ap (communities_by c.args.sent.now.out) c.communities-held.ensures ∙ sym (sent_by (advertised c.args.sent.now) true c.if-not-link.false)
