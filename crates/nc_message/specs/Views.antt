-- A message and what is accepted of it, as the definitions of BGP have them.
use Rattle.std.specs.Prelude.{◌≡◌, ℕ, ◌≤◌, List, length, IfSome}
use Rattle.nc_types.specs.declared.TheConstants.{COMMUNITY_LIMIT, PATH_LIMIT}
use Rattle.nc_tables.specs.Rounds.{Link, Passed, Message, Accepted, outgoing, sent_over}
use Rattle.nc_tables.specs.Sessions.{router_id}
use Rattle.nc_tables.specs.SpreadView.{route_view}
use Rattle.nc_tables.specs.declared.base.BaseRow.{BaseRow}
use Rattle.nc_tables.specs.declared.bgp.Chosen.{Chosen}
use Rattle.nc_policy.specs.Passing.{passing_view}
use Rattle.nc_policy.specs.declared.passing.Passing.{Passing}
use Rattle.nc_sessions.specs.Views.{link_view}
use Rattle.nc_message.specs.Adjacencies.{IsSender}
use Rattle.nc_message.specs.declared.messages.Advertisement.{Advertisement}
use Rattle.nc_message.specs.declared.messages.AdvertisedRoute.{AdvertisedRoute}
use Rattle.nc_message.specs.declared.accepting.AcceptedRoute.{AcceptedRoute}
use Rattle.nc_message.specs.declared.accepting.LearntRoute.{LearntRoute}

-- what the sender's map made of the best candidate
abbrev pub out_view : Link → Chosen → Passing → Passed
out_view k b out = passing_view (outgoing k.session.internal b.route) out

-- the message of a candidate over a session, as the sender's map let it pass
abbrev pub message_by : Link → Chosen → Passing → Message
message_by k b out = record { link = k; best = b; out = out_view k b out; route = sent_over k b (out_view k b out).route }

abbrev pub message_view : Advertisement → Message
message_view s = message_by (link_view s.link) (route_view s.best) s.out

-- what the receiver's map made of the message
abbrev pub accepted_view : AcceptedRoute → Accepted
accepted_view t = record { message = message_view t.sent; into = passing_view (message_view t.sent).route t.into }

-- the same where the ends of the session stand elsewhere
abbrev pub advertised : AdvertisedRoute → Advertisement
advertised s = record { link = s.link.now; sender = s.sender; best = s.best; out = s.out }

abbrev pub learnt_as : LearntRoute → AcceptedRoute
learnt_as t = record { sent = advertised t.sent; into = t.into }

-- what the receiver's map, as it let the route pass, made of a message
abbrev pub accepted_by : Advertisement → Passing → Accepted
accepted_by s into = record { message = message_view s; into = passing_view (message_view s).route into }

-- the path of the route that is sent is within the limit, and so are its communities
pub record IsAdvertised (s : Advertisement) : Type 0 where
  pub short : length (message_view s).route.path ≤ PATH_LIMIT
  pub few : length (message_view s).route.communities ≤ COMMUNITY_LIMIT

-- the same of the route as the receiver's map let it pass
pub record IsAccepted (t : AcceptedRoute) : Type 0 where
  pub feasible : IsAdvertised t.sent
  pub short : length (accepted_view t).into.route.path ≤ PATH_LIMIT
  pub few : length (accepted_view t).into.route.communities ≤ COMMUNITY_LIMIT

-- where something is known of the sender of a message to a router, it is so; and its router id alone
abbrev pub IsKnown : List (List BaseRow) → ℕ → Advertisement → Type 0
IsKnown tables router s = IfSome s.sender (IsSender tables router (link_view s.link))

abbrev pub HasId : Advertisement → Type 0
HasId s = IfSome s.sender (λ d. d.id.0 ≡ router_id (link_view s.link).sender.config)
