-- Of what a message is made, and what is accepted of one.
use Rattle.std.proofs.Common.{◌≡◌, ℕ, ◌≤◌, ◌<◌, Bool, true, false, cond, not, nat_lt, List, length, Option, Some, None, refl, sym, ap, subst, ◌∙◌, arith}
use Rattle.std.specs.Option.{option_map, option_and_then}
use Rattle.std.proofs.lemmas.Bool.{ltb-true}
use Rattle.std.proofs.lemmas.Bool.Decides.{nat_tests}
use Rattle.std.proofs.lemmas.Option.{option_and_then_some, none-some, same_Some}
use Rattle.nc_types.specs.Cidr.{Cidr}
use Rattle.nc_types.specs.Config.{ConfigView}
use Rattle.nc_types.specs.declared.TheConstants.{PATH_LIMIT}
use Rattle.nc_tables.specs.declared.base.BaseRow.{BaseRow}
use Rattle.nc_tables.specs.declared.bgp.SessionRow.{SessionRow}
use Rattle.nc_tables.specs.declared.bgp.Chosen.{Chosen}
use Rattle.nc_tables.specs.Policy.{is_long}
use Rattle.nc_tables.specs.Reach.{hits}
use Rattle.nc_tables.specs.Rounds.{BgpRowView, Link, Passed, Message, Accepted, passed, is_held_back, is_kept_inside, out_of, sent_over, message_with, message_of, is_looped, has_own_hop, is_unresolved, accepted_of, link_at, best_at, message_at, accepted_at}
use Rattle.nc_types.proofs.Options.{map_some}

-- what isn't refused is there
unrefused : {A : Type 0} (b : Bool) (o : Option A) (y : A) → cond b None o ≡ Some y → (b ≡ false) × (o ≡ Some y)
unrefused true o y e = absurd (none-some y e)
unrefused false o y e = (refl, e)

pub not_longer : (most n : ℕ) → nat_lt most n ≡ false → n ≤ most
not_longer most n e = grind (arith, nat_tests)

-- a message over a session of a candidate: it isn't learnt inside and kept there, the sender's map let it pass, and its path isn't too long
pub record IsSent (k : Link) (b : Chosen) (m : Message) : Type 0 where
  pub link : m.link ≡ k
  pub best : m.best ≡ b
  pub outward : is_kept_inside k b ≡ false
  pub out : out_of k b ≡ Some m.out
  pub route : m.route ≡ sent_over k b m.out.route
  pub short : length m.route.path ≤ PATH_LIMIT

pub sent_is : (k : Link) (b : Chosen) (m : Message) → message_of k b ≡ Some m → IsSent k b m
sent_is k b m e =
    let free = unrefused (is_held_back k.sender.process b.route.prefix) (cond (is_kept_inside k b) None (option_and_then (message_with k b) (out_of k b))) m e in
    let outward = unrefused (is_kept_inside k b) (option_and_then (message_with k b) (out_of k b)) m free.1 in
    option_and_then_some (message_with k b) (out_of k b) m outward.1 (λ out at made.
    let short = unrefused (is_long (sent_over k b out.route)) (Some (with out)) m made in
    subst (IsSent k b) (same_Some (with out) m short.1)
    (record { link = refl; best = refl; outward = outward.0; out = at; route = refl; short = not_longer PATH_LIMIT (length (sent_over k b out.route).path) short.0 }))
  where
    with : Passed → Message
    with out = record { link = k; best = b; out = out; route = sent_over k b out.route }

-- what a router accepts of a message: its next hop leads on, and the router's map let it pass
pub record IsAccepted (tables : List (List BaseRow)) (router : ℕ) (m : Message) (a : Accepted) : Type 0 where
  pub message : a.message ≡ m
  pub leads : 0 < length (hits tables router m.route.next_hop.0)
  pub into : passed m.link.receiver.config m.link.receiver.statement.map_in m.route ≡ Some a.into

pub accepted_is : (tables : List (List BaseRow)) (router : ℕ) (m : Message) (a : Accepted) → accepted_of tables router m ≡ Some a → IsAccepted tables router m a
accepted_is tables router m a e =
    let way = passed m.link.receiver.config m.link.receiver.statement.map_in m.route in
    let free = unrefused (is_looped m) (cond (has_own_hop m) None (cond (is_unresolved tables router m) None (option_map with way))) a e in
    let other = unrefused (has_own_hop m) (cond (is_unresolved tables router m) None (option_map with way)) a free.1 in
    let resolved = unrefused (is_unresolved tables router m) (option_map with way) a other.1 in
    let made = map_some with way a resolved.1 in
    subst (IsAccepted tables router m) made.2
    (record { message = refl; leads = ltb-true 0 (length (hits tables router m.route.next_hop.0)) (not_false (nat_lt 0 (length (hits tables router m.route.next_hop.0))) resolved.0); into = made.1 })
  where
    with : Passed → Accepted
    with into = record { message = m; into = into }

    not_false : (b : Bool) → not b ≡ false → b ≡ true
    not_false true e = refl
    not_false false e = absurd (cc)

module _ (routers : List ConfigView) (tables : List (List BaseRow)) (sessions : List (List SessionRow)) (table : List (List BgpRowView)) where
  -- the message to a neighbor statement for a prefix: over its session, of the best that the peer has chosen
  pub record IsMessage (router place : ℕ) (prefix : Cidr) (m : Message) : Type 0 where
    pub link : link_at routers sessions router place ≡ Some m.link
    pub best : best_at table m.link.session.peer.0 prefix ≡ Some m.best
    pub sent : IsSent m.link m.best m

  pub message_is : (router place : ℕ) (prefix : Cidr) (m : Message) → message_at routers tables sessions table router place prefix ≡ Some m → IsMessage router place prefix m
  unfolding message_at
  message_is router place prefix m e =
      option_and_then_some (λ (k : Link). option_and_then (message_of k) (best_at table k.session.peer.0 prefix)) (link_at routers sessions router place) m e (λ k at_link in_link.
      option_and_then_some (message_of k) (best_at table k.session.peer.0 prefix) m in_link (λ b at_best in_best.
      let sent = sent_is k b m in_best in
      record {
        link = at_link ∙ ap Some (sym sent.link);
        best = ap (λ (l : Link). best_at table l.session.peer.0 prefix) sent.link ∙ at_best ∙ ap Some (sym sent.best);
        sent = subst (λ (l : Link). IsSent l m.best m) (sym sent.link) (subst (λ (x : Chosen). IsSent k x m) (sym sent.best) sent);
      }))

  -- what a router accepts for a prefix: of the message to its neighbor statement
  pub record IsEntry (router place : ℕ) (prefix : Cidr) (a : Accepted) : Type 0 where
    pub message : message_at routers tables sessions table router place prefix ≡ Some a.message
    pub accepted : IsAccepted tables router a.message a

  pub entry_is : (router place : ℕ) (prefix : Cidr) (a : Accepted) → accepted_at routers tables sessions table router place prefix ≡ Some a → IsEntry router place prefix a
  unfolding accepted_at
  entry_is router place prefix a e =
      option_and_then_some (accepted_of tables router) (message_at routers tables sessions table router place prefix) a e (λ m at in_message.
      let is = accepted_is tables router m a in_message in
      record { message = at ∙ ap Some (sym is.message); accepted = subst (λ (x : Message). IsAccepted tables router x a) (sym is.message) is })
