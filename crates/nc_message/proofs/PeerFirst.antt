-- The message over a session, by what its peer has chosen.
use Rattle.std.proofs.Common.{◌≡◌, ℕ, ◌≤◌, List, [], Option, Some, None, length, refl, sym, ap, ◌∙◌}
use Rattle.std.specs.Option.{option_and_then, option_map}
use Rattle.std.proofs.lemmas.List.{get_or_past}
use Rattle.nc_types.specs.Cidr.{Cidr}
use Rattle.nc_types.specs.Config.{ConfigView}
use Rattle.nc_types.specs.Network.{up_at}
use Rattle.nc_tables.specs.declared.base.BaseRow.{BaseRow}
use Rattle.nc_tables.specs.declared.bgp.Chosen.{Chosen}
use Rattle.nc_tables.specs.declared.bgp.SessionRow.{SessionRow}
use Rattle.nc_tables.specs.Rounds.{BgpRowView, Link, accepted_of, best_at, chosen_in, entry_at, learnt_from, link_at, message_at, accepted_at, message_of, session_by}
use Rattle.nc_tables.specs.Sessions.{end_at, first_of, session_in}
use Rattle.nc_message.specs.Peers.{best_over}

-- ---- the ends of a session

module _ (routers : List ConfigView) (sessions : List (List SessionRow)) where
  abbrev adjacency_of : ℕ → ℕ → SessionRow → Option Link
  adjacency_of router place s =
      option_and_then (λ receiver. option_and_then (λ sender. option_map (λ source.
      record { session = s; receiver = receiver; sender = sender; source = source.addr.0 })
      (up_at routers s.peer.0 s.peer_source.0)) (end_at routers s.peer.0 s.peer_neighbor)) (end_at routers router place)

  made_of : (router place : ℕ) (s : SessionRow) (k : Link) → adjacency_of router place s ≡ Some k → s ≡ k.session
  made_of router place s k e = on_receiver (end_at routers router place) e
    where
      on_source : {S : Type 0} (o : Option S) (make : S → Link) → ((x : S) → (make x).session ≡ s) → option_map make o ≡ Some k → s ≡ k.session
      on_source None make own f = absurd cc
      on_source (Some x) make own f = let same : make x ≡ k = cc in sym (own x) ∙ ap (λ (l : Link). l.session) same

      on_sender : (o : Option _) (receiver : _) → option_and_then (λ sender. option_map (λ source. record { session = s; receiver = receiver; sender = sender; source = source.addr.0 }) (up_at routers s.peer.0 s.peer_source.0)) o ≡ Some k → s ≡ k.session
      on_sender None receiver f = absurd cc
      on_sender (Some sender) receiver f = on_source (up_at routers s.peer.0 s.peer_source.0) (λ source. record { session = s; receiver = receiver; sender = sender; source = source.addr.0 }) (λ x. refl) f

      on_receiver : (o : Option _) → option_and_then (λ receiver. option_and_then (λ sender. option_map (λ source.
          record { session = s; receiver = receiver; sender = sender; source = source.addr.0 })
          (up_at routers s.peer.0 s.peer_source.0)) (end_at routers s.peer.0 s.peer_neighbor)) o ≡ Some k → s ≡ k.session
      on_receiver None f = absurd cc
      on_receiver (Some receiver) f = on_sender (end_at routers s.peer.0 s.peer_neighbor) receiver f

  pub link_session : (router place : ℕ) (k : Link) → link_at routers sessions router place ≡ Some k → session_by sessions router place ≡ Some k.session
  link_session router place k e = on (session_by sessions router place) refl e
    where
      on : (o : Option SessionRow) → session_by sessions router place ≡ o → option_and_then (adjacency_of router place) o ≡ Some k → session_by sessions router place ≡ Some k.session
      on None is f = absurd cc
      on (Some s) is f = is ∙ ap Some (made_of router place s k f)

-- ---- the message

-- nothing is chosen beyond the routers, and no session stands there
pub none_past : (table : List (List BgpRowView)) (router : ℕ) (prefix : Cidr) → length table ≤ router → None ≡ best_at table router prefix
none_past table router prefix le = sym (ap (λ (rows : List BgpRowView). first_of (chosen_in rows prefix)) (get_or_past table router [] le))

pub none_by : (sessions : List (List SessionRow)) (router place : ℕ) → length sessions ≤ router → None ≡ session_by sessions router place
none_by sessions router place le = sym (ap (λ (rows : List SessionRow). session_in rows place) (get_or_past sessions router [] le))

module _ (routers : List ConfigView) (tables : List (List BaseRow)) (sessions : List (List SessionRow)) (table : List (List BgpRowView)) (router place : ℕ) (prefix : Cidr) where
  -- over a session the peer's best candidate is that of the link's peer
  over_link : (k : Link) → link_at routers sessions router place ≡ Some k → best_over table prefix (session_by sessions router place) ≡ best_at table k.session.peer.0 prefix
  over_link k e = ap (best_over table prefix) (link_session routers sessions router place k e)

  pub none_sent : None ≡ best_over table prefix (session_by sessions router place) → None ≡ message_at routers tables sessions table router place prefix
  unfolding message_at
  none_sent silent = on (link_at routers sessions router place) refl
    where
      on : (o : Option Link) → link_at routers sessions router place ≡ o → None ≡ option_and_then (λ (k : Link). option_and_then (message_of k) (best_at table k.session.peer.0 prefix)) o
      on None e = refl
      on (Some k) e = ap (option_and_then (message_of k)) (silent ∙ over_link k e)

  pub none_linked : None ≡ link_at routers sessions router place → None ≡ message_at routers tables sessions table router place prefix
  unfolding message_at
  none_linked e = ap (option_and_then (λ (k : Link). option_and_then (message_of k) (best_at table k.session.peer.0 prefix))) e

  pub one_sent : (k : Link) → Some k ≡ link_at routers sessions router place → (b : Chosen) → Some b ≡ best_over table prefix (session_by sessions router place) → message_of k b ≡ message_at routers tables sessions table router place prefix
  unfolding message_at
  one_sent k e b some =
      ap (option_and_then (message_of k)) (some ∙ over_link k (sym e))
      ∙ ap (option_and_then (λ (l : Link). option_and_then (message_of l) (best_at table l.session.peer.0 prefix))) e

  -- ---- the candidate that is learnt of it

  abbrev learnt_by : Option Link → Option Chosen
  learnt_by o = option_map (learnt_from place) (option_and_then (accepted_of tables router) (option_and_then (λ (k : Link). option_and_then (message_of k) (best_at table k.session.peer.0 prefix)) o))

  learnt_is : learnt_by (link_at routers sessions router place) ≡ entry_at routers tables sessions table router place prefix
  unfolding message_at accepted_at
  learnt_is = refl

  pub none_learnt_alone : None ≡ link_at routers sessions router place → None ≡ entry_at routers tables sessions table router place prefix
  none_learnt_alone e = ap learnt_by e ∙ learnt_is

  pub none_learnt_silent : (k : Link) → Some k ≡ link_at routers sessions router place → None ≡ best_at table k.session.peer.0 prefix → None ≡ entry_at routers tables sessions table router place prefix
  none_learnt_silent k e silent =
      ap (λ (o : Option Chosen). option_map (learnt_from place) (option_and_then (accepted_of tables router) (option_and_then (message_of k) o))) silent ∙ ap learnt_by e ∙ learnt_is

  pub one_learnt : (k : Link) → Some k ≡ link_at routers sessions router place → (b : Chosen) → Some b ≡ best_at table k.session.peer.0 prefix
      → option_map (learnt_from place) (option_and_then (accepted_of tables router) (message_of k b)) ≡ entry_at routers tables sessions table router place prefix
  one_learnt k e b some =
      ap (λ (o : Option Chosen). option_map (learnt_from place) (option_and_then (accepted_of tables router) (option_and_then (message_of k) o))) some ∙ ap learnt_by e ∙ learnt_is
