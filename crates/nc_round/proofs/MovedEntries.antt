-- What is learnt of a prefix, where no router tells prefixes apart, is what is learnt of another that is like it.
use Rattle.std.proofs.Common.{◌≡◌, ℕ, suc, Bool, true, false, cond, not, ◌||◌, ◌&&◌, ◌==◌, nat_lt, List, [], ◌∷◌, length, map, IfSome, Option, Some, None, refl, sym, ap, ◌∙◌}
use Rattle.std.specs.List.{list_any, slice_get}
use Rattle.std.specs.Option.{option_and_then, option_map, option_map_or}
use Rattle.nc_types.specs.Cidr.{Cidr}
use Rattle.nc_types.specs.Config.{ConfigView, ProcessView}
use Rattle.nc_types.specs.Network.{up_at}
use Rattle.nc_types.specs.declared.config.AggregateStatement.{AggregateStatement}
use Rattle.nc_types.specs.declared.config.Neighbor.{Neighbor}
use Rattle.nc_types.specs.declared.config.Reference.{Reference}
use Rattle.nc_types.proofs.Members.{all_in, in_by_get}
use Rattle.nc_tables.specs.declared.base.BaseRow.{BaseRow}
use Rattle.nc_tables.specs.declared.bgp.BgpFrom.{BgpFrom}
use Rattle.nc_tables.specs.declared.bgp.BgpFrom.TheVariants.{Origin, Aggregate, Entry}
use Rattle.nc_tables.specs.declared.bgp.Chosen.{Chosen}
use Rattle.nc_tables.specs.declared.bgp.Route.{Route}
use Rattle.nc_tables.specs.declared.bgp.SessionRow.{SessionRow}
use Rattle.nc_tables.specs.Base.{is_own}
use Rattle.nc_tables.specs.Choice.{is_learnt}
use Rattle.nc_tables.specs.Policy.{is_long}
use Rattle.nc_tables.specs.Reach.{hits}
use Rattle.nc_tables.specs.Rounds.{BgpRowView, Passed, Link, Message, unnamed, passed, carried, outgoing, out_of, sent_inside, sent_outside, sent_over, is_longer_in, is_kept_inside, message_with, message_of, accepted_of, learnt_from, made_from, chosen_at, session_by, link_at, message_at, accepted_at, entry_at}
use Rattle.nc_tables.specs.Sessions.{End, first_of, end_at, router_id}
use Rattle.nc_round.specs.Likeness.{IsPlain, ArePlain, moved, moved_from}

-- ---- lists

-- what is made of each item moves with what is made of all
pub made_moved : {A B C : Type 0} (h : B → C) (f : ℕ → A → Option B) (g : ℕ → A → Option C) → ((k : ℕ) (x : A) → g k x ≡ option_map h (f k x)) → (place : ℕ) (xs : List A) → made_from g place xs ≡ map h (made_from f place xs)
made_moved h f g each place [] = refl
made_moved {A} {B} {C} h f g each place (x ∷ xs) =
    ap (λ (o : Option C). option_map_or (λ (y : C). y ∷ made_from g (suc place) xs) o (made_from g (suc place) xs)) (each place x)
    ∙ on (f place x) (made_moved h f g each (suc place) xs)
  where
    on : (o : Option B) → made_from g (suc place) xs ≡ map h (made_from f (suc place) xs)
        → option_map_or (λ (y : C). y ∷ made_from g (suc place) xs) (option_map h o) (made_from g (suc place) xs) ≡ map h (option_map_or (λ (y : B). y ∷ made_from f (suc place) xs) o (made_from f (suc place) xs))
    on None rest = rest
    on (Some y) rest = ap (λ (l : List C). h y ∷ l) rest

-- ---- the ends of a session

pub record IsPlainEnd (e : End) : Type 0 where
  pub aggregates : e.process.aggregates ≡ []
  pub map_in : e.statement.map_in ≡ None
  pub map_out : e.statement.map_out ≡ None

pub record IsPlainLink (k : Link) : Type 0 where
  pub aggregates : k.sender.process.aggregates ≡ []
  pub map_in : k.receiver.statement.map_in ≡ None
  pub map_out : k.sender.statement.map_out ≡ None

module _ (routers : List ConfigView) (plain : ArePlain routers) where
  end_plain : (router place : ℕ) → IfSome (end_at routers router place) IsPlainEnd
  end_plain router place = on_config (slice_get routers router) (plain router)
    where
      on_statement : (c : ConfigView) (p : ProcessView) → IsPlain p → (o : Option Neighbor) → slice_get p.neighbors place ≡ o → IfSome (option_map (λ n. record { config = c; process = p; statement = n }) o) IsPlainEnd
      on_statement c p is None at = tt
      on_statement c p is (Some n) at =
          let maps : (n.map_in ≡ None) × (n.map_out ≡ None) = all_in (λ (m : Neighbor). (m.map_in ≡ None) × (m.map_out ≡ None)) p.neighbors is.maps n (in_by_get p.neighbors place n at) in
          record { aggregates = is.aggregates; map_in = maps.0; map_out = maps.1 }

      on_process : (c : ConfigView) (o : Option ProcessView) → ((p : ProcessView) → o ≡ Some p → IsPlain p) → IfSome (option_and_then (λ p. option_map (λ n. record { config = c; process = p; statement = n }) (slice_get p.neighbors place)) o) IsPlainEnd
      on_process c None is = tt
      on_process c (Some p) is = on_statement c p (is p refl) (slice_get p.neighbors place) refl

      on_config : (o : Option ConfigView) → ((p : ProcessView) → option_and_then (λ (c : ConfigView). c.process) o ≡ Some p → IsPlain p)
          → IfSome (option_and_then (λ c. option_and_then (λ p. option_map (λ n. record { config = c; process = p; statement = n }) (slice_get p.neighbors place)) c.process) o) IsPlainEnd
      on_config None is = tt
      on_config (Some c) is = on_process c c.process is

  link_plain : (sessions : List (List SessionRow)) (router place : ℕ) → IfSome (link_at routers sessions router place) IsPlainLink
  link_plain sessions router place = on_session (session_by sessions router place)
    where
      on_source : {S : Type 0} (make : S → Link) → ((x : S) → IsPlainLink (make x)) → (o : Option S) → IfSome (option_map make o) IsPlainLink
      on_source make each None = tt
      on_source make each (Some x) = each x

      on_sender : (s : SessionRow) (receiver : End) → IsPlainEnd receiver → (o : Option End) → IfSome o IsPlainEnd
          → IfSome (option_and_then (λ sender. option_map (λ source. record { session = s; receiver = receiver; sender = sender; source = source.addr.0 }) (up_at routers s.peer.0 s.peer_source.0)) o) IsPlainLink
      on_sender s receiver is None there = tt
      on_sender s receiver is (Some sender) there =
          on_source (λ source. record { session = s; receiver = receiver; sender = sender; source = source.addr.0 })
          (λ source. record { aggregates = there.aggregates; map_in = is.map_in; map_out = there.map_out }) (up_at routers s.peer.0 s.peer_source.0)

      on_receiver : (s : SessionRow) (o : Option End) → IfSome o IsPlainEnd
          → IfSome (option_and_then (λ receiver. option_and_then (λ sender. option_map (λ source. record { session = s; receiver = receiver; sender = sender; source = source.addr.0 })
          (up_at routers s.peer.0 s.peer_source.0)) (end_at routers s.peer.0 s.peer_neighbor)) o) IsPlainLink
      on_receiver s None is = tt
      on_receiver s (Some receiver) is = on_sender s receiver is (end_at routers s.peer.0 s.peer_neighbor) (end_plain s.peer.0 s.peer_neighbor)

      on_session : (o : Option SessionRow)
          → IfSome (option_and_then (λ s. option_and_then (λ receiver. option_and_then (λ sender. option_map (λ source. record { session = s; receiver = receiver; sender = sender; source = source.addr.0 })
          (up_at routers s.peer.0 s.peer_source.0)) (end_at routers s.peer.0 s.peer_neighbor)) (end_at routers router place)) o) IsPlainLink
      on_session None = tt
      on_session (Some s) = on_receiver s (end_at routers router place) (end_plain router place)

-- ---- what is learnt over a session without maps

module _ (tables : List (List BaseRow)) (router place : ℕ) (k : Link) where
  abbrev is_looped_by : Route → Bool
  is_looped_by r = list_any (λ n. n == k.receiver.process.asn) r.path

  abbrev has_own_hop_by : Route → Bool
  has_own_hop_by r = is_own k.receiver.config.interfaces r.next_hop.0

  abbrev is_unresolved_by : Route → Bool
  is_unresolved_by r = not (nat_lt 0 (length (hits tables router r.next_hop.0)))

  abbrev learnt_as : Route → Chosen
  learnt_as r = record { route = r; from = Entry place; internal = k.session.internal; sender_id = record { 0 = router_id k.sender.config }; sender = k.receiver.statement.addr }

  -- of a route as it is sent
  abbrev of_route : Route → Option Chosen
  of_route r = cond (is_long r) None (cond (is_looped_by r) None (cond (has_own_hop_by r) None (cond (is_unresolved_by r) None (Some (learnt_as r)))))

  -- of the sender's best candidate
  abbrev plainly : Chosen → Option Chosen
  plainly b = cond (is_kept_inside k b) None (of_route (sent_over k b (outgoing k.session.internal b.route)))

  abbrev told : Option Message → Option Chosen
  told o = option_map (learnt_from place) (option_and_then (accepted_of tables router) o)

  module _ (plain : IsPlainLink k) where
    told_message : (b : Chosen) (out : Passed) (r : Route)
        → told (Some (record { link = k; best = b; out = out; route = r })) ≡ cond (is_looped_by r) None (cond (has_own_hop_by r) None (cond (is_unresolved_by r) None (Some (learnt_as r))))
    told_message b out r =
        let m : Message = record { link = k; best = b; out = out; route = r } in
        ap (λ (o : Option Reference). option_map (learnt_from place) (cond (is_looped_by r) None (cond (has_own_hop_by r) None (cond (is_unresolved_by r) None (option_map (λ into. record { message = m; into = into }) (passed k.receiver.config o r)))))) plain.map_in
        ∙ on m (is_looped_by r) (has_own_hop_by r) (is_unresolved_by r)
      where
        on : (m : Message) (looped own unresolved : Bool)
            → option_map (learnt_from place) (cond looped None (cond own None (cond unresolved None (Some (record { message = m; into = record { route = r; clause = None; names = unnamed } })))))
            ≡ cond looped None (cond own None (cond unresolved None (Some (learnt_from place (record { message = m; into = record { route = r; clause = None; names = unnamed } })))))
        on m true own unresolved = refl
        on m false true unresolved = refl
        on m false false true = refl
        on m false false false = refl

    told_plainly : (b : Chosen) → told (message_of k b) ≡ plainly b
    told_plainly b =
        let route : Route = outgoing k.session.internal b.route in
        ap (λ (l : List AggregateStatement). told (cond (list_any (λ a. a.summary_only && is_longer_in b.route.prefix a.prefix) l) None (cond (is_kept_inside k b) None (option_and_then (message_with k b) (out_of k b))))) plain.aggregates
        ∙ ap (λ (o : Option Reference). told (cond (is_kept_inside k b) None (option_and_then (message_with k b) (passed k.sender.config o route)))) plain.map_out
        ∙ on (is_kept_inside k b) (record { route = route; clause = None; names = unnamed }) (is_long (sent_over k b route)) (sent_over k b route)
      where
        on : (kept : Bool) (out : Passed) (long : Bool) (r : Route) → told (cond kept None (cond long None (Some (record { link = k; best = b; out = out; route = r }))))
            ≡ cond kept None (cond long None (cond (is_looped_by r) None (cond (has_own_hop_by r) None (cond (is_unresolved_by r) None (Some (learnt_as r))))))
        on true out long r = refl
        on false out true r = refl
        on false out false r = told_message b out r

  -- ---- of another prefix

  abbrev sent : Bool → Bool → Bool → Route → Route
  sent internal send self r = cond internal (sent_inside k.source self (carried send r)) (sent_outside k.sender.process.asn k.source (carried send r))

  module _ (q : Cidr) (o : Option ℕ) where
    entry_from : Entry place ≡ moved_from o (Entry place)
    entry_from = on o
      where
        on : (o : Option ℕ) → Entry place ≡ moved_from o (Entry place)
        on None = refl
        on (Some n) = refl

    of_route_moved : (r : Route) → of_route (record r { prefix = q }) ≡ option_map (moved q o) (of_route r)
    of_route_moved r = on (is_long r) (is_looped_by r) (has_own_hop_by r) (is_unresolved_by r)
      where
        same : learnt_as (record r { prefix = q }) ≡ moved q o (learnt_as r)
        same = ap (λ (from : BgpFrom). record (learnt_as (record r { prefix = q })) { from = from }) entry_from

        on : (long looped own unresolved : Bool) → cond long None (cond looped None (cond own None (cond unresolved None (Some (learnt_as (record r { prefix = q }))))))
            ≡ option_map (moved q o) (cond long None (cond looped None (cond own None (cond unresolved None (Some (learnt_as r))))))
        on true looped own unresolved = refl
        on false true own unresolved = refl
        on false false true unresolved = refl
        on false false false true = refl
        on false false false false = ap Some same

    module _ (place_there : Option ℕ) where
      learnt_same : (from : BgpFrom) → is_learnt (moved_from place_there from) ≡ is_learnt from
      learnt_same = on place_there
        where
          on : (o : Option ℕ) (from : BgpFrom) → is_learnt (moved_from o from) ≡ is_learnt from
          on None (Origin own) = refl
          on None (Aggregate own) = refl
          on None (Entry own) = refl
          on (Some n) (Origin own) = refl
          on (Some n) (Aggregate own) = refl
          on (Some n) (Entry own) = refl

      sent_moved : (b : Chosen) → sent_over k (moved q place_there b) (outgoing k.session.internal (record b.route { prefix = q })) ≡ record (sent_over k b (outgoing k.session.internal b.route)) { prefix = q }
      sent_moved b =
          ap (λ (learnt : Bool). sent k.session.internal k.sender.statement.send_community (k.sender.statement.self_hop || not learnt) (outgoing k.session.internal (record b.route { prefix = q }))) (learnt_same b.from)
          ∙ on k.session.internal k.sender.statement.send_community (k.sender.statement.self_hop || not (is_learnt b.from))
        where
          on : (internal send self : Bool) → sent internal send self (outgoing internal (record b.route { prefix = q })) ≡ record (sent internal send self (outgoing internal b.route)) { prefix = q }
          on true true true = refl
          on true true false = refl
          on true false true = refl
          on true false false = refl
          on false true self = refl
          on false false self = refl

      plainly_moved : (b : Chosen) → plainly (moved q place_there b) ≡ option_map (moved q o) (plainly b)
      plainly_moved b =
          ap (λ (r : Route). cond (is_kept_inside k b) None (of_route r)) (sent_moved b)
          ∙ on (is_kept_inside k b) (sent_over k b (outgoing k.session.internal b.route))
        where
          on : (kept : Bool) (r : Route) → cond kept None (of_route (record r { prefix = q })) ≡ option_map (moved q o) (cond kept None (of_route r))
          on true r = refl
          on false r = of_route_moved r

      first_moved : IsPlainLink k → (cs : List Chosen) → told (option_and_then (message_of k) (first_of (map (moved q place_there) cs))) ≡ option_map (moved q o) (told (option_and_then (message_of k) (first_of cs)))
      first_moved plain [] = refl
      first_moved plain (b ∷ bs) = told_plainly plain (moved q place_there b) ∙ plainly_moved b ∙ ap (option_map (moved q o)) (sym (told_plainly plain b))

-- ---- the entry of a neighbor

module _ (routers : List ConfigView) (tables : List (List BaseRow)) (sessions : List (List SessionRow)) (table : List (List BgpRowView)) (plain : ArePlain routers) (p q : Cidr) (places : ℕ → Option ℕ)
    (each : (peer : ℕ) → chosen_at table peer q ≡ map (moved q (places peer)) (chosen_at table peer p)) where
  abbrev heard : ℕ → ℕ → Cidr → Option Link → Option Chosen
  heard router place x l = option_map (learnt_from place) (option_and_then (accepted_of tables router) (option_and_then (λ k. option_and_then (message_of k) (first_of (chosen_at table k.session.peer.0 x))) l))

  pub entry_moved : (router : ℕ) (o : Option ℕ) (place : ℕ) → entry_at routers tables sessions table router place q ≡ option_map (moved q o) (entry_at routers tables sessions table router place p)
  unfolding message_at accepted_at
  entry_moved router o place = on (link_at routers sessions router place) (link_plain routers plain sessions router place)
    where
      on : (l : Option Link) → IfSome l IsPlainLink → heard router place q l ≡ option_map (moved q o) (heard router place p l)
      on None is = refl
      on (Some k) is =
          ap (λ (cs : List Chosen). option_map (learnt_from place) (option_and_then (accepted_of tables router) (option_and_then (message_of k) (first_of cs)))) (each k.session.peer.0)
          ∙ first_moved tables router place k q o (places k.session.peer.0) is (chosen_at table k.session.peer.0 p)
