-- What is learnt over a session on whose way nothing stands is the peer's best candidate, but for what is known of the session.
use Rattle.std.proofs.Common.{◌≡◌, ℕ, ◌<◌, ◌≤◌, ◌+◌, Bool, true, false, cond, not, ◌&&◌, ◌||◌, ◌==◌, nat_lt, List, [], ◌∷◌, length, IfSome, Option, Some, None, refl, sym, ap, ◌∙◌, arith}
use Rattle.std.specs.List.{list_any}
use Rattle.std.specs.Option.{option_and_then, option_map}
use Rattle.std.proofs.lemmas.Bool.Decides.{nat_tests}
use Rattle.nc_types.specs.declared.TheConstants.{DEFAULT_PREFERENCE, PATH_LIMIT}
use Rattle.nc_types.specs.declared.config.AggregateStatement.{AggregateStatement}
use Rattle.nc_types.specs.declared.config.Reference.{Reference}
use Rattle.nc_types.specs.declared.addr.Addr.{Addr}
use Rattle.nc_tables.specs.declared.base.BaseRow.{BaseRow}
use Rattle.nc_tables.specs.declared.bgp.BgpFrom.TheVariants.{Entry}
use Rattle.nc_tables.specs.declared.bgp.Chosen.{Chosen}
use Rattle.nc_tables.specs.declared.bgp.Route.{Route}
use Rattle.nc_tables.specs.Base.{is_own}
use Rattle.nc_tables.specs.Choice.{is_learnt}
use Rattle.nc_tables.specs.Reach.{hits}
use Rattle.nc_tables.specs.Rounds.{Link, Message, accepted_of, carried, is_held_back, is_kept_inside, is_longer_in, is_looped, has_own_hop, learnt_from, message_of, message_with, out_of, outgoing, passed, sent_inside, sent_outside}
use Rattle.nc_tables.specs.Sessions.{router_id}
use Rattle.nc_policy.specs.Passing.{passing_view, route_by}
use Rattle.nc_policy.specs.declared.passing.Passing.TheVariants.{Unchanged}
use Rattle.nc_message.specs.Views.{message_by, out_view}
use Rattle.nc_message.proofs.Holding.{held_not_taken}
use Rattle.nc_message.proofs.Sending.{message_is, path_length, looped_is, sent_is, taken_is}
use Rattle.nc_decision.specs.declared.peerings.Bare.{Bare}
use Rattle.nc_decision.specs.Bare.{bare_from, IsBare}

-- where nothing stands on the way of a session, it leads from another system
pub leads_out : (tables : List (List BaseRow)) (router : ℕ) (k : Link) (o : Option Bare) → IfSome o (IsBare tables router k) → IfSome o (λ b. k.session.internal ≡ false)
leads_out tables router k None is = tt
leads_out tables router k (Some b) is = is.plain.outside

module _ (tables : List (List BaseRow)) (router place : ℕ) (k : Link) (b : Bare) (is : IsBare tables router k b) (best : Chosen) where
  abbrev pub learnt : Option Chosen
  learnt = option_map (learnt_from place) (option_and_then (accepted_of tables router) (message_of k best))

  abbrev m : Message
  m = message_by k best Unchanged

  -- ---- the message

  free : is_held_back k.sender.process best.route.prefix ≡ false
  free = ap (list_any (λ (a : AggregateStatement). a.summary_only && is_longer_in best.route.prefix a.prefix)) is.plain.aggregates

  may : is_kept_inside k best ≡ false
  may = ap (λ (t : Bool). t && best.internal) is.plain.outside

  out_same : Some (out_view k best Unchanged) ≡ out_of k best
  out_same = sym (ap (λ (o : Option Reference). passed k.sender.config o (outgoing k.session.internal best.route)) is.plain.map_out)

  long : length m.route.path ≡ length best.route.path + 1
  long = path_length k best Unchanged ∙ on k.session.internal is.plain.outside
    where
      on : (t : Bool) → t ≡ false → cond t 0 1 + (length {A = ℕ} [] + length best.route.path) ≡ length best.route.path + 1
      on true e = absurd cc
      on false e = omega arith

  -- ---- what is accepted of it

  hop : m.route.next_hop.0 ≡ k.source
  hop = ap (λ (a : Addr). a.0) (message_is k best Unchanged).hop ∙ on k.session.internal is.plain.outside
    where
      on : (t : Bool) → t ≡ false → (cond (t && not (k.sender.statement.self_hop || not (is_learnt best.from))) best.route.next_hop (record { 0 = k.source })).0 ≡ k.source
      on true e = absurd cc
      on false e = refl

  not_looped : list_any (λ n. n == b.receiver) best.route.path ≡ false → is_looped m ≡ false
  not_looped other =
      looped_is k best Unchanged
      ∙ ap (λ (t : Bool). (not t && (k.sender.process.asn == k.receiver.process.asn)) || list_any (λ n. n == k.receiver.process.asn) best.route.path) is.plain.outside
      ∙ ap (λ (t : Bool). t || list_any (λ n. n == k.receiver.process.asn) best.route.path) is.plain.systems
      ∙ ap (λ (r : ℕ). list_any (λ n. n == r) best.route.path) (sym is.receiver) ∙ other

  not_own : has_own_hop m ≡ false
  not_own = ap (is_own k.receiver.config.interfaces) hop ∙ is.own

  leads : nat_lt 0 (length (hits tables router m.route.next_hop.0)) ≡ true
  leads = ap (λ (n : ℕ). nat_lt 0 (length (hits tables router n))) hop ∙ is.reached

  into_same : Some (passing_view m.route Unchanged) ≡ passed k.receiver.config k.receiver.statement.map_in m.route
  into_same = sym (ap (λ (o : Option Reference). passed k.receiver.config o m.route) is.plain.map_in)

  -- ---- the candidate

  abbrev made : ℕ → Addr → Bool → Addr → Addr → Chosen
  made sender source carries id addr =
      record {
        route = record {
          prefix = best.route.prefix;
          path = sender ∷ best.route.path;
          next_hop = source;
          preference = DEFAULT_PREFERENCE;
          metric = 0;
          origin = best.route.origin;
          communities = cond carries best.route.communities [];
        };
        from = Entry place;
        internal = false;
        sender_id = id;
        sender = addr;
      }

  by_link : (internal send self : Bool) → internal ≡ false → (r : Route)
      → r ≡ cond internal (sent_inside k.source self (carried send (route_by Unchanged (outgoing internal best.route)))) (sent_outside k.sender.process.asn k.source (carried send (route_by Unchanged (outgoing internal best.route))))
      → made k.sender.process.asn (record { 0 = k.source }) send (record { 0 = router_id k.sender.config }) k.receiver.statement.addr
      ≡ record { route = r; from = Entry place; internal = internal; sender_id = record { 0 = router_id k.sender.config }; sender = k.receiver.statement.addr }
  by_link true send self e r is_sent = absurd cc
  by_link false true self e r is_sent = ap (λ (x : Route). record { route = x; from = Entry place; internal = false; sender_id = record { 0 = router_id k.sender.config }; sender = k.receiver.statement.addr }) (sym is_sent)
  by_link false false self e r is_sent = ap (λ (x : Route). record { route = x; from = Entry place; internal = false; sender_id = record { 0 = router_id k.sender.config }; sender = k.receiver.statement.addr }) (sym is_sent)

  by_record : bare_from place b best ≡ made k.sender.process.asn (record { 0 = k.source }) k.sender.statement.send_community (record { 0 = router_id k.sender.config }) k.receiver.statement.addr
  by_record =
      ap (λ (n : ℕ). made n b.source b.carries b.sender_id b.sender_addr) is.sender
      ∙ ap (λ (n : ℕ). made k.sender.process.asn (record { 0 = n }) b.carries b.sender_id b.sender_addr) is.source
      ∙ ap (λ (t : Bool). made k.sender.process.asn (record { 0 = k.source }) t b.sender_id b.sender_addr) is.carries
      ∙ ap (λ (n : ℕ). made k.sender.process.asn (record { 0 = k.source }) k.sender.statement.send_community (record { 0 = n }) b.sender_addr) is.id
      ∙ ap (made k.sender.process.asn (record { 0 = k.source }) k.sender.statement.send_community (record { 0 = router_id k.sender.config })) is.addr

  same : bare_from place b best ≡ learnt_from place (record { message = m; into = passing_view m.route Unchanged })
  same = by_record ∙ by_link k.session.internal k.sender.statement.send_community (k.sender.statement.self_hop || not (is_learnt best.from)) is.plain.outside m.route refl

  -- it is accepted
  pub bare_learnt : list_any (λ n. n == b.receiver) best.route.path ≡ false → length best.route.path < PATH_LIMIT → Some (bare_from place b best) ≡ learnt
  bare_learnt other short =
      ap Some same
      ∙ ap (option_map (learnt_from place)) (taken_is tables router m (passing_view m.route Unchanged) (not_looped other) not_own leads into_same)
      ∙ ap (λ (o : Option Message). option_map (learnt_from place) (option_and_then (accepted_of tables router) o)) (sent_is k best Unchanged free may out_same (omega (arith, long, short)))

  -- unless its path holds the receiver's system
  pub bare_held : list_any (λ n. n == b.receiver) best.route.path ≡ true → None ≡ learnt
  bare_held held = ap (option_map (learnt_from place)) (held_not_taken k best (ap (λ (r : ℕ). list_any (λ n. n == r) best.route.path) (sym is.receiver) ∙ held) tables router)

  -- or has no room for the sender's
  pub bare_long : PATH_LIMIT ≤ length best.route.path → None ≡ learnt
  bare_long full =
      let over : nat_lt PATH_LIMIT (length m.route.path) ≡ true = grind (arith, nat_tests, long) in
      ap (λ (o : Option Message). option_map (learnt_from place) (option_and_then (accepted_of tables router) o)) (none_sent over)
    where
      none_sent : nat_lt PATH_LIMIT (length m.route.path) ≡ true → None ≡ message_of k best
      none_sent over =
          sym (
          ap (λ (t : Bool). cond t None (cond (is_kept_inside k best) None (option_and_then (message_with k best) (out_of k best)))) free
          ∙ ap (λ (t : Bool). cond t None (option_and_then (message_with k best) (out_of k best))) may
          ∙ ap (option_and_then (message_with k best)) (sym out_same)
          ∙ ap (λ (t : Bool). cond t None (Some m)) over
          )
