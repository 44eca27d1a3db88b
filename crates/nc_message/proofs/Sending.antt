-- A route as it is sent over a session, field by field.
use Rattle.std.proofs.Common.{◌≡◌, ℕ, ◌+◌, ◌≤◌, ◌++◌, Bool, true, false, not, ◌&&◌, ◌||◌, ◌==◌, cond, nat_lt, List, [], ◌∷◌, length, Option, Some, None, option_and_then, refl, sym, ap, ◌∙◌, arith}
use Rattle.std.specs.List.{list_any}
use Rattle.std.specs.Option.{option_map}
use Rattle.std.proofs.lemmas.Bool.Decides.{nat_tests}
use Rattle.std.proofs.lemmas.List.{length-append}
use Rattle.std.proofs.lemmas.List.Folds.{list_any-append}
use Rattle.nc_types.specs.declared.TheConstants.{DEFAULT_PREFERENCE, PATH_LIMIT}
use Rattle.nc_tables.specs.declared.bgp.Chosen.{Chosen}
use Rattle.nc_tables.specs.declared.bgp.Route.{Route}
use Rattle.nc_tables.specs.declared.base.BaseRow.{BaseRow}
use Rattle.nc_tables.specs.Reach.{hits}
use Rattle.nc_tables.specs.Choice.{is_learnt}
use Rattle.nc_tables.specs.Rounds.{Link, Message, Passed, carried, is_held_back, is_kept_inside, is_looped, is_unresolved, has_own_hop, Accepted, accepted_of, passed, message_of, message_with, out_of, outgoing, sent_inside, sent_outside}
use Rattle.nc_policy.specs.Passing.{prepended_by, preference_by, metric_by, origin_by, communities_by, route_by}
use Rattle.nc_policy.specs.declared.passing.Passing.{Passing}
use Rattle.nc_message.specs.Views.{message_by, out_view}

module _ (asn source : ℕ) (b : Route) (out : Passing) where
  -- each field of a route that is sent: inside the system or not, with communities or not, with the sender as the next hop or not
  pub record IsSentAs (internal send self : Bool) (r : Route) : Type 0 where
    pub prefix : r.prefix ≡ b.prefix
    pub path : r.path ≡ cond internal (prepended_by out ++ b.path) (asn ∷ (prepended_by out ++ b.path))
    pub hop : r.next_hop ≡ cond (internal && not self) b.next_hop (record { 0 = source })
    pub preference : r.preference ≡ cond internal (preference_by out b.preference) DEFAULT_PREFERENCE
    pub metric : r.metric ≡ metric_by out (cond internal b.metric 0)
    pub origin : r.origin ≡ origin_by out b.origin
    pub communities : r.communities ≡ cond send (communities_by out b.communities) []

  sent_as : (internal send self : Bool)
      → IsSentAs internal send self (cond internal (sent_inside source self (carried send (route_by out (outgoing internal b)))) (sent_outside asn source (carried send (route_by out (outgoing internal b)))))
  sent_as true true true = record { prefix = refl; path = refl; hop = refl; preference = refl; metric = refl; origin = refl; communities = refl }
  sent_as true true false = record { prefix = refl; path = refl; hop = refl; preference = refl; metric = refl; origin = refl; communities = refl }
  sent_as true false true = record { prefix = refl; path = refl; hop = refl; preference = refl; metric = refl; origin = refl; communities = refl }
  sent_as true false false = record { prefix = refl; path = refl; hop = refl; preference = refl; metric = refl; origin = refl; communities = refl }
  sent_as false true self = record { prefix = refl; path = refl; hop = refl; preference = refl; metric = refl; origin = refl; communities = refl }
  sent_as false false self = record { prefix = refl; path = refl; hop = refl; preference = refl; metric = refl; origin = refl; communities = refl }

-- a route before the out map has the prefix, the path and the communities that it had
pub record IsOutgoing (b r : Route) : Type 0 where
  pub prefix : r.prefix ≡ b.prefix
  pub path : r.path ≡ b.path
  pub communities : r.communities ≡ b.communities

pub is_outgoing : (internal : Bool) (b : Route) → IsOutgoing b (outgoing internal b)
is_outgoing true b = record { prefix = refl; path = refl; communities = refl }
is_outgoing false b = record { prefix = refl; path = refl; communities = refl }

module _ (k : Link) (b : Chosen) (out : Passing) where
  -- the sender names itself as the next hop
  abbrev pub names_itself : Bool
  names_itself = k.sender.statement.self_hop || not (is_learnt b.from)

  pub message_is : IsSentAs k.sender.process.asn k.source b.route out k.session.internal k.sender.statement.send_community names_itself (message_by k b out).route
  message_is = sent_as k.sender.process.asn k.source b.route out k.session.internal k.sender.statement.send_community names_itself

  -- how long its path is
  pub path_length : length (message_by k b out).route.path ≡ cond k.session.internal 0 1 + (length (prepended_by out) + length b.route.path)
  path_length = ap (length {A = ℕ}) message_is.path ∙ on k.session.internal
    where
      on : (internal : Bool) → length (cond internal (prepended_by out ++ b.route.path) (k.sender.process.asn ∷ (prepended_by out ++ b.route.path))) ≡ cond internal 0 1 + (length (prepended_by out) + length b.route.path)
      on true = omega (arith, length-append (prepended_by out) b.route.path)
      on false = omega (arith, length-append (prepended_by out) b.route.path)

  -- whether it holds the receiver's system
  abbrev pub is_number : ℕ → Bool
  is_number n = n == k.receiver.process.asn

  pub looped_is : is_looped (message_by k b out) ≡ ((not k.session.internal && is_number k.sender.process.asn) || (list_any is_number (prepended_by out) || list_any is_number b.route.path))
  looped_is = ap (list_any is_number) message_is.path ∙ on k.session.internal
    where
      on : (internal : Bool) → list_any is_number (cond internal (prepended_by out ++ b.route.path) (k.sender.process.asn ∷ (prepended_by out ++ b.route.path)))
          ≡ ((not internal && is_number k.sender.process.asn) || (list_any is_number (prepended_by out) || list_any is_number b.route.path))
      on true = list_any-append is_number (prepended_by out) b.route.path
      on false = ap (λ (t : Bool). is_number k.sender.process.asn || t) (list_any-append is_number (prepended_by out) b.route.path)

  -- it is sent
  pub sent_is : is_held_back k.sender.process b.route.prefix ≡ false → is_kept_inside k b ≡ false → Some (out_view k b out) ≡ out_of k b → length (message_by k b out).route.path ≤ PATH_LIMIT
      → Some (message_by k b out) ≡ message_of k b
  sent_is free may passes short =
      let not_long : nat_lt PATH_LIMIT (length (message_by k b out).route.path) ≡ false = grind (arith, nat_tests) in
      sym (
      ap (λ (t : Bool). cond t None (cond (is_kept_inside k b) None (option_and_then (message_with k b) (out_of k b)))) free
      ∙ ap (λ (t : Bool). cond t None (option_and_then (message_with k b) (out_of k b))) may
      ∙ ap (option_and_then (message_with k b)) (sym passes)
      ∙ ap (λ (t : Bool). cond t None (Some (message_by k b out))) not_long
      )

-- what is accepted of a message
pub taken_is : (tables : List (List BaseRow)) (router : ℕ) (m : Message) (into : Passed) → is_looped m ≡ false → has_own_hop m ≡ false → nat_lt 0 (length (hits tables router m.route.next_hop.0)) ≡ true
    → Some into ≡ passed m.link.receiver.config m.link.receiver.statement.map_in m.route → Some (record { message = m; into = into }) ≡ accepted_of tables router m
taken_is tables router m into free other leads passes =
    let taken : Option Passed → Option Accepted = λ o. option_map (λ (p : Passed). record { message = m; into = p }) o in
    let way = passed m.link.receiver.config m.link.receiver.statement.map_in m.route in
    sym (
    ap (λ (t : Bool). cond t None (cond (has_own_hop m) None (cond (is_unresolved tables router m) None (taken way)))) free
    ∙ ap (λ (t : Bool). cond t None (cond (is_unresolved tables router m) None (taken way))) other
    ∙ ap (λ (t : Bool). cond (not t) None (taken way)) leads
    ∙ ap taken (sym passes)
    )
