-- What is learnt of a peer's candidate whose path isn't shorter than that of the best that stands is beaten, whatever the sender's map does.
use Rattle.std.proofs.Common.{◌≡◌, ◌⊎◌, ℕ, suc, ◌<◌, ◌≤◌, Bool, true, false, cond, not, ◌&&◌, ◌||◌, ◌==◌, List, length, IfSome, Option, Some, None, refl, sym, ap, subst, ◌∙◌, arith, inl, inr}
use Rattle.std.specs.Option.{option_and_then, option_map, option_map_or}
use Rattle.std.specs.Str.{bytes_eq}
use Rattle.std.specs.declared.cmp.Ordering.{Ordering}
use Rattle.std.specs.Ordering.{is_lt, nat_cmp, ordering_then}
use Rattle.std.proofs.lemmas.Bool.Decides.{nat_tests}
use Rattle.std.proofs.lemmas.List.{length-append}
use Rattle.std.proofs.lemmas.Slice.Eq.{bytes_eq-Decides}
use Rattle.nc_types.proofs.Options.{then_some}
use Rattle.nc_types.specs.declared.TheConstants.{DEFAULT_PREFERENCE}
use Rattle.nc_types.specs.Cidr.{Cidr}
use Rattle.nc_types.specs.Config.{ConfigView, ProcessView}
use Rattle.nc_types.specs.declared.config.Reference.{Reference}
use Rattle.nc_tables.specs.declared.base.BaseRow.{BaseRow}
use Rattle.nc_tables.specs.declared.bgp.BgpFrom.{BgpFrom}
use Rattle.nc_tables.specs.declared.bgp.BgpFrom.TheVariants.{Origin, Aggregate, Entry}
use Rattle.nc_tables.specs.declared.bgp.Chosen.{Chosen}
use Rattle.nc_tables.specs.declared.bgp.Route.{Route}
use Rattle.nc_tables.specs.declared.bgp.SessionRow.{SessionRow}
use Rattle.nc_tables.specs.declared.policy.Names.{Names}
use Rattle.nc_tables.specs.Choice.{class_of, is_external, is_learnt, is_equal_to, origin_rank, internal_rank, preference_cmp, same_path}
use Rattle.nc_tables.specs.Policy.{Verdict, Deny, Permit, Placed, set_by, is_long, is_over, verdict_by, deciding, names_of, verdict}
use Rattle.nc_tables.specs.Rounds.{BgpRowView, Passed, Link, Message, Accepted, best_at, link_at, passed, passed_by, carried, outgoing, out_of, sent_inside, sent_outside, sent_over, is_held_back, is_kept_inside, message_with, message_of, message_at, is_looped, has_own_hop, is_unresolved, accepted_of, accepted_at, learnt_from, entry_at}
use Rattle.nc_policy.specs.Preferences.{highest_preference}
use Rattle.nc_policy.proofs.Raising.{first_upto, leaves_upto, second_upto}
use Rattle.nc_decision.specs.BestPath.{is_beaten, IsOutranked}
use Rattle.nc_decision.specs.SessionMaps.{highest_from_outside}

-- ---- a map doesn't shorten a path

abbrev IsLonger : Route → Route → Type 0
IsLonger r route = length r.path ≤ length route.path

abbrev Lengthens : Route → Verdict → Type 0
Lengthens r Deny = Unit {0}
Lengthens r (Permit route clause names) = IsLonger r route

verdict_lengthens : (c : ConfigView) (name : List ℕ) (r : Route) → Lengthens r (verdict c name r)
unfolding verdict
verdict_lengthens c name r = on_clause (deciding c name r)
  where
    by_size : (k : Placed) (names : Names) (over : Bool) → Lengthens r (cond over Deny (Permit (set_by k.clause r) k.place names))
    by_size k names true = tt
    by_size k names false = omega (arith, length-append k.clause.prepend r.path)

    by_clause : (k : Placed) (names : Names) (permit : Bool) → Lengthens r (cond permit (cond (is_over (set_by k.clause r)) Deny (Permit (set_by k.clause r) k.place names)) Deny)
    by_clause k names true = by_size k names (is_over (set_by k.clause r))
    by_clause k names false = tt

    on_names : (k : Placed) (o : Option Names) → Lengthens r (option_map_or (verdict_by r k) o Deny)
    on_names k None = tt
    on_names k (Some names) = by_clause k names k.clause.permit

    on_clause : (o : Option Placed) → Lengthens r (option_map_or (λ k. option_map_or (verdict_by r k) (names_of c r k.clause) Deny) o Deny)
    on_clause None = tt
    on_clause (Some k) = on_names k (names_of c r k.clause)

passed_lengthens : (c : ConfigView) (o : Option Reference) (r : Route) → IfSome (passed c o r) (λ p. IsLonger r p.route)
passed_lengthens c None r = omega arith
passed_lengthens c (Some reference) r = on (verdict c reference.name r) (verdict_lengthens c reference.name r)
  where
    on : (v : Verdict) → Lengthens r v → IfSome (passed_by v) (λ p. IsLonger r p.route)
    on Deny longer = tt
    on (Permit route clause names) longer = longer

-- ---- a message to another system

record IsSentOut (k : Link) (b : Chosen) (m : Message) : Type 0 where
  link : m.link ≡ k
  path : length b.route.path < length m.route.path
  preference : m.route.preference ≡ DEFAULT_PREFERENCE

sent_out : (k : Link) (b : Chosen) → k.session.internal ≡ false → IfSome (message_of k b) (IsSentOut k b)
sent_out k b outside = by_holding (is_held_back k.sender.process b.route.prefix) (is_kept_inside k b)
  where
    route_out : (internal send : Bool) (self : Bool) (r : Route) → internal ≡ false → (route : Route) → route ≡ cond internal (sent_inside k.source self (carried send r)) (sent_outside k.sender.process.asn k.source (carried send r))
        → (length route.path ≡ suc (length r.path)) × (route.preference ≡ DEFAULT_PREFERENCE)
    route_out true send self r e route is = absurd cc
    route_out false true self r e route is = (ap (λ (x : Route). length x.path) is, ap (λ (x : Route). x.preference) is)
    route_out false false self r e route is = (ap (λ (x : Route). length x.path) is, ap (λ (x : Route). x.preference) is)

    same_path_out : (internal : Bool) (r : Route) → length (outgoing internal r).path ≡ length r.path
    same_path_out true r = refl
    same_path_out false r = refl

    by_length : (out : Passed) → IsLonger (outgoing k.session.internal b.route) out.route → (long : Bool) → IfSome (cond long None (Some (record { link = k; best = b; out = out; route = sent_over k b out.route }))) (IsSentOut k b)
    by_length out longer true = tt
    by_length out longer false =
        let is = route_out k.session.internal k.sender.statement.send_community (k.sender.statement.self_hop || not (is_learnt b.from)) out.route outside (sent_over k b out.route) refl in
        record { link = refl; path = omega (arith, is.0, longer, same_path_out k.session.internal b.route); preference = is.1 }

    sent : IfSome (option_and_then (message_with k b) (out_of k b)) (IsSentOut k b)
    sent =
        then_some (λ (out : Passed). IsLonger (outgoing k.session.internal b.route) out.route) (IsSentOut k b) (message_with k b)
        (λ out longer. by_length out longer (is_long (sent_over k b out.route)))
        (out_of k b) (passed_lengthens k.sender.config k.sender.statement.map_out (outgoing k.session.internal b.route))

    by_holding : (held inside : Bool) → IfSome (cond held None (cond inside None (option_and_then (message_with k b) (out_of k b)))) (IsSentOut k b)
    by_holding true inside = tt
    by_holding false true = tt
    by_holding false false = sent

-- what is accepted of a message has no shorter path, and the best that stands was begun, or is no less preferred
record IsLower (best : Chosen) (m : Message) (a : Accepted) : Type 0 where
  path : IsLonger m.route a.into.route
  preference : (is_learnt best.from ≡ false) ⊎ (a.into.route.preference ≤ best.route.preference)

-- so it is where the message and what the receiver's map sets are no more preferred
abbrev IsBounded : Chosen → Message → Type 0
IsBounded best m = (is_learnt best.from ≡ false) ⊎ ((highest_preference m.link.receiver.config m.link.receiver.statement.map_in ≤ best.route.preference) × (m.route.preference ≤ best.route.preference))

accepted_lower : (best : Chosen) (tables : List (List BaseRow)) (router : ℕ) (m : Message) → IsBounded best m → IfSome (accepted_of tables router m) (IsLower best m)
accepted_lower best tables router m bounded = by_tests (is_looped m) (has_own_hop m) (is_unresolved tables router m)
  where
    kept : IsBounded best m → (is_learnt best.from ≡ false) ⊎ IfSome (passed m.link.receiver.config m.link.receiver.statement.map_in m.route) (λ p. p.route.preference ≤ best.route.preference)
    kept (inl begun) = inl begun
    kept (inr (set, le)) = inr (leaves_upto m.link.receiver.config m.link.receiver.statement.map_in m.route best.route.preference set le)

    into : (o : Option Passed) → IfSome o (λ p. IsLonger m.route p.route) → (is_learnt best.from ≡ false) ⊎ IfSome o (λ p. p.route.preference ≤ best.route.preference)
        → IfSome (option_map (λ p. record { message = m; into = p }) o) (IsLower best m)
    into None longer pref = tt
    into (Some p) longer (inl begun) = record { path = longer; preference = inl begun }
    into (Some p) longer (inr le) = record { path = longer; preference = inr le }

    by_tests : (looped own unresolved : Bool)
        → IfSome (cond looped None (cond own None (cond unresolved None (option_map (λ p. record { message = m; into = p }) (passed m.link.receiver.config m.link.receiver.statement.map_in m.route))))) (IsLower best m)
    by_tests true own unresolved = tt
    by_tests false true unresolved = tt
    by_tests false false true = tt
    by_tests false false false = into (passed m.link.receiver.config m.link.receiver.statement.map_in m.route) (passed_lengthens m.link.receiver.config m.link.receiver.statement.map_in m.route) (kept bounded)

-- ---- what is beaten

preferred : (c d e l n : ℕ) (rest : Ordering) → c ≤ 2 → (c < 2) ⊎ (d ≤ e) → l < n → is_lt (ordering_then (nat_cmp c 2) (ordering_then (nat_cmp d e) (ordering_then (nat_cmp l n) rest))) ≡ true
preferred c d e l n rest le first longer = grind (arith, nat_tests)

class_upto : (from : BgpFrom) → class_of from ≤ 2
class_upto (Origin place) = omega arith
class_upto (Aggregate place) = omega arith
class_upto (Entry place) = omega arith

class_below : (from : BgpFrom) → is_learnt from ≡ false → class_of from < 2
class_below (Origin place) e = omega arith
class_below (Aggregate place) e = omega arith
class_below (Entry place) e = absurd cc

other_path : (relax : Bool) (p q : List ℕ) → length q < length p → same_path relax p q ≡ false
other_path true p q lt = grind (arith, nat_tests)
other_path false p q lt = on (bytes_eq p q) refl
  where
    on : (b : Bool) → bytes_eq p q ≡ b → b ≡ false
    on true e = let same : length p ≡ length q = ap (length {A = ℕ}) ((bytes_eq-Decides p q).0 e) in absurd (omega arith)
    on false e = refl

last_fails : (a b c d e : Bool) → e ≡ false → (a && (b && (c && (d && e)))) ≡ false
last_fails true true true true e f = f
last_fails true true true false e f = refl
last_fails true true false d e f = refl
last_fails true false c d e f = refl
last_fails false b c d e f = refl

module _ (best x : Chosen) (learnt : class_of x.from ≡ 2) (longer : length best.route.path < length x.route.path) (first : (is_learnt best.from ≡ false) ⊎ (x.route.preference ≤ best.route.preference)) where
  is_preferred : is_lt (preference_cmp best x) ≡ true
  unfolding preference_cmp
  is_preferred =
      ap (λ (n : ℕ). is_lt (ordering_then (nat_cmp (class_of best.from) n) (ordering_then (nat_cmp x.route.preference best.route.preference) (ordering_then (nat_cmp (length best.route.path) (length x.route.path)) rest)))) learnt
      ∙ preferred (class_of best.from) x.route.preference best.route.preference (length best.route.path) (length x.route.path) rest (class_upto best.from) (by_first first) longer
    where
      rest : Ordering
      rest =
          ordering_then (nat_cmp (origin_rank best.route.origin) (origin_rank x.route.origin))
          (ordering_then (nat_cmp best.route.metric x.route.metric)
          (ordering_then (nat_cmp (internal_rank best.internal) (internal_rank x.internal))
          (ordering_then (nat_cmp best.sender_id.0 x.sender_id.0) (nat_cmp best.sender.0 x.sender.0))))

      by_first : (is_learnt best.from ≡ false) ⊎ (x.route.preference ≤ best.route.preference) → (class_of best.from < 2) ⊎ (x.route.preference ≤ best.route.preference)
      by_first (inl e) = inl (class_below best.from e)
      by_first (inr le) = inr le

  beaten : (p : ProcessView) → is_beaten p best x ≡ true
  beaten p =
      ap (λ (b : Bool). b && ((p.max_paths == 1) || not (is_equal_to p.relax best x))) is_preferred
      ∙ ap (λ (b : Bool). (p.max_paths == 1) || not b) (last_fails (is_external x) (x.route.preference == best.route.preference) (origin_rank x.route.origin == origin_rank best.route.origin) (x.route.metric == best.route.metric) (same_path p.relax x.route.path best.route.path) (other_path p.relax x.route.path best.route.path longer))
      ∙ on (p.max_paths == 1)
    where
      on : (b : Bool) → (b || true) ≡ true
      on true = refl
      on false = refl

module _ (routers : List ConfigView) (tables : List (List BaseRow)) (sessions : List (List SessionRow)) (table : List (List BgpRowView)) (router place : ℕ) (prefix : Cidr) (best : Chosen) (p : ProcessView) where
  -- nothing is learnt, or what is beaten
  abbrev pub IsInVain : Type 0
  IsInVain = option_map_or (is_beaten p best) (entry_at routers tables sessions table router place prefix) true ≡ true

  abbrev entry_by : Option Link → Option Chosen
  entry_by o = option_map (learnt_from place) (option_and_then (accepted_of tables router) (option_and_then (λ (k : Link). option_and_then (message_of k) (best_at table k.session.peer.0 prefix)) o))

  opened : entry_by (link_at routers sessions router place) ≡ entry_at routers tables sessions table router place prefix
  unfolding message_at accepted_at
  opened = refl

  -- there is no session
  pub cannot_win_alone : link_at routers sessions router place ≡ None → IsInVain
  cannot_win_alone e = ap (λ (o : Option Chosen). option_map_or (is_beaten p best) o true) (sym opened ∙ ap entry_by e)

  -- or no candidate of the peer's
  pub cannot_win_silent : (k : Link) → link_at routers sessions router place ≡ Some k → best_at table k.session.peer.0 prefix ≡ None → IsInVain
  cannot_win_silent k e none =
      ap (λ (o : Option Chosen). option_map_or (is_beaten p best) o true)
      (sym opened ∙ ap entry_by e ∙ ap (λ (o : Option Chosen). option_map (learnt_from place) (option_and_then (accepted_of tables router) (option_and_then (message_of k) o))) none)

  -- or it is outranked
  pub outranked_cannot_win : (k : Link) → link_at routers sessions router place ≡ Some k → (sent : Chosen) → best_at table k.session.peer.0 prefix ≡ Some sent → IsOutranked best k sent → IsInVain
  outranked_cannot_win k e sent some outranked =
      ap (λ (o : Option Chosen). option_map_or (is_beaten p best) o true)
      (sym opened ∙ ap entry_by e ∙ ap (λ (o : Option Chosen). option_map (learnt_from place) (option_and_then (accepted_of tables router) (option_and_then (message_of k) o))) some)
      ∙ on_message (message_of k sent) (sent_out k sent outranked.outside)
    where
      bounded : (m : Message) → m.link ≡ k → m.route.preference ≡ DEFAULT_PREFERENCE → (is_learnt best.from ≡ false) ⊎ (highest_from_outside k ≤ best.route.preference) → IsBounded best m
      bounded m link from (inl begun) = inl begun
      bounded m link from (inr le) =
          let set : highest_preference k.receiver.config k.receiver.statement.map_in ≤ best.route.preference = omega (arith, second_upto DEFAULT_PREFERENCE (highest_preference k.receiver.config k.receiver.statement.map_in), le) in
          inr (
            subst (λ (l : Link). highest_preference l.receiver.config l.receiver.statement.map_in ≤ best.route.preference) (sym link) set,
            omega (arith, first_upto DEFAULT_PREFERENCE (highest_preference k.receiver.config k.receiver.statement.map_in), le, from),
          )

      on_accepted : (m : Message) → IsSentOut k sent m → (o : Option Accepted) → IfSome o (IsLower best m) → option_map_or (is_beaten p best) (option_map (learnt_from place) o) true ≡ true
      on_accepted m is None lower = refl
      on_accepted m is (Some a) lower = beaten best (learnt_from place a) refl (omega (arith, outranked.path, is.path, lower.path)) lower.preference p

      on_message : (o : Option Message) → IfSome o (IsSentOut k sent) → option_map_or (is_beaten p best) (option_map (learnt_from place) (option_and_then (accepted_of tables router) o)) true ≡ true
      on_message None is = refl
      on_message (Some m) is = on_accepted m is (accepted_of tables router m) (accepted_lower best tables router m (bounded m is.link is.preference outranked.preference))
