-- How long the path of a route is as it spreads: no map shortens it, and a message weighs more than what it is made from.
use Rattle.std.proofs.Common.{◌≡◌, ℕ, ◌+◌, ◌*◌, ◌≤◌, Bool, true, false, cond, not, ◌&&◌, ◌||◌, nat_lt, length, Option, Some, None, refl, ap, subst, ◌∙◌, arith}
use Rattle.std.specs.Option.{option_map_or}
use Rattle.std.proofs.lemmas.List.{length-append}
use Rattle.std.proofs.lemmas.Option.{none-some, same_Some}
use Rattle.nc_types.specs.declared.TheConstants.{PATH_LIMIT, COMMUNITY_LIMIT}
use Rattle.nc_types.specs.declared.config.Reference.{Reference}
use Rattle.nc_types.specs.Config.{ConfigView}
use Rattle.nc_tables.specs.declared.bgp.Route.{Route}
use Rattle.nc_tables.specs.declared.policy.Names.{Names}
use Rattle.nc_tables.specs.Choice.{is_learnt}
use Rattle.nc_tables.specs.Policy.{Placed, Deny, Permit, set_by, is_long, is_over, verdict_by, verdict, deciding, names_of}
use Rattle.nc_tables.specs.Rounds.{Passed, Message, passed, passed_by, outgoing, carried, sent_inside, sent_outside}
use Rattle.nc_rules_route.proofs.SentRoutes.{IsSent, not_longer}

-- ---- maps

-- a path isn't shortened, and stays within the limit
pub record Grows (before after : Route) : Type 0 where
  pub longer : length before.path ≤ length after.path
  pub short : length before.path ≤ PATH_LIMIT → length after.path ≤ PATH_LIMIT

module _ (c : ConfigView) (r : Route) where
  by_over : (k : Placed) (names : Names) (b : Bool) → is_over (set_by k.clause r) ≡ b → (out : Passed) → passed_by (cond b Deny (Permit (set_by k.clause r) k.place names)) ≡ Some out → Grows r out.route
  by_over k names true over out e = absurd (none-some out e)
  by_over k names false over out e =
      let same : set_by k.clause r ≡ out.route = ap (λ (p : Passed). p.route) (same_Some _ out e) in
      let short = not_longer PATH_LIMIT (length (set_by k.clause r).path) (first_fails (is_long (set_by k.clause r)) (nat_lt COMMUNITY_LIMIT (length (set_by k.clause r).communities)) over) in
      subst (Grows r) same (record { longer = omega (arith, length-append k.clause.prepend r.path); short = λ _. short })
    where
      first_fails : (a b : Bool) → (a || b) ≡ false → a ≡ false
      first_fails true b e = absurd (cc)
      first_fails false b e = refl

  by_permit : (k : Placed) (names : Names) (b : Bool) (out : Passed) → passed_by (cond b (cond (is_over (set_by k.clause r)) Deny (Permit (set_by k.clause r) k.place names)) Deny) ≡ Some out → Grows r out.route
  by_permit k names true out e = by_over k names (is_over (set_by k.clause r)) refl out e
  by_permit k names false out e = absurd (none-some out e)

  by_names : (k : Placed) (o : Option Names) (out : Passed) → passed_by (option_map_or (verdict_by r k) o Deny) ≡ Some out → Grows r out.route
  by_names k None out e = absurd (none-some out e)
  by_names k (Some names) out e = by_permit k names k.clause.permit out e

  by_placed : (o : Option Placed) (out : Passed) → passed_by (option_map_or (λ k. option_map_or (verdict_by r k) (names_of c r k.clause) Deny) o Deny) ≡ Some out → Grows r out.route
  by_placed None out e = absurd (none-some out e)
  by_placed (Some k) out e = by_names k (names_of c r k.clause) out e

  pub map_grows : (reference : Option Reference) (out : Passed) → passed c reference r ≡ Some out → Grows r out.route
  unfolding verdict
  map_grows None out e =
      let same : r ≡ out.route = ap (λ (p : Passed). p.route) (same_Some _ out e) in
      subst (Grows r) same (record { longer = omega arith; short = λ short. short })
  map_grows (Some reference) out e = by_placed (deciding c reference.name r) out e

-- ---- sessions

-- how long the path is of a route as it is sent
sent_length : (internal self send : Bool) (asn source : ℕ) (r : Route) → length (cond internal (sent_inside source self (carried send r)) (sent_outside asn source (carried send r))).path ≡ cond internal 0 1 + length r.path
sent_length true true true asn source r = omega arith
sent_length true true false asn source r = omega arith
sent_length true false true asn source r = omega arith
sent_length true false false asn source r = omega arith
sent_length false self true asn source r = omega arith
sent_length false self false asn source r = omega arith

outgoing_path : (internal : Bool) (r : Route) → (outgoing internal r).path ≡ r.path
outgoing_path true r = refl
outgoing_path false r = refl

heavier : (internal learnt_inside : Bool) (before out sent : ℕ) → (internal && learnt_inside) ≡ false → before ≤ out → sent ≡ cond internal 0 1 + out → 2 * before + cond learnt_inside 1 0 + 1 ≤ 2 * sent + cond internal 1 0
heavier true true before out sent outward longer is = absurd (cc)
heavier true false before out sent outward longer is = omega arith
heavier false true before out sent outward longer is = omega arith
heavier false false before out sent outward longer is = omega arith

-- a message weighs more than the candidate of which it is made
pub message_heavier : (m : Message) → IsSent m.link m.best m → 2 * length m.best.route.path + cond m.best.internal 1 0 + 1 ≤ 2 * length m.route.path + cond m.link.session.internal 1 0
message_heavier m sent =
    let k = m.link in
    let b = m.best in
    let grows = map_grows k.sender.config (outgoing k.session.internal b.route) k.sender.statement.map_out m.out sent.out in
    let path : length (outgoing k.session.internal b.route).path ≡ length b.route.path = ap (length {A = ℕ}) (outgoing_path k.session.internal b.route) in
    let longer : length b.route.path ≤ length m.out.route.path = subst (λ (n : ℕ). n ≤ length m.out.route.path) path grows.longer in
    let is = ap (λ (r : Route). length r.path) sent.route ∙ sent_length k.session.internal (k.sender.statement.self_hop || not (is_learnt b.from)) k.sender.statement.send_community k.sender.process.asn k.source m.out.route in
    heavier k.session.internal b.internal (length b.route.path) (length m.out.route.path) (length m.route.path) sent.outward longer is
