-- A route keeps its prefix: through a map, as it is sent, and as it is accepted.
use Rattle.std.proofs.Common.{◌≡◌, ℕ, Bool, true, false, cond, not, ◌||◌, List, IfSome, Option, Some, None, refl, ◌∙◌}
use Rattle.std.specs.Option.{option_and_then, option_map, option_map_or}
use Rattle.nc_types.proofs.Options.{then_some}
use Rattle.nc_types.specs.Config.{ConfigView}
use Rattle.nc_types.specs.declared.config.Reference.{Reference}
use Rattle.nc_tables.specs.declared.base.BaseRow.{BaseRow}
use Rattle.nc_tables.specs.declared.bgp.Chosen.{Chosen}
use Rattle.nc_tables.specs.declared.bgp.Route.{Route}
use Rattle.nc_tables.specs.declared.policy.Names.{Names}
use Rattle.nc_tables.specs.Choice.{is_learnt}
use Rattle.nc_tables.specs.Policy.{Verdict, Deny, Permit, Placed, set_by, is_long, is_over, verdict_by, deciding, names_of, verdict}
use Rattle.nc_tables.specs.Rounds.{Passed, Link, Message, Accepted, passed, passed_by, carried, outgoing, out_of, sent_inside, sent_outside, sent_over, is_held_back, is_kept_inside, message_with, message_of, is_looped, has_own_hop, is_unresolved, accepted_of}
use Rattle.nc_message.proofs.Sending.{is_outgoing}

-- ---- maps

abbrev Permits : Route → Verdict → Type 0
Permits r Deny = Unit {0}
Permits r (Permit route clause names) = route.prefix ≡ r.prefix

verdict_keeps : (c : ConfigView) (name : List ℕ) (r : Route) → Permits r (verdict c name r)
unfolding verdict
verdict_keeps c name r = on_clause (deciding c name r)
  where
    by_size : (k : Placed) (names : Names) (over : Bool) → Permits r (cond over Deny (Permit (set_by k.clause r) k.place names))
    by_size k names true = tt
    by_size k names false = refl

    by_clause : (k : Placed) (names : Names) (permit : Bool) → Permits r (cond permit (cond (is_over (set_by k.clause r)) Deny (Permit (set_by k.clause r) k.place names)) Deny)
    by_clause k names true = by_size k names (is_over (set_by k.clause r))
    by_clause k names false = tt

    on_names : (k : Placed) (o : Option Names) → Permits r (option_map_or (verdict_by r k) o Deny)
    on_names k None = tt
    on_names k (Some names) = by_clause k names k.clause.permit

    on_clause : (o : Option Placed) → Permits r (option_map_or (λ k. option_map_or (verdict_by r k) (names_of c r k.clause) Deny) o Deny)
    on_clause None = tt
    on_clause (Some k) = on_names k (names_of c r k.clause)

passed_keeps : (c : ConfigView) (o : Option Reference) (r : Route) → IfSome (passed c o r) (λ p. p.route.prefix ≡ r.prefix)
passed_keeps c None r = refl
passed_keeps c (Some reference) r = on (verdict c reference.name r) (verdict_keeps c reference.name r)
  where
    on : (v : Verdict) → Permits r v → IfSome (passed_by v) (λ p. p.route.prefix ≡ r.prefix)
    on Deny permits = tt
    on (Permit route clause names) permits = permits

-- ---- messages

sent_keeps : (k : Link) (b : Chosen) (r : Route) → (sent_over k b r).prefix ≡ r.prefix
sent_keeps k b r = on k.session.internal k.sender.statement.send_community (k.sender.statement.self_hop || not (is_learnt b.from))
  where
    on : (internal send self : Bool) → (cond internal (sent_inside k.source self (carried send r)) (sent_outside k.sender.process.asn k.source (carried send r))).prefix ≡ r.prefix
    on true true true = refl
    on true true false = refl
    on true false true = refl
    on true false false = refl
    on false true self = refl
    on false false self = refl

abbrev IsMessageOf : Chosen → Message → Type 0
IsMessageOf b m = m.route.prefix ≡ b.route.prefix

pub message_keeps : (k : Link) (b : Chosen) → IfSome (message_of k b) (λ m. m.route.prefix ≡ b.route.prefix)
message_keeps k b = by_holding (is_held_back k.sender.process b.route.prefix) (is_kept_inside k b)
  where
    by_length : (out : Passed) → out.route.prefix ≡ b.route.prefix → (long : Bool) → IfSome (cond long None (Some (record { link = k; best = b; out = out; route = sent_over k b out.route }))) (IsMessageOf b)
    by_length out same true = tt
    by_length out same false = sent_keeps k b out.route ∙ same

    sent : IfSome (option_and_then (message_with k b) (out_of k b)) (IsMessageOf b)
    sent =
        then_some (λ (out : Passed). out.route.prefix ≡ (outgoing k.session.internal b.route).prefix) (IsMessageOf b) (message_with k b)
        (λ out same. by_length out (same ∙ (is_outgoing k.session.internal b.route).prefix) (is_long (sent_over k b out.route)))
        (out_of k b) (passed_keeps k.sender.config k.sender.statement.map_out (outgoing k.session.internal b.route))

    by_holding : (held inside : Bool) → IfSome (cond held None (cond inside None (option_and_then (message_with k b) (out_of k b)))) (IsMessageOf b)
    by_holding true inside = tt
    by_holding false true = tt
    by_holding false false = sent

abbrev IsAcceptedOf : Message → Accepted → Type 0
IsAcceptedOf m a = a.into.route.prefix ≡ m.route.prefix

pub accepted_keeps : (tables : List (List BaseRow)) (router : ℕ) (m : Message) → IfSome (accepted_of tables router m) (λ a. a.into.route.prefix ≡ m.route.prefix)
accepted_keeps tables router m = by_tests (is_looped m) (has_own_hop m) (is_unresolved tables router m)
  where
    into : (o : Option Passed) → IfSome o (λ p. p.route.prefix ≡ m.route.prefix) → IfSome (option_map (λ p. record { message = m; into = p }) o) (IsAcceptedOf m)
    into None some = tt
    into (Some p) some = some

    by_tests : (looped own unresolved : Bool)
        → IfSome (cond looped None (cond own None (cond unresolved None (option_map (λ p. record { message = m; into = p }) (passed m.link.receiver.config m.link.receiver.statement.map_in m.route))))) (IsAcceptedOf m)
    by_tests true own unresolved = tt
    by_tests false true unresolved = tt
    by_tests false false true = tt
    by_tests false false false = into (passed m.link.receiver.config m.link.receiver.statement.map_in m.route) (passed_keeps m.link.receiver.config m.link.receiver.statement.map_in m.route)
