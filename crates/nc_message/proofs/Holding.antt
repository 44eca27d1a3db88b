-- Of a path that holds the receiver's system what is sent holds it too, whatever the maps on its way, and so it isn't accepted.
use Rattle.std.proofs.Common.{◌≡◌, ℕ, Bool, true, false, cond, not, ◌||◌, ◌==◌, List, IfSome, Option, Some, None, refl, sym, ap, ◌∙◌}
use Rattle.std.specs.List.{list_any}
use Rattle.std.specs.Option.{option_and_then, option_map, option_map_or}
use Rattle.std.proofs.lemmas.List.Folds.{list_any-append}
use Rattle.nc_types.proofs.Options.{then_some}
use Rattle.nc_types.specs.Config.{ConfigView}
use Rattle.nc_types.specs.declared.config.Reference.{Reference}
use Rattle.nc_tables.specs.declared.base.BaseRow.{BaseRow}
use Rattle.nc_tables.specs.declared.bgp.Chosen.{Chosen}
use Rattle.nc_tables.specs.declared.bgp.Route.{Route}
use Rattle.nc_tables.specs.declared.policy.Names.{Names}
use Rattle.nc_tables.specs.Choice.{is_learnt}
use Rattle.nc_tables.specs.Policy.{Verdict, Deny, Permit, Placed, set_by, is_long, is_over, verdict_by, deciding, names_of, verdict}
use Rattle.nc_tables.specs.Rounds.{Passed, Link, Message, Accepted, passed, passed_by, carried, outgoing, out_of, sent_inside, sent_outside, sent_over, is_held_back, is_kept_inside, message_with, message_of, is_looped, has_own_hop, is_unresolved, accepted_of}

or_true : (b : Bool) → (b || true) ≡ true
or_true true = refl
or_true false = refl

-- a message whose path holds the receiver's system isn't accepted
pub not_taken : (tables : List (List BaseRow)) (router : ℕ) (m : Message) → is_looped m ≡ true → None ≡ accepted_of tables router m
not_taken tables router m looped =
    let taken : Option Passed → Option Accepted = λ o. option_map (λ (p : Passed). record { message = m; into = p }) o in
    let way = passed m.link.receiver.config m.link.receiver.statement.map_in m.route in
    sym (ap (λ (t : Bool). cond t None (cond (has_own_hop m) None (cond (is_unresolved tables router m) None (taken way)))) looped)

module _ (number : ℕ) where
  abbrev Holds : Route → Type 0
  Holds r = list_any (λ n. n == number) r.path ≡ true

  -- ---- a map takes nothing out of a path

  abbrev Keeps : Verdict → Type 0
  Keeps Deny = Unit {0}
  Keeps (Permit route clause names) = Holds route

  verdict_keeps : (c : ConfigView) (name : List ℕ) (r : Route) → Holds r → Keeps (verdict c name r)
  unfolding verdict
  verdict_keeps c name r holds = on_clause (deciding c name r)
    where
      by_size : (k : Placed) (names : Names) (over : Bool) → Keeps (cond over Deny (Permit (set_by k.clause r) k.place names))
      by_size k names true = tt
      by_size k names false =
          list_any-append (λ n. n == number) k.clause.prepend r.path
          ∙ ap (λ (t : Bool). list_any (λ n. n == number) k.clause.prepend || t) holds
          ∙ or_true (list_any (λ n. n == number) k.clause.prepend)

      by_clause : (k : Placed) (names : Names) (permit : Bool) → Keeps (cond permit (cond (is_over (set_by k.clause r)) Deny (Permit (set_by k.clause r) k.place names)) Deny)
      by_clause k names true = by_size k names (is_over (set_by k.clause r))
      by_clause k names false = tt

      on_names : (k : Placed) (o : Option Names) → Keeps (option_map_or (verdict_by r k) o Deny)
      on_names k None = tt
      on_names k (Some names) = by_clause k names k.clause.permit

      on_clause : (o : Option Placed) → Keeps (option_map_or (λ k. option_map_or (verdict_by r k) (names_of c r k.clause) Deny) o Deny)
      on_clause None = tt
      on_clause (Some k) = on_names k (names_of c r k.clause)

  passed_keeps : (c : ConfigView) (o : Option Reference) (r : Route) → Holds r → IfSome (passed c o r) (λ p. Holds p.route)
  passed_keeps c None r holds = holds
  passed_keeps c (Some reference) r holds = on (verdict c reference.name r) (verdict_keeps c reference.name r holds)
    where
      on : (v : Verdict) → Keeps v → IfSome (passed_by v) (λ p. Holds p.route)
      on Deny keeps = tt
      on (Permit route clause names) keeps = keeps

  -- ---- nor does a session

  outgoing_holds : (internal : Bool) (r : Route) → Holds r → Holds (outgoing internal r)
  outgoing_holds true r holds = holds
  outgoing_holds false r holds = holds

  sent_holds : (asn source : ℕ) (internal send self : Bool) (r : Route) → Holds r → Holds (cond internal (sent_inside source self (carried send r)) (sent_outside asn source (carried send r)))
  sent_holds asn source true true true r holds = holds
  sent_holds asn source true true false r holds = holds
  sent_holds asn source true false true r holds = holds
  sent_holds asn source true false false r holds = holds
  sent_holds asn source false true self r holds = ap (λ (t : Bool). (asn == number) || t) holds ∙ or_true (asn == number)
  sent_holds asn source false false self r holds = ap (λ (t : Bool). (asn == number) || t) holds ∙ or_true (asn == number)

module _ (k : Link) (b : Chosen) (held : list_any (λ n. n == k.receiver.process.asn) b.route.path ≡ true) where
  abbrev IsLooped : Message → Type 0
  IsLooped m = is_looped m ≡ true

  all_looped : IfSome (message_of k b) IsLooped
  all_looped = by_holding (is_held_back k.sender.process b.route.prefix) (is_kept_inside k b)
    where
      number : ℕ
      number = k.receiver.process.asn

      by_length : (out : Passed) → Holds number out.route → (long : Bool) → IfSome (cond long None (Some (record { link = k; best = b; out = out; route = sent_over k b out.route }))) IsLooped
      by_length out holds true = tt
      by_length out holds false =
          sent_holds number k.sender.process.asn k.source k.session.internal k.sender.statement.send_community (k.sender.statement.self_hop || not (is_learnt b.from)) out.route holds

      sent : IfSome (option_and_then (message_with k b) (out_of k b)) IsLooped
      sent =
          then_some (λ (out : Passed). Holds number out.route) IsLooped (message_with k b)
          (λ out holds. by_length out holds (is_long (sent_over k b out.route)))
          (out_of k b) (passed_keeps number k.sender.config k.sender.statement.map_out (outgoing k.session.internal b.route) (outgoing_holds number k.session.internal b.route held))

      by_holding : (back inside : Bool) → IfSome (cond back None (cond inside None (option_and_then (message_with k b) (out_of k b)))) IsLooped
      by_holding true inside = tt
      by_holding false true = tt
      by_holding false false = sent

  pub held_not_taken : (tables : List (List BaseRow)) (router : ℕ) → None ≡ option_and_then (accepted_of tables router) (message_of k b)
  held_not_taken tables router = on (message_of k b) all_looped
    where
      on : (o : Option Message) → IfSome o IsLooped → None ≡ option_and_then (accepted_of tables router) o
      on None looped = refl
      on (Some m) looped = not_taken tables router m looped
