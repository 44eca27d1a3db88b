use Rattle.std.proofs.Common.{◌≡◌, ◌≤◌, ℕ, List, Option, None, Bool, true, false, cond, not, nat_lt, length, sym, ap, subst, ◌∙◌, arith}
use Rattle.std.proofs.lemmas.List.{length-append}
use Rattle.std.specs.Option.{option_map}
use Rattle.nc_types.specs.declared.TheConstants.{COMMUNITY_LIMIT, PATH_LIMIT}
use Rattle.nc_types.specs.declared.addr.Addr.{Addr}
use Rattle.nc_tables.specs.Base.{is_own}
use Rattle.nc_tables.specs.Reach.{hits}
use Rattle.nc_types.specs.declared.config.Reference.{Reference}
use Rattle.nc_tables.specs.declared.base.BaseRow.{BaseRow}
use Rattle.nc_tables.specs.Rounds.{Accepted, Message, Passed, accepted_of, has_own_hop, is_looped, is_unresolved, passed}
use Rattle.nc_tables.specs.SpreadView.{route_view}
use Rattle.nc_policy.specs.Passing.{communities_by, passing_view, prepended_by}
use Rattle.nc_policy.specs.declared.passing.Passing.TheVariants.{Unchanged}
use Rattle.nc_sessions.specs.Views.{link_view}
use Rattle.nc_message.specs.Views.{accepted_by, advertised, message_view}
use Rattle.nc_message.proofs.Sending.{message_is, path_length, taken_is}
use Rattle.nc_message.proofs.accepting.passed_into.Goals.{then-is_looped-via-then-is_looped, then-is_looped-via-else-is_looped+then-is_own_hop}
use Rattle.nc_message.proofs.accepting.passed_into.Goals as goal

-- what isn't accepted of a message
module _ (tables : List (List BaseRow)) (router : ℕ) (m : Message) where
  abbrev taken : Option Passed → Option Accepted
  taken o = option_map (λ (p : Passed). record { message = m; into = p }) o

  abbrev way : Option Passed
  way = passed m.link.receiver.config m.link.receiver.statement.map_in m.route

  abbrev if_looped : Bool → Option Accepted
  if_looped t = cond t None (cond (has_own_hop m) None (cond (is_unresolved tables router m) None (taken way)))

  abbrev if_own : Bool → Option Accepted
  if_own t = cond t None (cond (is_unresolved tables router m) None (taken way))

  abbrev if_led : Bool → Option Accepted
  if_led t = cond (not t) None (taken way)

  looped : is_looped m ≡ true → None ≡ accepted_of tables router m
  looped holds = sym (ap if_looped holds)

  own : is_looped m ≡ false → has_own_hop m ≡ true → None ≡ accepted_of tables router m
  own free is = sym (ap if_looped free ∙ ap if_own is)

  astray : is_looped m ≡ false → has_own_hop m ≡ false → nat_lt 0 (length (hits tables router m.route.next_hop.0)) ≡ false → None ≡ accepted_of tables router m
  astray free other leads = sym (ap if_looped free ∙ ap if_own other ∙ ap if_led leads)

  denied : is_looped m ≡ false → has_own_hop m ≡ false → nat_lt 0 (length (hits tables router m.route.next_hop.0)) ≡ true → None ≡ way → None ≡ accepted_of tables router m
  denied free other leads denies = sym (ap if_looped free ∙ ap if_own other ∙ ap if_led leads ∙ ap taken (sym denies))

pub returns-then-is_looped-clause-accepted : goal.returns-then-is_looped-clause-accepted
returns-then-is_looped-clause-accepted c =
    let m = message_view (advertised c.args.sent.now) in
    let base = c.args.inputs.now.base.now in
    elim c.then-is_looped.branch [
      | then-is_looped-via-then-is_looped w ↦ looped base c.args.router.0 m (sym c.is_looped.ensures ∙ w.if-is_looped.true)
      | then-is_looped-via-else-is_looped+then-is_own_hop w ↦
          own base c.args.router.0 m (sym c.is_looped.ensures ∙ w.if-is_looped.false)
          (ap (λ (a : Addr). is_own m.link.receiver.config.interfaces a.0) (sym c.hop_of-hop.ensures) ∙ sym w.is_own_hop.ensures ∙ w.if-is_own_hop.true)
    ]

pub returns-then-not-is_resolved-clause-accepted : goal.returns-then-not-is_resolved-clause-accepted
returns-then-not-is_resolved-clause-accepted c =
    let m = message_view (advertised c.args.sent.now) in
    let base = c.args.inputs.now.base.now in
    let router = c.args.router.0 in
    let other : has_own_hop m ≡ false =
    ap (λ (a : Addr). is_own m.link.receiver.config.interfaces a.0) (sym c.hop_of-hop.ensures) ∙ sym c.is_own_hop.ensures ∙ c.if-is_own_hop.false in
    let leads : nat_lt 0 (length (hits base router m.route.next_hop.0)) ≡ false =
    ap (λ (a : Addr). nat_lt 0 (length (hits base router a.0))) (sym c.hop_of-hop.ensures) ∙ sym c.is_resolved.ensures ∙ c.if-not-is_resolved.true in
    astray base router m (sym c.is_looped.ensures ∙ c.if-is_looped.false) other leads

pub returns-in_err-into-clause-accepted : goal.returns-in_err-into-clause-accepted
returns-in_err-into-clause-accepted c =
    let s = advertised c.args.sent.now in
    let m = message_view s in
    let k = link_view s.link in
    let is = message_is k (route_view s.best) s.out in
    let base = c.args.inputs.now.base.now in
    let router = c.args.router.0 in
    let other : has_own_hop m ≡ false =
    ap (λ (a : Addr). is_own m.link.receiver.config.interfaces a.0) (sym c.hop_of-hop.ensures) ∙ sym c.is_own_hop.ensures ∙ c.if-is_own_hop.false in
    let leads : nat_lt 0 (length (hits base router m.route.next_hop.0)) ≡ true =
    ap (λ (a : Addr). nat_lt 0 (length (hits base router a.0))) (sym c.hop_of-hop.ensures) ∙ sym c.is_resolved.ensures ∙ c.if-not-is_resolved.false in
    ap (option_map (accepted_by s)) c.from_residual.ensures
    ∙ denied base router m (sym c.is_looped.ensures ∙ c.if-is_looped.false) other leads
    (c.in_err-into.ensures.passed m.link.receiver.config m.route c.requires.between.receiver is.prefix (path_length k (route_view s.best) s.out ∙ sym c.sent_length-count.ensures)
    (sym c.carried-held.ensures))

pub pass_at-requires-clause-few : goal.pass_at-requires-clause-few
pass_at-requires-clause-few c =
    let s = advertised c.args.sent.now in
    subst (λ (n : ℕ). n ≤ PATH_LIMIT) (path_length (link_view s.link) (route_view s.best) s.out ∙ sym c.sent_length-count.ensures) c.requires.feasible.short

pub returns-clause-accepted : goal.returns-clause-accepted
returns-clause-accepted c =
    let s = advertised c.args.sent.now in
    let m = message_view s in
    let k = link_view s.link in
    let is = message_is k (route_view s.best) s.out in
    let base = c.args.inputs.now.base.now in
    let router = c.args.router.0 in
    let other : has_own_hop m ≡ false =
    ap (λ (a : Addr). is_own m.link.receiver.config.interfaces a.0) (sym c.hop_of-hop.ensures) ∙ sym c.is_own_hop.ensures ∙ c.if-is_own_hop.false in
    let leads : nat_lt 0 (length (hits base router m.route.next_hop.0)) ≡ true =
    ap (λ (a : Addr). nat_lt 0 (length (hits base router a.0))) (sym c.hop_of-hop.ensures) ∙ sym c.is_resolved.ensures ∙ c.if-not-is_resolved.false in
    taken_is base router m (passing_view m.route c.in_ok-into.into)
    (sym c.is_looped.ensures ∙ c.if-is_looped.false) other leads
    (c.in_ok-into.ensures.passed m.link.receiver.config m.route c.requires.between.receiver is.prefix (path_length k (route_view s.best) s.out ∙ sym c.sent_length-count.ensures) (sym c.carried-held.ensures))

pub returns-clause-short : goal.returns-clause-short
returns-clause-short c =
    let s = advertised c.args.sent.now in
    let into = c.in_ok-into.into in
    omega (arith, length-append (prepended_by into) (message_view s).route.path, path_length (link_view s.link) (route_view s.best) s.out, c.sent_length-count.ensures, c.in_ok-into.ensures.short)

pub returns-clause-few : goal.returns-clause-few
returns-clause-few c =
    let into = c.in_ok-into.into in
    let held : length c.carried-held.result ≤ COMMUNITY_LIMIT = subst (λ (l : List ℕ). length l ≤ COMMUNITY_LIMIT) (sym c.carried-held.ensures) c.requires.feasible.few in
    subst (λ (l : List ℕ). length (communities_by into l) ≤ COMMUNITY_LIMIT) c.carried-held.ensures (c.in_ok-into.ensures.few held)

-- without a map it stays as it was sent
pub returns-in_default-clause-accepted : goal.returns-in_default-clause-accepted
returns-in_default-clause-accepted c =
    let s = advertised c.args.sent.now in
    let m = message_view s in
    let base = c.args.inputs.now.base.now in
    let router = c.args.router.0 in
    let other : has_own_hop m ≡ false =
    ap (λ (a : Addr). is_own m.link.receiver.config.interfaces a.0) (sym c.hop_of-hop.ensures) ∙ sym c.is_own_hop.ensures ∙ c.if-is_own_hop.false in
    let leads : nat_lt 0 (length (hits base router m.route.next_hop.0)) ≡ true =
    ap (λ (a : Addr). nat_lt 0 (length (hits base router a.0))) (sym c.hop_of-hop.ensures) ∙ sym c.is_resolved.ensures ∙ c.if-not-is_resolved.false in
    taken_is base router m (passing_view m.route Unchanged)
    (sym c.is_looped.ensures ∙ c.if-is_looped.false) other leads
    (sym (ap (λ (o : Option Reference). passed m.link.receiver.config o m.route) c.in_default.is))

pub returns-in_default-clause-short : goal.returns-in_default-clause-short
returns-in_default-clause-short c = c.requires.feasible.short

pub returns-in_default-clause-few : goal.returns-in_default-clause-few
returns-in_default-clause-few c = c.requires.feasible.few
