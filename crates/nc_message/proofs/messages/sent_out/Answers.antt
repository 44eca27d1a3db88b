use Rattle.std.proofs.Common.{◌≡◌, ◌<◌, ◌≤◌, ◌&&◌, true, false, cond, nat_lt, [], List, length, ℕ, Bool, Option, None, Some, sym, ap, subst, ◌∙◌, arith}
use Rattle.std.proofs.lemmas.Bool.Decides.{nat_tests}
use Rattle.std.specs.Option.{option_and_then, option_map}
use Rattle.nc_types.specs.declared.TheConstants.{COMMUNITY_LIMIT, PATH_LIMIT}
use Rattle.nc_policy.specs.Passing.{communities_by}
use Rattle.nc_sessions.specs.Views.{link_view}
use Rattle.nc_tables.specs.declared.bgp.Chosen.{Chosen}
use Rattle.nc_tables.specs.Rounds.{Link, Message, is_held_back, is_kept_inside, message_of, message_with, out_of}
use Rattle.nc_tables.specs.SpreadView.{route_view}
use Rattle.nc_policy.specs.declared.passing.Passing.{Passing}
use Rattle.nc_message.specs.Views.{message_by, out_view}
use Rattle.nc_message.proofs.Sending.{message_is, path_length, sent_is}
use Rattle.nc_message.proofs.messages.sent_out.Goals as goal
use Rattle.nc_message.proofs.messages.sent_out.Goals.{else-link-via-then-link+else-is_internal, else-link-via-else-link}

is_over : (limit n : ℕ) → limit < n → nat_lt limit n ≡ true
is_over limit n over = grind (arith, nat_tests)

-- what isn't sent of a candidate
module _ (k : Link) (b : Chosen) where
  abbrev if_held : Bool → Option Message
  if_held t = cond t None (cond (is_kept_inside k b) None (option_and_then (message_with k b) (out_of k b)))

  abbrev if_kept : Bool → Option Message
  if_kept t = cond t None (option_and_then (message_with k b) (out_of k b))

  held : is_held_back k.sender.process b.route.prefix ≡ true → None ≡ message_of k b
  held is = sym (ap if_held is)

  kept : is_held_back k.sender.process b.route.prefix ≡ false → is_kept_inside k b ≡ true → None ≡ message_of k b
  kept free is = sym (ap if_held free ∙ ap if_kept is)

  denied : is_held_back k.sender.process b.route.prefix ≡ false → is_kept_inside k b ≡ false → None ≡ out_of k b → None ≡ message_of k b
  denied free may denies = sym (ap if_held free ∙ ap if_kept may ∙ ap (option_and_then (message_with k b)) (sym denies))

  too_long : (out : Passing) → is_held_back k.sender.process b.route.prefix ≡ false → is_kept_inside k b ≡ false → Some (out_view k b out) ≡ out_of k b → PATH_LIMIT < length (message_by k b out).route.path → None ≡ message_of k b
  too_long out free may passes over =
      sym (
      ap if_held free
      ∙ ap if_kept may
      ∙ ap (option_and_then (message_with k b)) (sym passes)
      ∙ ap (λ (t : Bool). cond t None (Some (message_by k b out))) (is_over PATH_LIMIT (length (message_by k b out).route.path) over)
      )

pub returns-then-is_held_back-clause-message : goal.returns-then-is_held_back-clause-message
returns-then-is_held_back-clause-message c =
    let k = link_view c.args.link.now in
    held k (route_view c.args.best) (sym c.is_held_back.ensures ∙ c.if-is_held_back.true)

pub returns-then-is_internal-clause-message : goal.returns-then-is_internal-clause-message
returns-then-is_internal-clause-message c =
    let k = link_view c.args.link.now in
    let b = route_view c.args.best in
    kept k b (sym c.is_held_back.ensures ∙ c.if-is_held_back.false)
    (ap (λ (t : Bool). t && b.internal) c.if-link.true ∙ (sym c.is_internal.ensures ∙ c.if-is_internal.true))

pub returns-in_err-out-clause-message : goal.returns-in_err-out-clause-message
returns-in_err-out-clause-message c =
    let k = link_view c.args.link.now in
    let b = route_view c.args.best in
    let may : (k.session.internal && b.internal) ≡ false = elim c.else-link.branch [
      | else-link-via-then-link+else-is_internal w ↦ ap (λ (t : Bool). t && b.internal) w.if-link.true ∙ (sym w.is_internal.ensures ∙ w.if-is_internal.false)
      | else-link-via-else-link w ↦ ap (λ (t : Bool). t && b.internal) w.if-link.false
    ] in
    ap (option_map (message_by k b)) c.from_residual.ensures
    ∙ denied k b (sym c.is_held_back.ensures ∙ c.if-is_held_back.false) may c.in_err-out.ensures.out

pub returns-then-sent_length-gt-PATH_LIMIT-clause-message : goal.returns-then-sent_length-gt-PATH_LIMIT-clause-message
returns-then-sent_length-gt-PATH_LIMIT-clause-message c =
    let k = link_view c.args.link.now in
    let b = route_view c.args.best in
    let out = c.in_ok-out.out in
    let may : (k.session.internal && b.internal) ≡ false = elim c.else-link.branch [
      | else-link-via-then-link+else-is_internal w ↦ ap (λ (t : Bool). t && b.internal) w.if-link.true ∙ (sym w.is_internal.ensures ∙ w.if-is_internal.false)
      | else-link-via-else-link w ↦ ap (λ (t : Bool). t && b.internal) w.if-link.false
    ] in
    too_long k b out (sym c.is_held_back.ensures ∙ c.if-is_held_back.false) may c.in_ok-out.ensures.out
    (subst (λ (n : ℕ). PATH_LIMIT < n) (c.sent_length.ensures ∙ sym (path_length k b out)) c.if-sent_length-gt-PATH_LIMIT.true)

pub returns-clause-message : goal.returns-clause-message
returns-clause-message c =
    let k = link_view c.args.link.now in
    let b = route_view c.args.best in
    let out = c.in_ok-out.out in
    let may : (k.session.internal && b.internal) ≡ false = elim c.else-link.branch [
      | else-link-via-then-link+else-is_internal w ↦ ap (λ (t : Bool). t && b.internal) w.if-link.true ∙ (sym w.is_internal.ensures ∙ w.if-is_internal.false)
      | else-link-via-else-link w ↦ ap (λ (t : Bool). t && b.internal) w.if-link.false
    ] in
    sent_is k b out (sym c.is_held_back.ensures ∙ c.if-is_held_back.false) may c.in_ok-out.ensures.out
    (let short : length (message_by k b out).route.path ≤ PATH_LIMIT = omega (arith, path_length k b out, c.sent_length.ensures, c.if-sent_length-gt-PATH_LIMIT.false) in short)

pub returns-clause-short : goal.returns-clause-short
returns-clause-short c =
    omega (arith, path_length (link_view c.args.link.now) (route_view c.args.best) c.in_ok-out.out, c.sent_length.ensures, c.if-sent_length-gt-PATH_LIMIT.false)

-- what isn't sent is few too
few_sent : (send : Bool) (left : List ℕ) → length left ≤ COMMUNITY_LIMIT → length (cond send left []) ≤ COMMUNITY_LIMIT
few_sent true left few = few
few_sent false left few = omega arith

pub returns-clause-few : goal.returns-clause-few
returns-clause-few c =
    let k = link_view c.args.link.now in
    let b = route_view c.args.best in
    let out = c.in_ok-out.out in
    subst (λ (l : List ℕ). length l ≤ COMMUNITY_LIMIT) (sym (message_is k b out).communities) (few_sent k.sender.statement.send_community (communities_by out b.route.communities) c.in_ok-out.ensures.few)
