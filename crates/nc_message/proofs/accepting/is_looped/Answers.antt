use Rattle.std.proofs.Common.{◌≡◌, ◌||◌, ◌==◌, ◌&&◌, not, true, false, Bool, ℕ, refl, sym, ap, ◌∙◌}
use Rattle.std.specs.List.{list_any}
use Rattle.nc_policy.specs.Passing.{prepended_by}
use Rattle.nc_sessions.specs.Views.{link_view}
use Rattle.nc_message.specs.declared.messages.Advertisement.{Advertisement}
use Rattle.nc_message.specs.Views.{advertised, message_view}
use Rattle.nc_tables.specs.Rounds.{is_looped}
use Rattle.nc_tables.specs.SpreadView.{route_view}
use Rattle.nc_message.proofs.Sending.{looped_is}
use Rattle.nc_message.proofs.accepting.is_looped.Goals as goal

module _ (s : Advertisement) where
  abbrev is_own_number : ℕ → Bool
  is_own_number n = n == s.link.receiver.process.now.asn

  abbrev has_sender : Bool
  has_sender = not s.link.session.internal && is_own_number s.link.sender.process.now.asn

  abbrev has_prepended : Bool
  has_prepended = list_any is_own_number (prepended_by s.out)

  abbrev has_path : Bool
  has_path = list_any is_own_number (route_view s.best).route.path

  looped : is_looped (message_view s) ≡ (has_sender || (has_prepended || has_path))
  looped = looped_is (link_view s.link) (route_view s.best) s.out

pub returns-then-has_own_sender : goal.returns-then-has_own_sender
returns-then-has_own_sender c =
    let s = advertised c.args.sent.now in
    sym (looped s ∙ ap (λ (t : Bool). t || (has_prepended s || has_path s)) (sym c.has_own_sender.ensures ∙ c.if-has_own_sender.true))

or_false : (b : Bool) → (b || false) ≡ b
or_false true = refl
or_false false = refl

pub returns : goal.returns
returns c =
    let s = advertised c.args.sent.now in
    let none : has_sender s ≡ false = sym c.has_own_sender.ensures ∙ c.if-has_own_sender.false in
    let same : has_prepended s ≡ c.has.result = ap (list_any (is_own_number s)) (sym c.prepended.ensures) ∙ sym c.has.ensures in
    sym (looped s ∙ ap (λ (t : Bool). t || (has_prepended s || has_path s)) none ∙ ap (λ (t : Bool). has_prepended s || t) c.requires ∙ or_false (has_prepended s) ∙ same)
