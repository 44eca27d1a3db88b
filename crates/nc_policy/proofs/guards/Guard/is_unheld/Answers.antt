use Rattle.std.proofs.Common.{◌≡◌, ◌&&◌, ◌||◌, ℕ, List, Bool, true, false, not, refl, ap, sym, subst, ◌∙◌, rules}
use Rattle.std.specs.List.{list_any}
use Rattle.nc_types.specs.Communities.{has}
use Rattle.nc_policy.proofs.Asking.{has_own, none_held_of, none_of, IsApart}
use Rattle.nc_policy.proofs.guards.Guard.is_unheld.Goals as goal

is_not : (b : Bool) → not b ≡ true → b ≡ false
is_not true e = absurd (cc)
is_not false e = refl

pub returns-then-not-has_one : goal.returns-then-not-has_one
returns-then-not-has_one c = λ yes.
    let own = c.args.self.now.numbers.items in
    let held = c.args.held.now in
    let parts = c.parts.result in
    let seen = c.deref-numbers.result.now in
    let is : c.args.self.now.sound ≡ true = search rules in
    let apart : IsApart seen held = λ n among.
    let one = none_of seen parts.0.now (sym c.has_one.ensures ∙ c.if-not-has_one.true) n among in
    let other = none_of seen parts.1.now (sym c.has_one-then-not-has_one.ensures ∙ is_not c.has_one-then-not-has_one.result yes) n among in
    c.parts.ensures n ∙ ap (λ (b : Bool). b || has n parts.1.now) one ∙ other in
    let none = none_held_of own own held (has_own own) (subst (λ (xs : List ℕ). IsApart xs held) c.deref-numbers.ensures.value apart) in
    ap (λ (b : Bool). b && not (list_any (λ (n : ℕ). has n held) own)) is ∙ ap (λ (b : Bool). not b) none
