-- The way through slots, from one to the next, comes to each of them.
use Rattle.std.proofs.Common.{◌≡◌, ◌⊎◌, ℕ, ◌+◌, ◌-◌, ◌<◌, if◌then◌else◌, Bool, sym, ap, subst, inl, inr, arith}
use Rattle.std.proofs.lemmas.Bool.{cases_eq, cases_lt, eq-eqb, ne_eqb}
use Rattle.nc_diagram.specs.Index.{next}

-- from a slot, of so many, the way comes to one that passes, in fewer steps than some
pub record ComesTo (P : ℕ → Type 0) (count room at : ℕ) : Type 0 where
  pub to : ℕ
  pub left : ℕ
  pub there : P to
  pub to_within : to < count
  pub within : at < count
  pub few : left < room
  pub ahead : (at + left ≡ to) ⊎ (at + left ≡ to + count)

pub ComesTo-first : (P : ℕ → Type 0) (count from to : ℕ) → to < count → P to → from < count → ComesTo P count count from
ComesTo-first P count from to to_within there within = elim (cases_lt to from) [
  | inl behind ↦ record { to = to; left = to + count - from; there = there; to_within = to_within; within = within; few = omega arith; ahead = inr (omega arith) }
  | inr before ↦ record { to = to; left = to - from; there = there; to_within = to_within; within = within; few = omega arith; ahead = inl (omega arith) }
]

-- the step behind the last slot, and any other
around : (count to at left : ℕ) → to < count → at + 1 ≡ count → (at ≡ to → ⊥) → (at + left ≡ to) ⊎ (at + left ≡ to + count) → (0 < left) × ((0 + (left - 1) ≡ to) ⊎ (0 + (left - 1) ≡ to + count))
around count to at left low last other ahead = elim ahead [
  | inl here ↦ absurd (other (omega arith))
  | inr there ↦ (omega arith, inl (omega arith))
]

onward : (count to at left : ℕ) → at < count → (at ≡ to → ⊥) → (at + left ≡ to) ⊎ (at + left ≡ to + count) → (0 < left) × ((at + 1 + (left - 1) ≡ to) ⊎ (at + 1 + (left - 1) ≡ to + count))
onward count to at left low other ahead = elim (cases_lt 0 left) [
  | inl some ↦ (some, elim ahead [ inl here ↦ inl (omega arith) | inr there ↦ inr (omega arith) ])
  | inr none ↦ elim ahead [ inl here ↦ absurd (other (omega arith)) | inr there ↦ (omega arith, inr (omega arith)) ]
]

pub ComesTo-next : (P : ℕ → Type 0) (count room at : ℕ) → (P at → ⊥) → ComesTo P count room at → ComesTo P count (room - 1) (next count at)
ComesTo-next P count room at other is =
    let elsewhere : at ≡ is.to → ⊥ = λ e. other (subst P (sym e) is.there) in
    elim (cases_eq (at + 1) count) [
      | inl last ↦
          (let step = around count is.to at is.left is.to_within last elsewhere is.ahead in
          subst (ComesTo P count (room - 1)) (sym (ap (λ (b : Bool). if b then 0 else at + 1) (eq-eqb (at + 1) count last)))
          (record { to = is.to; left = is.left - 1; there = is.there; to_within = is.to_within; within = omega (arith, is.to_within); few = omega (arith, step.0, is.few); ahead = step.1 }))
      | inr before ↦
          (let step = onward count is.to at is.left is.within elsewhere is.ahead in
          subst (ComesTo P count (room - 1)) (sym (ap (λ (b : Bool). if b then 0 else at + 1) (ne_eqb (at + 1) count before)))
          (record { to = is.to; left = is.left - 1; there = is.there; to_within = is.to_within; within = omega (arith, is.within); few = omega (arith, step.0, is.few); ahead = step.1 }))
    ]

pub next-within : (count at : ℕ) → at < count → next count at < count
next-within count at within = elim (cases_eq (at + 1) count) [
  | inl last ↦ subst (λ to. to < count) (sym (ap (λ (b : Bool). if b then 0 else at + 1) (eq-eqb (at + 1) count last))) (omega arith)
  | inr before ↦ subst (λ to. to < count) (sym (ap (λ (b : Bool). if b then 0 else at + 1) (ne_eqb (at + 1) count before))) (omega arith)
]
