-- Pairs of references: where one decides the result, and the two sides of the lowest variable.
use Rattle.std.proofs.Common.{◌≡◌, ℕ, ◌+◌, ◌^◌, ◌<◌, ◌≤◌, Bool, true, false, ◌&&◌, ◌||◌, List, refl, sym, ap, subst, ◌∙◌, inl, inr, arith, if◌then◌else◌, ◌==◌, min}
use Rattle.std.proofs.lemmas.Bool.{cases_eq, cases_lt, ne_eqb, eq-eqb}
use Rattle.nc_diagram.specs.declared.node.Node.{Node}
use Rattle.nc_diagram.specs.declared.apply.Operator.{Operator}
use Rattle.nc_diagram.specs.declared.apply.Operator.TheVariants.{And, Or}
use Rattle.nc_diagram.specs.declared.apply.Pair.{Pair}
use Rattle.nc_diagram.specs.Sets.{Members, has, fixing, below}
use Rattle.nc_diagram.specs.Diagrams.{Belongs, meaning, level, IsReduced}
use Rattle.nc_diagram.specs.Places.{IsNodeAt}
use Rattle.nc_diagram.specs.Counter.{IsEndAt}
use Rattle.nc_diagram.specs.Operations.{combined, IsDecided, absorbing, neutral}
use Rattle.nc_diagram.proofs.SetLemmas.{has-fixing-below, has-fixing-above}
use Rattle.nc_diagram.proofs.DiagramLemmas.{meaning-false, meaning-true, level-constant}
use Rattle.nc_diagram.proofs.Canonicity.{meaning-agree, meaning-end, meaning-fixing_above, end_of, end-older, end-later}

both_same : (operator : Operator) (x : Bool) → x ≡ combined operator x x
both_same And true = refl
both_same And false = refl
both_same Or true = refl
both_same Or false = refl

absorbed_left : (operator : Operator) (nodes : List Node) (s : Members) (y : Bool) → meaning nodes (absorbing operator) s ≡ combined operator (meaning nodes (absorbing operator) s) y
absorbed_left And nodes s y = meaning-false nodes s ∙ ap (λ x. x && y) (sym (meaning-false nodes s))
absorbed_left Or nodes s y = meaning-true nodes s ∙ ap (λ x. x || y) (sym (meaning-true nodes s))

neutral_left : (operator : Operator) (nodes : List Node) (s : Members) (y : Bool) → y ≡ combined operator (meaning nodes (neutral operator) s) y
neutral_left And nodes s y = ap (λ x. x && y) (sym (meaning-true nodes s))
neutral_left Or nodes s y = ap (λ x. x || y) (sym (meaning-false nodes s))

-- the left reference decides
pub IsDecided-same : (operator : Operator) (p : Pair) → p.left ≡ p.right → IsDecided operator p p.left
IsDecided-same operator p e = record { one_of_both = inl refl; value = λ nodes s. both_same operator (meaning nodes p.left s) ∙ ap (λ r. combined operator (meaning nodes p.left s) (meaning nodes r s)) e }

pub IsDecided-absorbing_left : (operator : Operator) (p : Pair) → p.left ≡ absorbing operator → IsDecided operator p p.left
IsDecided-absorbing_left operator p e =
    record { one_of_both = inl refl; value = λ nodes s. subst (λ r. meaning nodes r s ≡ combined operator (meaning nodes r s) (meaning nodes p.right s)) (sym e) (absorbed_left operator nodes s (meaning nodes p.right s)) }

-- the right reference decides
pub IsDecided-neutral_left : (operator : Operator) (p : Pair) → p.left ≡ neutral operator → IsDecided operator p p.right
IsDecided-neutral_left operator p e =
    record { one_of_both = inr refl; value = λ nodes s. subst (λ r. meaning nodes p.right s ≡ combined operator (meaning nodes r s) (meaning nodes p.right s)) (sym e) (neutral_left operator nodes s (meaning nodes p.right s)) }

-- a constant that does not decide the result leaves it to the other
pub neutral-from_other : (operator : Operator) (r : ℕ) → r < 2 → (r ≡ absorbing operator → ⊥) → r ≡ neutral operator
neutral-from_other And r h a = omega arith
neutral-from_other Or r h a = omega arith

-- the code's choice of the end of a reference, on one side of a variable that is not below its own
pub IsEndAt-ends : (nodes : List Node) → IsReduced nodes → (r : ℕ) (n : Node) → IsNodeAt nodes r n → (v : ℕ) → v ≤ n.variable → (side : Bool) (e : ℕ) → e ≡ (if n.variable == v then end_of n side else r) → IsEndAt nodes r v side e
IsEndAt-ends nodes o r n h v above side e is =
    elim (cases_eq n.variable v) [
      | inl same ↦
          (let e_is : e ≡ end_of n side = is ∙ ap (λ b. if b then end_of n side else r) (eq-eqb n.variable v same) in
          let older : e < r = omega (arith, end-older nodes r n h side) in
          let later : v < level nodes e = omega (arith, end-later nodes r n h side, ap (level nodes) e_is) in
          record { no_newer = omega arith; older = λ _. older; later = later; value = λ s. ap (λ q. meaning nodes q s) e_is ∙ sym (meaning-end nodes o r n h side s) ∙ ap (λ w. meaning nodes r (fixing (below w side) s)) same })
      | inr differ ↦
          (let e_is : e ≡ r = is ∙ ap (λ b. if b then end_of n side else r) (ne_eqb n.variable v differ) in
          let later : v < level nodes r = omega (arith, h.asks) in
          let e_later : v < level nodes e = omega (arith, ap (level nodes) e_is) in
          record { no_newer = omega arith; older = λ same. absurd (differ (sym h.asks ∙ same)); later = e_later; value = λ s. ap (λ q. meaning nodes q s) e_is ∙ sym (meaning-fixing_above nodes o r h.belongs v later side s) })
    ]

-- a constant's end is itself
pub IsEndAt-constant : (nodes : List Node) → IsReduced nodes → (r : ℕ) → r < 2 → (v : ℕ) → v < 2 ^ 32 → (side : Bool) → IsEndAt nodes r v side r
IsEndAt-constant nodes o r h v narrow side =
    let lowest = level-constant nodes r h in
    let later : v < level nodes r = omega arith in
    record { no_newer = omega arith; older = λ same. absurd (omega arith); later = later; value = λ s. sym (meaning-fixing_above nodes o r (omega arith) v later side s) }

-- no function asks for a variable above its level
pub meaning-fixing_top : (nodes : List Node) → IsReduced nodes → (r : ℕ) → Belongs nodes r → (v : ℕ) → v ≤ level nodes r → (s : Members) → meaning nodes r s ≡ meaning nodes r (fixing (below v (has s v)) s)
meaning-fixing_top nodes o r b v l s =
    meaning-agree nodes o r b s (fixing (below v (has s v)) s) (λ w above.
    elim (cases_lt v w) [
      | inl past ↦ sym (has-fixing-above v (has s v) s w past)
      | inr no_past ↦ (let same : w ≡ v = omega arith in ap (has s) same ∙ sym (has-fixing-below v (has s v) s) ∙ ap (has (fixing (below v (has s v)) s)) (sym same))
    ])

-- one of the two has the lowest variable, so their sum falls
pub one_falls : (n m v : ℕ) → v ≡ min n m → (a b p q : ℕ) → a ≤ p → b ≤ q → (n ≡ v → a < p) → (m ≡ v → b < q) → a + b < p + q
one_falls n m v least a b p q ap_ bq left right =
    elim (cases_lt m n) [
      | inl h ↦ (let r : b < q = right (omega arith) in omega arith)
      | inr h ↦ (let l : a < p = left (omega arith) in omega arith)
    ]
