-- The parts of a reference by its node, and which references are constant.
use Rattle.std.proofs.Common.{◌≡◌, ℕ, ◌<◌, ◌↔◌, true, false, List, sym, ap, ◌∙◌, inl, inr, arith, if◌then◌else◌, ◌==◌}
use Rattle.std.proofs.lemmas.Bool.{cases_lt}
use Rattle.std.proofs.lemmas.Option.{same_Some}
use Rattle.nc_diagram.specs.declared.node.Node.{Node}
use Rattle.nc_diagram.specs.declared.parts.Split.{Split}
use Rattle.nc_diagram.specs.Sets.{Same}
use Rattle.nc_diagram.specs.Diagrams.{Belongs, meaning, level, IsReduced}
use Rattle.nc_diagram.specs.Places.{IsNodeAt}
use Rattle.nc_diagram.specs.Splits.{IsConstant, IsLater, Splits, node_of}
use Rattle.nc_diagram.proofs.DiagramLemmas.{meaning-true, meaning-false, meaning-constant}
use Rattle.nc_diagram.proofs.Canonicity.{meaning-agree, canonical, node_varies}

-- the function of a reference depends on no variable below its level
IsLater-level : (nodes : List Node) → IsReduced nodes → (r : ℕ) → Belongs nodes r → (v : ℕ) → v < level nodes r → IsLater v (meaning nodes r)
IsLater-level nodes o r b v lt s t same = meaning-agree nodes o r b s t (λ w le. same w (omega arith))

-- the ends of a node are the parts of its reference
pub Splits-node : (nodes : List Node) → IsReduced nodes → (r : ℕ) (parts : Split) → IsNodeAt nodes r (node_of parts) → Splits nodes r parts
Splits-node nodes o r parts h =
    let low : Belongs nodes parts.low = omega (arith, h.low_older, h.belongs) in
    let high : Belongs nodes parts.high = omega (arith, h.high_older, h.belongs) in
    record {
      low_older = h.low_older;
      high_older = h.high_older;
      expansion = record {
        missing = λ s e. h.value s ∙ ap (λ b. meaning nodes (if b then parts.high else parts.low) s) e;
        member = λ s e. h.value s ∙ ap (λ b. meaning nodes (if b then parts.high else parts.low) s) e;
        low_later = IsLater-level nodes o parts.low low parts.variable h.low_later;
        high_later = IsLater-level nodes o parts.high high parts.variable h.high_later;
      };
      found = h.found;
    }

-- the parts of a reference are unique
pub Splits-same : (nodes : List Node) (r : ℕ) (one other : Split) → Splits nodes r one → Splits nodes r other → (one.variable ≡ other.variable) × (one.low ≡ other.low) × (one.high ≡ other.high)
Splits-same nodes r one other h k =
    let same : node_of one ≡ node_of other = same_Some (node_of one) (node_of other) (sym h.found ∙ k.found) in
    (ap (λ (n : Node). n.variable) same, ap (λ (n : Node). n.low) same, ap (λ (n : Node). n.high) same)

-- the constants are the places below 2
pub IsConstant-low : (nodes : List Node) (r : ℕ) → r < 2 → IsConstant (meaning nodes r)
IsConstant-low nodes r h = (r == 1, meaning-constant nodes r h)

pub low-IsConstant : (nodes : List Node) → IsReduced nodes → (r : ℕ) → Belongs nodes r → IsConstant (meaning nodes r) → r < 2
low-IsConstant nodes o r b c =
    elim (cases_lt r 2) [
      | inl lt ↦ lt
      | inr le ↦ absurd (node_varies nodes o r le b c.0 c.1)
    ]

pub never-is : (nodes : List Node) → IsReduced nodes → (r : ℕ) → Belongs nodes r → (r ≡ 0) ↔ Same (meaning nodes r) (λ _. false)
never-is nodes o r b = (
  λ e s. ap (λ p. meaning nodes p s) e ∙ meaning-false nodes s,
  λ same. canonical nodes o r 0 b (omega arith) (λ s. same s ∙ sym (meaning-false nodes s)),
)

pub always-is : (nodes : List Node) → IsReduced nodes → (r : ℕ) → Belongs nodes r → (r ≡ 1) ↔ Same (meaning nodes r) (λ _. true)
always-is nodes o r b = (
  λ e s. ap (λ p. meaning nodes p s) e ∙ meaning-true nodes s,
  λ same. canonical nodes o r 1 b (omega arith) (λ s. same s ∙ sym (meaning-true nodes s)),
)
