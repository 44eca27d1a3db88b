-- Combining two references by an operator, node by node.
use Rattle.std.specs.Prelude.{◌≡◌, ℕ, ◌+◌, ◌^◌, ◌<◌, ◌≤◌, ◌⊎◌, Bool, true, false, ◌&&◌, ◌||◌, ◌==◌, List, ◌++◌, ◌∷◌, [], min, max}
use Rattle.nc_diagram.specs.declared.node.Node.{Node}
use Rattle.nc_diagram.specs.declared.apply.Operator.{Operator}
use Rattle.nc_diagram.specs.declared.apply.Operator.TheVariants.{And, Or}
use Rattle.nc_diagram.specs.declared.apply.Pair.{Pair}
use Rattle.nc_diagram.specs.declared.apply.Cofactors.{Cofactors}
use Rattle.nc_diagram.specs.declared.apply.Frame.{Frame}
use Rattle.nc_diagram.specs.declared.apply.Frame.TheVariants.{Low, High}
use Rattle.nc_diagram.specs.declared.apply.Focus.{Focus}
use Rattle.nc_diagram.specs.declared.apply.Focus.TheVariants.{Work, Done}
use Rattle.nc_diagram.specs.Sets.{Members, has, fixing, below, Same}
use Rattle.nc_diagram.specs.Diagrams.{Belongs, meaning}

-- what the operator makes of two values
abbrev pub combined : Operator → Bool → Bool → Bool
combined And x y = x && y
combined Or x y = x || y

-- the constant that decides the result alone
abbrev pub absorbing : Operator → ℕ
absorbing And = 0
absorbing Or = 1

-- the constant that leaves the result to the other
abbrev pub neutral : Operator → ℕ
neutral And = 1
neutral Or = 0

-- the function of a pair
abbrev pub joint : Operator → List Node → Pair → Members → Bool
joint operator nodes p s = combined operator (meaning nodes p.left s) (meaning nodes p.right s)

-- both references belong
abbrev pub BothBelong : List Node → Pair → Type 0
BothBelong nodes p = Belongs nodes p.left × Belongs nodes p.right

-- neither reference is a constant
abbrev pub BothNodes : Pair → Type 0
BothNodes p = (2 ≤ p.left) × (2 ≤ p.right)

-- the pair with the older reference first
unfoldable pub ordered : Pair → Pair
ordered p = record { left = min p.left p.right; right = max p.left p.right }

-- the comparison of pairs
abbrev pub pair_eq : Pair → Pair → Bool
pair_eq p q = (p.left == q.left) && (p.right == q.right)

-- the pair's function is that of one of its references
pub record IsDecided (operator : Operator) (p : Pair) (r : ℕ) : Type 0 where
  pub one_of_both : (r ≡ p.left) ⊎ (r ≡ p.right)
  pub value : (nodes : List Node) → Same (meaning nodes r) (joint operator nodes p)

-- the pair e is p where the variable is fixed to a value and no function asks for a variable above it
pub record IsCofactor (nodes : List Node) (p : Pair) (variable : ℕ) (side : Bool) (e : Pair) : Type 0 where
  pub left_no_newer : e.left ≤ p.left
  pub right_no_newer : e.right ≤ p.right
  pub older : e.left + e.right < p.left + p.right
  pub left_value : (s : Members) → meaning nodes e.left s ≡ meaning nodes p.left (fixing (below variable side) s)
  pub right_value : (s : Members) → meaning nodes e.right s ≡ meaning nodes p.right (fixing (below variable side) s)

-- no function of the pair asks for a variable above this one
pub record IsTop (nodes : List Node) (p : Pair) (variable : ℕ) : Type 0 where
  pub narrow : variable < 2 ^ 32
  pub left_value : (s : Members) → meaning nodes p.left s ≡ meaning nodes p.left (fixing (below variable (has s variable)) s)
  pub right_value : (s : Members) → meaning nodes p.right s ≡ meaning nodes p.right (fixing (below variable (has s variable)) s)

-- the pair's lowest variable, and the pair's cofactors by it
pub record AreCofactors (nodes : List Node) (p : Pair) (sides : Cofactors) : Type 0 where
  pub top : IsTop nodes p sides.variable
  pub low : IsCofactor nodes p sides.variable false sides.low
  pub high : IsCofactor nodes p sides.variable true sides.high

-- the references of the pair and the result belong, and the result means what the operator makes of the pair
pub record IsAnswer (nodes : List Node) (operator : Operator) (p : Pair) (r : ℕ) : Type 0 where
  pub belong : BothBelong nodes p
  pub belongs : Belongs nodes r
  pub value : Same (meaning nodes r) (joint operator nodes p)

-- the low side is worked out first, while a frame waits for it
abbrev pub BeginsLow : List Node → Pair → List Frame → List Frame → Pair → Type 0
BeginsLow nodes p old new low =
    (variable : ℕ) × (high : Pair) × (begun : ℕ) × (new ≡ old ++ Low p variable high begun ∷ []) × AreCofactors nodes p (record { variable = variable; low = low; high = high })

-- one of its references decides the low side, and the high side is worked out, while a frame waits for it
abbrev pub BeginsHigh : Operator → List Node → Pair → List Frame → List Frame → Pair → Type 0
BeginsHigh operator nodes p old new high =
    (variable : ℕ) × (low : Pair) × (r : ℕ) × (begun : ℕ) × (new ≡ old ++ High p variable r begun ∷ []) × AreCofactors nodes p (record { variable = variable; low = low; high = high }) × IsDecided operator (ordered low) r

-- the side of a pair that is worked out first
abbrev pub Begins : Operator → List Node → Pair → List Frame → List Frame → Pair → Type 0
Begins operator nodes p old new next = BeginsLow nodes p old new next ⊎ BeginsHigh operator nodes p old new next

-- how a pair is begun: its reference is known, from this operation or an earlier one, or one of its sides is worked out first
abbrev pub Opens : Operator → List Node → Pair → List Frame → List Frame → Focus → Type 0
Opens operator nodes p old new (Work next) = BothNodes p × Begins operator nodes p old new next
Opens operator nodes p old new (Done r) = (new ≡ old) × (IsDecided operator p r ⊎ IsAnswer nodes operator p r)
