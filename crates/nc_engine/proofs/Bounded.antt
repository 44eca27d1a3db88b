-- What carries tests asks only for elements below some number.
use Rattle.std.proofs.Common.{◌≡◌, ℕ, zero, suc, ◌+◌, ◌<◌, Bool, ◌&&◌, ◌||◌, List, [], ◌∷◌, refl, ap, ◌∙◌, arith}
use Rattle.std.specs.List.{list_any, list_all}
use Rattle.nc_graph.specs.declared.node.NodeKind.{NodeKind}
use Rattle.nc_graph.specs.declared.node.NodeKind.TheVariants.{Leaf, Every, Any}
use Rattle.nc_graph.specs.Flow.{Flow, by_kind}
use Rattle.nc_graph.specs.Derivation.{value_to, value_of, carried}
use Rattle.nc_diagram.specs.Sets.{has}
use Rattle.nc_formula.specs.Parts.{carrying_each}
use Rattle.nc_fact.specs.declared.fact.Fact.{Fact}
use Rattle.nc_engine.proofs.Deciding.{AsksBelow}

-- two sets of elements are the same below a number
abbrev SameBelow : ℕ → (ℕ → Bool) → (ℕ → Bool) → Type 0
SameBelow n x y = (v : ℕ) → v < n → x v ≡ y v

-- what is made of a set asks only for elements below some number
abbrev IsLow : ((ℕ → Bool) → Bool) → Type 0
IsLow make = (n : ℕ) × ((x y : ℕ → Bool) → SameBelow n x y → make x ≡ make y)

low_and : (p q : (ℕ → Bool) → Bool) → IsLow p → IsLow q → IsLow (λ x. p x && q x)
low_and p q a b = (
  a.0 + b.0,
  λ x y same.
      ap (λ (c : Bool). c && q x) (a.1 x y (λ v lt. same v (omega arith))) ∙ ap (λ (c : Bool). p y && c) (b.1 x y (λ v lt. same v (omega arith))),
)

low_or : (p q : (ℕ → Bool) → Bool) → IsLow p → IsLow q → IsLow (λ x. p x || q x)
low_or p q a b = (
  a.0 + b.0,
  λ x y same.
      ap (λ (c : Bool). c || q x) (a.1 x y (λ v lt. same v (omega arith))) ∙ ap (λ (c : Bool). p y || c) (b.1 x y (λ v lt. same v (omega arith))),
)

module _ {F : Type 0} (value : (ℕ → Bool) → F → Bool) (low : (f : F) → IsLow (λ x. value x f)) where
  low_all : (fs : List F) → IsLow (λ x. list_all (value x) fs)
  low_all [] = (0, λ x y same. refl)
  low_all (f ∷ fs) = low_and (λ x. value x f) (λ x. list_all (value x) fs) (low f) (low_all fs)

  low_any : (fs : List F) → IsLow (λ x. list_any (value x) fs)
  low_any [] = (0, λ x y same. refl)
  low_any (f ∷ fs) = low_or (λ x. value x f) (λ x. list_any (value x) fs) (low f) (low_any fs)

module _ (g : Flow Fact) where
  -- a step of evaluation
  abbrev step : (ℕ → Bool) → Fact → (Fact → Bool) → Bool
  step x f below = by_kind (g.kind f) x (list_all below (g.parents f)) (list_any below (g.parents f))

  low_to : (n : ℕ) (f : Fact) → IsLow (λ x. value_to (step x) n f)
  low_to zero f = (0, λ x y same. refl)
  low_to (suc n) f = on (g.kind f) (low_to n)
    where
      on : (k : NodeKind) → ((p : Fact) → IsLow (λ x. value_to (step x) n p)) → IsLow (λ x. by_kind k x (list_all (value_to (step x) n) (g.parents f)) (list_any (value_to (step x) n) (g.parents f)))
      on (Leaf e) below = (e + 1, λ x y same. same e (omega arith))
      on Every below = low_all (λ x. value_to (step x) n) below (g.parents f)
      on Any below = low_any (λ x. value_to (step x) n) below (g.parents f)

  low_carried : (f : Fact) → IsLow (λ x. carried g x f)
  unfolding carried value_of
  low_carried f = low_to (suc (g.rank f)) f

  pub carrying_low : (fs : List Fact) → (n : ℕ) × AsksBelow n (carrying_each g fs)
  carrying_low fs = let all = low_all (carried g) low_carried fs in (all.0, λ s t same. all.1 (has s) (has t) same)
