-- Derivations of a fact, one for each choice among the parents of disjunctive facts, and what is said over all of them.
use Rattle.std.specs.Prelude.{◌≡◌, ℕ, suc, zero, Bool, true, false, not, List, length, nat_eq, nat_lt, slice_get, if◌then◌else◌}
use Rattle.std.specs.List.{list_any, list_all}
use Rattle.std.specs.Map.{lookup}
use Rattle.std.specs.Option.{option_map_or}
use Rattle.nc_graph.specs.Flow.{Flow, by_kind}

-- a choice: a finite map from facts to places among their parents
abbrev pub Choice : Type 0 → Type 0
Choice F = List (F × ℕ)

-- the set of all elements but one
abbrev pub all_but : ℕ → ℕ → Bool
all_but e m = not (nat_eq e m)

-- a value for each fact: `step` makes it from the values of its parents, down to the depth n
abbrev pub value_to : {F : Type 0} → (F → (F → Bool) → Bool) → ℕ → F → Bool
value_to step zero f = false
value_to step (suc n) f = step f (value_to step n)

module _ {F : Type 0} (g : Flow F) where
  -- the value of a fact, by recursion on the rank
  unfoldable pub value_of : (F → (F → Bool) → Bool) → F → Bool
  value_of step f = value_to step (suc (g.rank f)) f

  -- the place that a choice picks among a fact's parents: its number for the fact where that is a place, else the first
  abbrev pub pick : Choice F → F → ℕ
  pick c f = option_map_or (λ n. if nat_lt n (length (g.parents f)) then n else 0) (lookup (g.same f) c) 0

  -- an element stands in the derivation of f that a choice makes: a leaf's own; of a conjunctive fact, what stands in that of some parent; of a disjunctive one, what stands in that of the parent picked
  unfoldable pub stands : ℕ → Choice F → F → Bool
  stands e c = value_of (λ f below. by_kind (g.kind f) (nat_eq e) (list_any below (g.parents f))
      (option_map_or below (slice_get (g.parents f) (pick c f)) false))

  -- an element is strong for f: it stands in each derivation of f
  abbrev pub IsStrong : ℕ → F → Type 0
  IsStrong e f = (c : Choice F) → stands e c f ≡ true

  -- an element is in some derivation of f
  abbrev pub IsInSome : ℕ → F → Type 0
  IsInSome e f = (c : Choice F) × (stands e c f ≡ true)

  -- the elements of x carry f: x has each element of some derivation of f
  abbrev pub Carries : (ℕ → Bool) → F → Type 0
  Carries x f = (c : Choice F) × ((e : ℕ) → stands e c f ≡ true → x e ≡ true)

  -- plain evaluation: from what each leaf's element has, by one way through conjunctive and one through disjunctive facts
  abbrev pub evaluated : (ℕ → Bool) → ((F → Bool) → List F → Bool) → ((F → Bool) → List F → Bool) → F → Bool
  evaluated leaf every any = value_of (λ f below. by_kind (g.kind f) leaf (every below (g.parents f)) (any below (g.parents f)))

  -- f comes out true where just the elements of x are: all parents of a conjunctive fact, one of a disjunctive one
  unfoldable pub carried : (ℕ → Bool) → F → Bool
  carried x = evaluated x list_all list_any

  -- f needs the element: one parent of a conjunctive fact does, or all of a disjunctive one
  unfoldable pub strong : ℕ → F → Bool
  strong e = evaluated (nat_eq e) list_any list_all

  -- the element is that of a leaf from which f follows: some parent of either kind is reached by it
  unfoldable pub occurs : ℕ → F → Bool
  occurs e = evaluated (nat_eq e) list_any list_any
