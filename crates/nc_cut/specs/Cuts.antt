-- Cuts of a function: free variables without which it is false.
use Rattle.std.specs.Prelude.{◌≡◌, ℕ, ◌<◌, ◌≤◌, Bool, true, false, List, length, All, Contains, Option, Some, None, slice_index, slice_index_or}
use Rattle.std.specs.List.Sorted.{IsStrictlyIncreasing}
use Rattle.nc_diagram.specs.Sets.{Members, has, all_but}

-- whether a variable is free, that is, may be in a cut; one past the list is not
abbrev pub is_free : List Bool → ℕ → Bool
is_free free v = slice_index_or free v false

-- of the listed variables the first that is free, the lowest; none, where none of them is
abbrev pub IsFirstFree : List Bool → List ℕ → Option ℕ → Type 0
IsFirstFree free listed None = All (λ v. is_free free v ≡ false) listed
IsFirstFree free listed (Some v) = Contains listed v × (is_free free v ≡ true) × All (λ w. w < v → is_free free w ≡ false) listed

-- a cut: free variables, ascending, such that the function is false at the set of all the others
pub record IsCut (f : Members → Bool) (free : List Bool) (cut : List ℕ) : Type 0 where
  pub ascends : IsStrictlyIncreasing cut
  pub allowed : All (λ v. is_free free v ≡ true) cut
  pub never : f (all_but cut) ≡ false

-- of two lists that one is before the other which is lower at the first place in which they differ
pub record IsBefore (one other : List ℕ) : Type 0 where
  pub place : ℕ
  pub same_before : (k : ℕ) → k < place → slice_index one k ≡ slice_index other k
  pub lower : slice_index one place < slice_index other place

-- a least cut: no cut has fewer variables, and no cut with as few is before it
pub record IsLeastCut (f : Members → Bool) (free : List Bool) (cut : List ℕ) : Type 0 where
  pub is_cut : IsCut f free cut
  pub fewest : (other : List ℕ) → IsCut f free other → length cut ≤ length other
  pub first : (other : List ℕ) → IsCut f free other → length other ≡ length cut → IsBefore other cut → ⊥

-- no free variables are a cut
abbrev pub HasNoCut : (Members → Bool) → List Bool → Type 0
HasNoCut f free = (cut : List ℕ) → IsCut f free cut → ⊥

-- the function depends on variables below n alone
abbrev pub IsBelow : ℕ → (Members → Bool) → Type 0
IsBelow n f = (s t : Members) → ((v : ℕ) → v < n → has s v ≡ has t v) → f s ≡ f t
