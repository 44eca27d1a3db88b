-- What is kept of a graph that grows: of its nodes so far the strong elements and whether a live one reaches them, and the marks for the live ones.
use Rattle.std.specs.Prelude.{◌≡◌, ℕ, ◌<◌, Bool, false, List, [], All, length, Some, slice_index_or}
use Rattle.nc_graph.specs.Derivation.{strong}
use Rattle.nc_graph.specs.Flow.{Flow}
use Rattle.nc_marks.specs.Marks.{ElementMarks, AreMarks, marked_elements, mark_of}
use Rattle.nc_marks.specs.Reach.{AreReached}
use Rattle.nc_marks.specs.Sets.{has}

-- by node, the set of its strong elements, and whether a live node reaches it; and the marks
pub record Kept : Type 0 where
  pub strong : List (List ℕ)
  pub reached : List Bool
  pub marks : ElementMarks

-- how many nodes are kept
abbrev pub kept_nodes : Kept → ℕ
kept_nodes k = length k.strong

-- the strong elements of a kept node
abbrev pub strong_at : Kept → ℕ → List ℕ
strong_at k i = slice_index_or k.strong i []

-- of the first `count` nodes of g the strong elements are kept, and whether a live node reaches them; the marks of the first
-- `elements` elements are those for the live nodes
pub record AreKept (g : Flow ℕ) (count : ℕ) (live : List ℕ) (elements : ℕ) (k : Kept) : Type 0 where
  pub nodes : kept_nodes k ≡ count
  pub within : All (λ i. i < count) live
  pub sets : (i : ℕ) → i < count → (e : ℕ) → e < elements → has (strong_at k i) e ≡ strong g e i
  pub flags : length k.reached ≡ count
  pub reached : AreReached g live k.reached
  pub marks : AreMarks g live elements k.marks

-- elements that aren't listed have the marks that they had
pub record TouchesOnly (listed : List ℕ) (old new : ElementMarks) : Type 0 where
  pub within : All (λ e. e < marked_elements old) listed
  pub others : (e : ℕ) → e < marked_elements old → has listed e ≡ false → mark_of new (Some e) ≡ mark_of old (Some e)
