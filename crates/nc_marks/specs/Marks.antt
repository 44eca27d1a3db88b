-- How an element and a line are marked for the tested facts of a flow graph.
use Rattle.std.specs.Prelude.{◌≡◌, ℕ, ◌<◌, Bool, List, Option, Some, None, Any, length, slice_index_or, false, if◌then◌else◌}
use Rattle.std.specs.Option.{ForSome}
use Rattle.nc_graph.specs.Flow.{Flow}
use Rattle.nc_graph.specs.Derivation.{IsStrong, IsInSome}
use Rattle.nc_marks.specs.declared.mark.Mark.{Mark}
use Rattle.nc_marks.specs.declared.mark.Mark.TheVariants.{Strong, Weak, Uncovered, Outside}

module _ {F : Type 0} (g : Flow F) (tested : List F) where
  -- the mark of a line by its owner: strong where the element stands in every derivation of some tested fact, else weak
  -- where it stands in some derivation of one, else uncovered; a line without an owner is outside
  abbrev pub IsMark : Option ℕ → Mark → Type 0
  IsMark (Some e) Strong = Any (IsStrong g e) tested
  IsMark (Some e) Weak = ¬ Any (IsStrong g e) tested × Any (IsInSome g e) tested
  IsMark (Some e) Uncovered = ¬ Any (IsStrong g e) tested × ¬ Any (IsInSome g e) tested
  IsMark (Some e) Outside = ⊥
  IsMark None Outside = Unit {0}
  IsMark None mark = ⊥

-- the marks of elements, by number: whether each is strong for a tested fact, and whether it is in some derivation of one
pub record ElementMarks : Type 0 where
  pub strong : List Bool
  pub some : List Bool

-- how many elements have a mark
abbrev pub marked_elements : ElementMarks → ℕ
marked_elements m = length m.strong

-- the mark of what has this owner
abbrev pub mark_of : ElementMarks → Option ℕ → Mark
mark_of m (Some e) = if slice_index_or m.strong e false then Strong else if slice_index_or m.some e false then Weak else Uncovered
mark_of m None = Outside

-- these are the marks of the first `elements` elements, and of the lines that have one of them or no owner
pub record AreMarks {F : Type 0} (g : Flow F) (tested : List F) (elements : ℕ) (m : ElementMarks) : Type 0 where
  pub count : marked_elements m ≡ elements
  pub each : (owner : Option ℕ) → ForSome owner (λ e. e < elements) → IsMark g tested owner (mark_of m owner)
