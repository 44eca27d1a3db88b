-- Sizes become known one by one, each after those of its ends.
use Rattle.std.proofs.Common.{◌≡◌, ℕ, zero, suc, ◌+◌, ◌*◌, ◌<◌, ◌≤◌, Bool, List, [], ◌∷◌, ◌++◌, length, slice_index, Option, Some, None, refl, sym, ap, subst, ◌∙◌, inl, inr, arith, length-append}
use Rattle.std.proofs.lemmas.Bool.{cases_lt, cases_eq}
use Rattle.std.proofs.lemmas.List.{get_or_append_left, get_or_at}
use Rattle.std.proofs.lemmas.Option.{same_Some}
use Rattle.nc_diagram.specs.declared.node.Node.{Node}
use Rattle.nc_diagram.specs.declared.parts.Split.{Split}
use Rattle.nc_diagram.specs.Splits.{Splits}
use Rattle.nc_diagram.proofs.DiagramLemmas.{node_at-belongs}
use Rattle.nc_diagram.proofs.PartLemmas.{Splits-same}
use Rattle.nc_cut.specs.Sizes.{Known, IsKnown, HasEnds, IsSize, AreSizes}

-- a constant has no ends
pub HasEnds-constant : (nodes : List Node) (sizes : Known) (r : ℕ) → r < 2 → HasEnds nodes sizes r
HasEnds-constant nodes sizes r low parts splits =
    let two = (node_at-belongs nodes r (record { variable = parts.variable; low = parts.low; high = parts.high }) splits.found).0 in
    absurd (omega arith)

-- the ends of a reference are known where those that were read are
pub HasEnds-parts : (nodes : List Node) (sizes : Known) (r : ℕ) (parts : Split) → Splits nodes r parts → IsKnown sizes parts.low → IsKnown sizes parts.high → HasEnds nodes sizes r
HasEnds-parts nodes sizes r parts splits low high other also =
    let same = Splits-same nodes r parts other splits also in
    (subst (IsKnown sizes) same.1 low, subst (IsKnown sizes) same.2 high)

-- how many places below a number are not known
abbrev left_at : Option (Option ℕ) → ℕ
left_at None = 1
left_at (Some size) = 0

unfoldable pub unknown : Known → ℕ → ℕ
unknown sizes zero = 0
unknown sizes (suc n) = unknown sizes n + left_at (sizes n)

-- what is left to do at a reference, of so many places
abbrev pub work : ℕ → Known → ℕ → ℕ
work count sizes at = unknown sizes count * count + at

-- the references from the first down to the one that is looked at: their places fall, and none is known
pub record IsPath (sizes : Known) (r : ℕ) (path : List ℕ) : Type 0 where
  pub first : slice_index path 0 ≡ r
  pub falls : (i j : ℕ) → i < j → j < length path → slice_index path j < slice_index path i
  pub absent : (k : ℕ) → k < length path → sizes (slice_index path k) ≡ None

-- at first none is known, and only the first is looked at
pub sizes_none : (nodes : List Node) (free : List Bool) (sizes : Known) → ((p : ℕ) → sizes p ≡ None) → AreSizes nodes free sizes
sizes_none nodes free sizes none r size e = absurd (let found : ◌≡◌ {A = Option (Option ℕ)} None (Some size) = sym (none r) ∙ e in cc)

pub path_one : (sizes : Known) (r : ℕ) → ((p : ℕ) → sizes p ≡ None) → IsPath sizes r ([] ++ r ∷ [])
path_one sizes r none = record {
  first = refl;
  falls = λ i j lt within. omega arith;
  absent = λ k within. none (slice_index (r ∷ []) k);
}

-- the first is the last one where no other waits
pub path_alone : (sizes : Known) (r : ℕ) (path : List ℕ) (at : ℕ) → IsPath sizes r (path ++ at ∷ []) → length path ≡ 0 → at ≡ r
path_alone sizes r [] at p none = p.first
path_alone sizes r (top ∷ path) at p none = absurd (omega arith)

-- less is left to do at a lower place
pub work_lower : (count : ℕ) (sizes : Known) (next at : ℕ) → next < at → work count sizes next < work count sizes at
work_lower count sizes next at lower = add_lower (unknown sizes count * count) next at lower
  where
    add_lower : (m x y : ℕ) → x < y → m + x < m + y
    add_lower m x y lt = omega arith

last_of : (path : List ℕ) (at : ℕ) → slice_index (path ++ at ∷ []) (length path) ≡ at
last_of path at = get_or_at path at [] 0 (length path) refl

length_of : (path : List ℕ) (at : ℕ) → length (path ++ at ∷ []) ≡ length path + 1
length_of path at = length-append path (at ∷ [])

module _ (sizes : Known) (r : ℕ) where
  pub path_absent : (path : List ℕ) (at : ℕ) → IsPath sizes r (path ++ at ∷ []) → sizes at ≡ None
  path_absent path at p = ap sizes (sym (last_of path at)) ∙ p.absent (length path) (omega (arith, length_of path at))

  pub path_within : (path : List ℕ) (at : ℕ) → IsPath sizes r (path ++ at ∷ []) → at ≤ r
  path_within [] at p = omega (arith, p.first)
  path_within (top ∷ path) at p =
      omega (arith, p.first, last_of (top ∷ path) at, length_of (top ∷ path) at, p.falls 0 (length (top ∷ path)) (omega arith) (omega (arith, length_of (top ∷ path) at)))

  -- an end of the last one is looked at before it
  pub path_longer : (path : List ℕ) (at end : ℕ) → IsPath sizes r (path ++ at ∷ []) → end < at → sizes end ≡ None → IsPath sizes r ((path ++ at ∷ []) ++ end ∷ [])
  path_longer path at end p older none =
      let whole = path ++ at ∷ [] in
      let count = length_of path at in
      let more = length_of whole end in
      let old : (k : ℕ) → k < length whole → slice_index (whole ++ end ∷ []) k ≡ slice_index whole k = λ k lt. get_or_append_left whole (end ∷ []) 0 k lt in
      let new : (k : ℕ) → k ≡ length whole → slice_index (whole ++ end ∷ []) k ≡ end = λ k e. get_or_at whole end [] 0 k (sym e) in
      let low : (k : ℕ) → k < length whole → at ≤ slice_index whole k = at_least p in
      record {
        first = old 0 (omega arith) ∙ p.first;
        falls = λ i j lt within.
            elim (cases_lt j (length whole)) [
              | inl before ↦ omega (arith, old i (omega arith), old j before, p.falls i j lt before)
              | inr last ↦ omega (arith, old i (omega arith), new j (omega arith), low i (omega arith))
            ];
        absent = λ k within.
            elim (cases_lt k (length whole)) [
              | inl before ↦ ap sizes (old k before) ∙ p.absent k before
              | inr last ↦ ap sizes (new k (omega arith)) ∙ none
            ];
      }
    where
      at_least : IsPath sizes r (path ++ at ∷ []) → (k : ℕ) → k < length (path ++ at ∷ []) → at ≤ slice_index (path ++ at ∷ []) k
      at_least p k lt =
          elim (cases_eq k (length path)) [
            | inl e ↦ omega (arith, ap (slice_index (path ++ at ∷ [])) e, last_of path at)
            | inr ne ↦ omega (arith, last_of path at, length_of path at, p.falls k (length path) (omega (arith, length_of path at)) (omega (arith, length_of path at)))
          ]

-- the size of one more place is known
module _ (old new : Known) (p : ℕ) (size : Option ℕ) (put : new p ≡ Some size) (others : (q : ℕ) → (q ≡ p → ⊥) → new q ≡ old q) where
  pub known_still : (q : ℕ) → IsKnown old q → IsKnown new q
  known_still q k =
      elim (cases_eq q p) [
        | inl e ↦ (size, ap new e ∙ put)
        | inr ne ↦ (k.0, others q ne ∙ k.1)
      ]

  ends_still : (nodes : List Node) (r : ℕ) → HasEnds nodes old r → HasEnds nodes new r
  ends_still nodes r ends parts splits = (let k = ends parts splits in (known_still parts.low k.0, known_still parts.high k.1))

  -- it is that of its reference, whose ends were known
  pub sizes_more : (nodes : List Node) (free : List Bool) → AreSizes nodes free old → IsSize nodes free p size → HasEnds nodes old p → AreSizes nodes free new
  sizes_more nodes free are is ends r s e =
      elim (cases_eq r p) [
        | inl here ↦
            (let same : size ≡ s = same_Some size s (sym put ∙ ap new (sym here) ∙ e) in
            subst (λ q. IsSize nodes free q s × HasEnds nodes new q) (sym here) (subst (IsSize nodes free p) same is, ends_still nodes p ends))
        | inr ne ↦ (let was = are r s (sym (others r ne) ∙ e) in (was.0, ends_still nodes r was.1))
      ]

  unknown_past : (n : ℕ) → n ≤ p → unknown new n ≡ unknown old n
  unfolding unknown
  unknown_past zero le = refl
  unknown_past (suc n) le = omega (arith, unknown_past n (omega arith), ap left_at (others n (λ e. omega arith)))

  unknown_less : (n : ℕ) → p < n → old p ≡ None → unknown new n + 1 ≡ unknown old n
  unfolding unknown
  unknown_less zero lt none = absurd (omega arith)
  unknown_less (suc n) lt none =
      elim (cases_eq n p) [
        | inl e ↦ omega (arith, unknown_past n (omega arith), ap left_at (ap old e ∙ none), ap left_at (ap new e ∙ put))
        | inr ne ↦ omega (arith, unknown_less n (omega arith) none, ap left_at (others n ne))
      ]

  -- less is left to do, whichever reference is looked at then
  pub work_less : (count next : ℕ) → p < count → next < count → old p ≡ None → work count new next < work count old p
  work_less count next within also none = falls (unknown new count) (unknown old count) count next p (unknown_less count within none) also
    where
      falls : (m n c x y : ℕ) → m + 1 ≡ n → x < c → m * c + x < n * c + y
      falls m n c x y e lt = subst (λ k. m * c + x < k * c + y) e (grind arith)

  -- the one before is looked at again
  pub path_shorter : (r : ℕ) (path : List ℕ) → IsPath old r (path ++ p ∷ []) → 0 < length path → IsPath new r path
  path_shorter r path was some =
      let count = length_of path p in
      let same : (k : ℕ) → k < length path → slice_index (path ++ p ∷ []) k ≡ slice_index path k = λ k lt. get_or_append_left path (p ∷ []) 0 k lt in
      let above : (k : ℕ) → k < length path → p < slice_index path k = λ k lt. omega (arith, same k lt, last_of path p, was.falls k (length path) lt (omega arith)) in
      record {
        first = sym (same 0 some) ∙ was.first;
        falls = λ i j lt within. omega (arith, same i (omega arith), same j within, was.falls i j lt (omega arith));
        absent = λ k within. others (slice_index path k) (λ e. omega (arith, above k within)) ∙ ap old (sym (same k within)) ∙ was.absent k (omega arith);
      }
