-- Sizes by place, in pages of slots for 256 places each.
use Rattle.std.specs.Prelude.{◌≡◌, ℕ, ◌+◌, ◌/◌, ◌%◌, ◌<◌, ◌≤◌, List, length, slice_index, slice_index_or, Option, Some, None}
use Rattle.nc_cut.specs.declared.pages.Slot.{Slot}
use Rattle.nc_cut.specs.declared.pages.Slot.TheVariants.{Unknown, Uncut, Least}

-- the size in a slot, where one is known
abbrev pub size_in : Slot → Option (Option ℕ)
size_in Unknown = None
size_in Uncut = Some None
size_in (Least n) = Some (Some n)

-- the slot of a place, behind the start of its page; a page that was not made starts at the first slot
abbrev pub slot_at : List ℕ → ℕ → ℕ
slot_at starts p = slice_index starts (p / 256) + p % 256

-- the size that is known at a place
abbrev pub known_at : List ℕ → List Slot → ℕ → Option (Option ℕ)
known_at starts slots p = size_in (slice_index_or slots (slot_at starts p) Unknown)

-- the slots are those of a page in which nothing is known, and behind it of the pages that were made, apart from one another
pub record IsPaged (starts : List ℕ) (slots : List Slot) : Type 0 where
  pub within : (i : ℕ) → slice_index starts i + 256 ≤ length slots
  pub blank : (k : ℕ) → k < 256 → size_in (slice_index_or slots k Unknown) ≡ None
  pub behind : (i : ℕ) → 0 < slice_index starts i → 256 ≤ slice_index starts i
  pub apart : (i j k l : ℕ) → 0 < slice_index starts i → k < 256 → l < 256 → slice_index starts i + k ≡ slice_index starts j + l → i ≡ j
