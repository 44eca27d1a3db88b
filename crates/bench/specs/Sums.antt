-- The counts of tests by their marks.
use Rattle.std.specs.Prelude.{◌≡◌, ℕ, ◌<◌, List, Some}
use Rattle.std.specs.List.{sum_by}
use Rattle.nc_marks.specs.Kept.{Kept}
use Rattle.nc_marks.specs.Marks.{mark_of}
use Rattle.nc_suite.specs.Counts.{Counts, counted, strong_count, covered_count, strong_by, covered_by}

-- of the first `count` elements, the counts are of how many tests each is strong, and of how many it is strong or weak
pub record AreSums (count : ℕ) (tests : List Kept) (c : Counts) : Type 0 where
  pub elements : counted c ≡ count
  pub strong : (e : ℕ) → e < count → strong_count c e ≡ sum_by (λ k. strong_by (mark_of k.marks (Some e))) tests
  pub covered : (e : ℕ) → e < count → covered_count c e ≡ sum_by (λ k. covered_by (mark_of k.marks (Some e))) tests
