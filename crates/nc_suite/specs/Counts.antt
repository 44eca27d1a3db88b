-- Two counts for each element: for how many tests it is strong, and for how many it is strong or weak.
use Rattle.std.specs.Prelude.{◌≡◌, ℕ, ◌+◌, ◌<◌, ◌≤◌, ◌-◌, ◌^◌, ◌⊎◌, Bool, true, false, All, List, [], ◌∷◌, length, map, nat_eq, slice_index_or, if◌then◌else◌}
use Rattle.std.specs.List.{IsDistinct, list_any, sum_by}
use Rattle.nc_graph.specs.Flow.{Flow}
use Rattle.nc_marks.specs.declared.mark.Mark.{Mark}
use Rattle.nc_marks.specs.declared.mark.Mark.TheVariants.{Strong, Weak, Uncovered, Outside}
use Rattle.nc_marks.specs.Reach.{strong_in, occurs_in}
use Rattle.nc_marks.specs.Sets.{flag}
use Rattle.nc_suite.specs.declared.touch.Touch.{Touch}

-- by element, how often it is strong, and how often it is strong or weak
pub record Counts : Type 0 where
  pub strong : List ℕ
  pub covered : List ℕ

-- how many elements are counted
abbrev pub counted : Counts → ℕ
counted c = length c.strong

-- the counts of an element
abbrev pub strong_count : Counts → ℕ → ℕ
strong_count c e = slice_index_or c.strong e 0

abbrev pub covered_count : Counts → ℕ → ℕ
covered_count c e = slice_index_or c.covered e 0

-- what a mark adds to the one count and to the other
abbrev pub strong_by : Mark → ℕ
strong_by Strong = 1
strong_by Weak = 0
strong_by Uncovered = 0
strong_by Outside = 0

abbrev pub covered_by : Mark → ℕ
covered_by Strong = 1
covered_by Weak = 1
covered_by Uncovered = 0
covered_by Outside = 0

-- no count is at the last number of 32 bits
pub record HasRoom (c : Counts) : Type 0 where
  pub strong : (e : ℕ) → e < counted c → strong_count c e < 2 ^ 32 - 1
  pub covered : (e : ℕ) → e < counted c → covered_count c e < 2 ^ 32 - 1

-- marks, by element
module _ (marks : ℕ → Mark) where
  -- new is old with these marks added
  pub record Adds (old new : Counts) : Type 0 where
    pub elements : counted new ≡ counted old
    pub strong : (e : ℕ) → e < counted old → strong_count new e ≡ strong_count old e + strong_by (marks e)
    pub covered : (e : ℕ) → e < counted old → covered_count new e ≡ covered_count old e + covered_by (marks e)

  -- the counts are at least what these marks add
  pub record AreAmong (c : Counts) : Type 0 where
    pub strong : (e : ℕ) → e < counted c → strong_by (marks e) ≤ strong_count c e
    pub covered : (e : ℕ) → e < counted c → covered_by (marks e) ≤ covered_count c e

-- an element of this mark is as well marked without it: a strong one is strong once more, a weak one is strong, or is weak once
-- more
abbrev pub IsSpared : Counts → ℕ → Mark → Type 0
IsSpared c e Strong = 2 ≤ strong_count c e
IsSpared c e Weak = (1 ≤ strong_count c e) ⊎ (2 ≤ covered_count c e)
IsSpared c e Uncovered = Unit {0}
IsSpared c e Outside = Unit {0}

-- each element of these marks is
abbrev pub AreSpared : (ℕ → Mark) → Counts → Type 0
AreSpared marks c = (e : ℕ) → e < counted c → IsSpared c e (marks e)

-- whether a mark is that of an element in some derivation
abbrev pub is_covered : Mark → Bool
is_covered Strong = true
is_covered Weak = true
is_covered Uncovered = false
is_covered Outside = false

-- the first mark, or the second where the first says uncovered
abbrev pub over : Mark → Mark → Mark
over first second = if is_covered first then first else second

-- a mark where the condition is met, and else uncovered
abbrev pub marked_if : Bool → Mark → Mark
marked_if met mark = if met then mark else Uncovered

-- the mark by whether an element is strong, and whether it is in some derivation
abbrev pub mark_by : Bool → Bool → Mark
mark_by strong some = if strong then Strong else if some then Weak else Uncovered

-- the mark that a list gives an element: the first that it is listed with, and uncovered where it isn't listed
abbrev pub mark_in : List Touch → ℕ → Mark
mark_in [] e = Uncovered
mark_in (t ∷ ts) e = over (marked_if (nat_eq e t.element) t.mark) (mark_in ts e)

-- whether an element is listed
abbrev pub is_listed : List Touch → ℕ → Bool
is_listed touches e = list_any (λ t. nat_eq e t.element) touches

-- elements of those below `count`, each listed once
pub record AreApart (count : ℕ) (touches : List Touch) : Type 0 where
  pub within : All (λ t. t.element < count) touches
  pub distinct : IsDistinct nat_eq (map (λ t. t.element) touches)

-- elements that are in some derivation, each listed once, and a flag for each element that counts: whether it is listed
pub record IsListing (flags : List Bool) (touches : List Touch) : Type 0 where
  pub apart : AreApart (length flags) touches
  pub covered : All (λ t. is_covered t.mark ≡ true) touches
  pub told : (e : ℕ) → e < length flags → flag flags e ≡ is_listed touches e

-- elements that are listed, of those below `width`
pub record Listed : Type 0 where
  pub touches : List Touch
  pub width : ℕ

-- the mark of an element for a test of these facts
abbrev pub mark_for : Flow ℕ → List ℕ → ℕ → Mark
mark_for g facts e = mark_by (strong_in g e facts) (occurs_in g e facts)

-- the counts are those of tests: of how many tests each of the first `count` elements is strong, and of how many it is strong or weak
pub record AreCounts (g : Flow ℕ) (count : ℕ) (tests : List (List ℕ)) (c : Counts) : Type 0 where
  pub elements : counted c ≡ count
  pub strong : (e : ℕ) → e < count → strong_count c e ≡ sum_by (λ test. strong_by (mark_for g test e)) tests
  pub covered : (e : ℕ) → e < count → covered_count c e ≡ sum_by (λ test. covered_by (mark_for g test e)) tests
