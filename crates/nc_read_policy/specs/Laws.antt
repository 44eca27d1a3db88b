-- What holds of the entries of each prefix list.
use Rattle.std.specs.Prelude.{ℕ, ◌<◌, List, length, All, Contains}
use Rattle.std.specs.List.{AllPairs}
use Rattle.std.specs.List.Sorted.{IsStrictlyIncreasing}
use Rattle.nc_read_policy.specs.Lists.{EntryPart}

-- an entry has a line, its lines ascend, and each is one of the list's
pub record HasLines (ks : List ℕ) (p : EntryPart) : Type 0 where
  pub some : 0 < length p.lines
  pub ascend : IsStrictlyIncreasing p.lines
  pub within : All (λ k. Contains ks k) p.lines

-- no line is of two entries
abbrev pub AreApart : List EntryPart → Type 0
AreApart ps = AllPairs (λ p q. (k : ℕ) → Contains p.lines k → Contains q.lines k → ⊥) ps
