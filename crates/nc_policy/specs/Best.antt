-- Which clause decides on each of some prefixes.
use Rattle.std.specs.Prelude.{◌≡◌, ℕ, ◌<◌, ◌&&◌, List, [], All, Option, Some, IfSome, slice_get, if◌then◌else◌}
use Rattle.std.specs.List.Sorted.{IsNonDecreasingBy}
use Rattle.std.specs.Option.{option_map}
use Rattle.nc_types.specs.Cidr.{Cidr}
use Rattle.nc_types.specs.Config.{ClauseView, ConfigView}
use Rattle.nc_tables.specs.Policy.{Placed, deciding, is_matching}
use Rattle.nc_policy.specs.Views.{asked, candidate_view, is_lower, IsCandidate}
use Rattle.nc_policy.specs.declared.clauses.Candidate.{Candidate}

-- prefixes in order of their addresses, which have 32 bits
pub record IsRising (ps : List Cidr) : Type 0 where
  pub rises : IsNonDecreasingBy (λ p. p.base) ps
  pub fit : All (λ p. p.base < 4294967296) ps

-- of a clause and the best one so far the one that decides on a prefix
abbrev pub with_clause : ConfigView → Cidr → ℕ → ClauseView → Option Placed → Option Placed
with_clause c p place k best = if is_lower k best && is_matching c (asked p []) k then Some (record { place = place; clause = k }) else best

-- each of these clauses matches its prefix
abbrev pub AreMatching : ConfigView → List Cidr → List (Option Candidate) → Type 0
AreMatching c ps best = (j : ℕ) (p : Cidr) (b : Option Candidate) → slice_get ps j ≡ Some p → slice_get best j ≡ Some b → IfSome b (IsCandidate c (asked p []))

-- each of these is the better one of a clause and of the best one so far
abbrev pub AreBetter : ConfigView → List Cidr → ℕ → ClauseView → List (Option Candidate) → List (Option Candidate) → Type 0
AreBetter c ps place k old new = (j : ℕ) (p : Cidr) (a b : Option Candidate) → slice_get ps j ≡ Some p → slice_get old j ≡ Some a → slice_get new j ≡ Some b → option_map candidate_view b ≡ with_clause c p place k (option_map candidate_view a)

-- each of these is the clause of a map that decides on its prefix, and matches it
pub record AreBest (c : ConfigView) (name : List ℕ) (ps : List Cidr) (best : List (Option Candidate)) : Type 0 where
  pub deciding : (j : ℕ) (p : Cidr) (b : Option Candidate) → slice_get ps j ≡ Some p → slice_get best j ≡ Some b → option_map candidate_view b ≡ deciding c name (asked p [])
  pub matching : AreMatching c ps best
