-- Least cuts of a test: the fewest elements without which what is left doesn't carry it, of routers that aren't to be kept.
use Rattle.std.specs.Prelude.{◌≡◌, ◌⊎◌, ℕ, ◌≤◌, true, false, Bool, not, nat_eq, List, [], ◌∷◌, ◌++◌, length, All, Option, Some, None, is_some, if◌then◌else◌, codes}
use Rattle.std.specs.Fmt.{decimal}
use Rattle.std.specs.List.{flat_map, list_any}
use Rattle.std.specs.List.Sorted.{IsStrictlyIncreasing}
use Rattle.std.specs.Option.{option_map_or}
use Rattle.nc_types.specs.Config.{ConfigView}
use Rattle.nc_types.specs.Network.{element_at, router_named}
use Rattle.nc_graph.specs.Flow.{Flow}
use Rattle.nc_diagram.specs.Sets.{all_but}
use Rattle.nc_cut.specs.Cuts.{IsBefore}
use Rattle.nc_fact.specs.declared.fact.Fact.{Fact}
use Rattle.nc_report.specs.Texts.{line_of}
use Rattle.nc_engine.specs.Questions.{CarriesEach, element_text}

-- the first of these names that no router has
abbrev pub unknown_among : List ConfigView → List (List ℕ) → Option (List ℕ)
unknown_among routers [] = None
unknown_among routers (name ∷ names) = if is_some (router_named routers name) then unknown_among routers names else Some name

-- a router is kept where one of the names is its own
abbrev pub is_kept : List ConfigView → List (List ℕ) → ℕ → Bool
is_kept routers names router = list_any (λ name. option_map_or (nat_eq router) (router_named routers name) false) names

-- an element may be cut where it is of a router that isn't kept
abbrev pub may_be_cut : List ConfigView → List (List ℕ) → ℕ → Bool
may_be_cut routers names element = option_map_or (λ x. not (is_kept routers names x.router)) (element_at routers element) false

module _ (g : Flow Fact) (routers : List ConfigView) (names : List (List ℕ)) (facts : List Fact) where
  -- a cut of the facts: elements of routers that aren't kept, ascending, such that all other elements don't carry the facts
  pub record IsCut (cut : List ℕ) : Type 0 where
    pub ascends : IsStrictlyIncreasing cut
    pub allowed : All (λ element. may_be_cut routers names element ≡ true) cut
    pub breaks : ¬ CarriesEach g facts (all_but cut)

  -- a least one: no cut has fewer elements, and no cut with as few is before it
  pub record IsLeastCut (cut : List ℕ) : Type 0 where
    pub is_cut : IsCut cut
    pub fewest : (other : List ℕ) → IsCut other → length cut ≤ length other
    pub first : (other : List ℕ) → IsCut other → length other ≡ length cut → ¬ IsBefore other cut

  -- there is none
  abbrev pub IsUncut : Type 0
  IsUncut = (cut : List ℕ) → ¬ IsCut cut

-- ---- the replies

-- a cut by the number of its test, and the answers to it
abbrev pub cut_of : ℕ → List ℕ
cut_of n = codes "cut " ++ decimal n

abbrev pub none_of : ℕ → List ℕ
none_of n = line_of (cut_of n ++ codes " none")

abbrev pub least_of : List ConfigView → ℕ → List ℕ → List ℕ
least_of routers n cut = line_of (cut_of n ++ (32 ∷ decimal (length cut) ++ flat_map (element_text routers) cut))

-- the answer for the test of a number: its least cut, each element by its router and its first line, or that there is none
module _ (g : Flow Fact) (routers : List ConfigView) (names : List (List ℕ)) (facts : List Fact) (n : ℕ) where
  pub record IsLeast (reply : List ℕ) : Type 0 where
    pub cut : List ℕ
    pub least : IsLeastCut g routers names facts cut
    pub text : reply ≡ least_of routers n cut

  abbrev pub IsCutAnswer : List ℕ → Type 0
  IsCutAnswer reply = (IsUncut g routers names facts × (reply ≡ none_of n)) ⊎ IsLeast reply
