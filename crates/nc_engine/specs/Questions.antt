-- Questions about two tests: whether each set of elements that carries the first carries the second, and if not, the greatest
-- set that tells them apart.
use Rattle.std.specs.Prelude.{◌≡◌, ◌⊎◌, ℕ, ◌∷◌, ◌++◌, [], List, All, codes, slice_get, slice_index_or}
use Rattle.std.specs.Fmt.{decimal}
use Rattle.std.specs.List.{flat_map}
use Rattle.std.specs.List.Sorted.{IsStrictlyIncreasing}
use Rattle.std.specs.Option.{option_map_or}
use Rattle.nc_types.specs.Config.{ConfigView}
use Rattle.nc_types.specs.Network.{ElementIn, element_at}
use Rattle.nc_graph.specs.Flow.{Flow}
use Rattle.nc_graph.specs.Derivation.{Carries}
use Rattle.nc_diagram.specs.Sets.{Members, has, all_but}
use Rattle.nc_diagram.specs.Counter.{SameMembers, IsGreater}
use Rattle.nc_fact.specs.declared.fact.Fact.{Fact}
use Rattle.nc_report.specs.Texts.{line_of}

-- a set of elements carries facts: of each it has all elements of some derivation
abbrev pub CarriesEach : Flow Fact → List Fact → Members → Type 0
CarriesEach g facts set = All (λ f. Carries g (has set) f) facts

module _ (g : Flow Fact) (first second : List Fact) where
  -- each set of elements that carries the first facts carries the second
  abbrev pub IsImplied : Type 0
  IsImplied = (set : Members) → CarriesEach g first set → CarriesEach g second set

  -- a set carries the first facts and not the second
  abbrev pub TellsApart : Members → Type 0
  TellsApart set = CarriesEach g first set × ¬ CarriesEach g second set

  -- the greatest set that does; of two sets that is greater which has the lowest element in which they differ
  pub record IsGreatestApart (set : Members) : Type 0 where
    pub apart : TellsApart set
    pub greatest : (other : Members) → TellsApart other → SameMembers set other ⊎ IsGreater set other

-- ---- the replies

-- an element behind a space: the name of its router, a colon and its first line
abbrev pub place_text : List ConfigView → ElementIn → List ℕ
place_text routers x =
    32 ∷ (option_map_or (λ c. c.name) (slice_get routers x.router) [] ++ (58 ∷ decimal (slice_index_or x.element.lines 0 0)))

-- the same of the element of a number, if there is one
abbrev pub element_text : List ConfigView → ℕ → List ℕ
element_text routers element = option_map_or (place_text routers) (element_at routers element) []

-- a question by the numbers of its tests, and the answers to it
abbrev pub question_of : ℕ → ℕ → List ℕ
question_of m n = codes "implies " ++ (decimal m ++ (32 ∷ decimal n))

abbrev pub yes_of : ℕ → ℕ → List ℕ
yes_of m n = line_of (question_of m n ++ codes " yes")

abbrev pub no_of : List ConfigView → ℕ → ℕ → List ℕ → List ℕ
no_of routers m n missing = line_of (question_of m n ++ (codes " no without" ++ flat_map (element_text routers) missing))

-- the answer to a question about tests of these facts: that the first implies the second, or the elements that are missing in
-- the greatest set that tells them apart, in order
module _ (g : Flow Fact) (routers : List ConfigView) (first second : List Fact) (m n : ℕ) where
  pub record IsNo (reply : List ℕ) : Type 0 where
    pub missing : List ℕ
    pub ascend : IsStrictlyIncreasing missing
    pub greatest : IsGreatestApart g first second (all_but missing)
    pub text : reply ≡ no_of routers m n missing

  abbrev pub IsAnswer : List ℕ → Type 0
  IsAnswer reply = (IsImplied g first second × (reply ≡ yes_of m n)) ⊎ IsNo reply
