-- Dead elements: those that no test of a route, of an accepted route or of a session could mark, but for those of access lists.
use Rattle.std.specs.Prelude.{◌↔◌, ◌≡◌, ℕ, ◌<◌, Bool, true, false, List, ◌++◌, length, Contains, codes}
use Rattle.std.specs.Fmt.{decimal}
use Rattle.std.specs.List.{flat_map}
use Rattle.std.specs.Option.{option_map_or}
use Rattle.std.specs.List.Sorted.{IsStrictlyIncreasing}
use Rattle.nc_types.specs.Config.{ConfigView}
use Rattle.nc_types.specs.Network.{element_count, element_at}
use Rattle.nc_types.specs.declared.config.Kind.{Kind}
use Rattle.nc_types.specs.declared.config.Kind.TheVariants.{Filter, Group}
use Rattle.nc_graph.specs.Derivation.{IsInSome}
use Rattle.nc_tables.specs.State.{StateView}
use Rattle.nc_fact.specs.declared.fact.Fact.{Fact}
use Rattle.nc_fact.specs.Facts.{holds}
use Rattle.nc_fact.specs.Roots.{IsRoot}
use Rattle.nc_rules.specs.Rules.{flow_of}
use Rattle.nc_report.specs.Texts.{line_of}
use Rattle.nc_engine.specs.Questions.{element_text}

-- a kind of access lists: an entry, or the list that filters an interface in a direction. No route and no session rests on one
abbrev pub is_of_access_lists : Kind → Bool
is_of_access_lists Filter = true
is_of_access_lists Group = true
is_of_access_lists kind = false

-- the element of a number is of such a kind
abbrev pub is_in_access_list : List ConfigView → ℕ → Bool
is_in_access_list routers element = option_map_or (λ e. is_of_access_lists e.element.kind) (element_at routers element) false

module _ (s : StateView) where
  -- an element is dead where it stands in no derivation of any fact that holds of a main row, of a session or of an accepted
  -- route
  abbrev pub IsDead : ℕ → Type 0
  IsDead element = (fact : Fact) → IsRoot fact → holds s fact ≡ true → ¬ IsInSome (flow_of s) element fact

  -- the dead elements of the network, of other kinds than those of access lists, ascending
  pub record AreDead (elements : List ℕ) : Type 0 where
    pub ascend : IsStrictlyIncreasing elements
    pub exactly : (element : ℕ)
        → Contains elements element ↔ ((element < element_count s.routers) × (is_in_access_list s.routers element ≡ false) × IsDead element)

-- the answer: how many they are, and each by its router and its first line
abbrev pub dead_of : List ConfigView → List ℕ → List ℕ
dead_of routers elements = line_of (codes "dead " ++ (decimal (length elements) ++ flat_map (element_text routers) elements))

pub record AreTold (s : StateView) (reply : List ℕ) : Type 0 where
  pub elements : List ℕ
  pub dead : AreDead s elements
  pub text : reply ≡ dead_of s.routers elements
