-- Suites: tests that suffice, for without the others each element has the mark that it has with all.
use Rattle.std.specs.Prelude.{◌≡◌, ℕ, ◌+◌, List, ◌∷◌, ◌++◌, codes}
use Rattle.std.specs.Fmt.{decimal}
use Rattle.std.specs.List.{flat_map}
use Rattle.nc_types.specs.Network.{element_count}
use Rattle.nc_tables.specs.State.{StateView}
use Rattle.nc_fact.specs.declared.fact.Fact.{Fact}
use Rattle.nc_rules.specs.Rules.{flow_of}
use Rattle.nc_report.specs.Texts.{line_of}
use Rattle.nc_suite.specs.Suite.{IsSuite}

-- the answer: the numbers of tests by their places, which count from 0
abbrev pub suite_of : List ℕ → List ℕ
suite_of places = line_of (codes "suite" ++ flat_map (λ place. 32 ∷ decimal (place + 1)) places)

-- the suite of tests by the facts of each, of which one that was taken back has none
pub record IsSuiteTold (s : StateView) (tests : List (List Fact)) (reply : List ℕ) : Type 0 where
  pub kept : List ℕ
  pub suite : IsSuite (flow_of s) (element_count s.routers) tests kept
  pub text : reply ≡ suite_of kept
