-- What an engine has and lends, how it answers a line, how many facts it infers for it, and what it draws.
use Rattle.std.specs.Prelude.{◌≡◌, ◌⊎◌, ℕ, ◌+◌, ◌-◌, ◌≤◌, Bool, true, false, nat_lt, List, [], ◌∷◌, ◌++◌, length, All, Contains, Option, Some, None, if◌then◌else◌, codes}
use Rattle.nc_graph.specs.Flow.{raised}
use Rattle.nc_graph.specs.Closure.{IsClosure, ReachesMoreThan}
use Rattle.nc_diagram.specs.Diagrams.{Diagrams, Means}
use Rattle.nc_formula.specs.Parts.{carrying, Gains, IsBaseOfTest}
use Rattle.nc_tables.specs.State.{StateView}
use Rattle.nc_rules.specs.Rules.{flow_of}
use Rattle.nc_fact.specs.declared.fact.Fact.{Fact}
use Rattle.nc_fact.specs.Tested.{tested_facts}
use Rattle.nc_command.specs.declared.command.Command.TheVariants.{Test, Implies, Cut, Dead}
use Rattle.nc_command.specs.Command.{Line, Asks, command_of}
use Rattle.nc_report.specs.Texts.{line_of}
use Rattle.nc_engine.specs.Limits.{most_tests, most_facts}
use Rattle.nc_engine.specs.declared.engine.Flow.{Flow}
use Rattle.nc_engine.specs.declared.engine.Flow.TheVariants.{Go, Stop}
use Rattle.nc_engine.specs.File.{LoadedView}
use Rattle.nc_engine.specs.Session.{KeptTest, State, no_tests, test_in, live_place, Step, asked_in, ends}

-- an engine that isn't spent: its network, what is kept of the session, how many facts were inferred, of which of them it has
-- diagrams, all that was drawn, and whether it was told which elements are dead
pub record Progress : Type 0 where
  pub loaded : LoadedView
  pub session : State
  pub asked : ℕ
  pub drawn : List Fact
  pub diagrams : Diagrams
  pub dead_known : Bool

-- an engine: what it has come to, unless it is spent, and what it lends, which stands behind the bytes that it appended last
pub record EngineView : Type 0 where
  pub progress : Option Progress
  pub lent : List ℕ

-- an engine that begins: no test was accepted, no fact was inferred, nothing was drawn, for which there is room of so many
-- parts, and nothing was told
abbrev pub begin_at : LoadedView → Progress
begin_at n =
    record { loaded = n; session = no_tests; asked = 0; drawn = []; diagrams = record { nodes = []; limit = 1048576 }; dead_known = false }

-- whether it was told, behind a line
abbrev pub dead_known_behind : Line → Bool → Bool
dead_known_behind (Asks Dead) dead_known = true
dead_known_behind line dead_known = dead_known

-- it has the diagrams of all facts of the test at a place
abbrev pub IsDrawn : Progress → ℕ → Type 0
IsDrawn p place = All (Contains p.drawn) (test_in p.session.tests place).facts

-- it has those of both tests of each question that was answered
abbrev pub HasDrawn : Progress → Type 0
HasDrawn p = All (λ q. IsDrawn p q.0 × IsDrawn p q.1) p.session.pairs

-- of each fact of which it has a diagram, some reference means the sets of elements that carry it
abbrev pub HasReferences : Progress → Type 0
HasReferences p = All (λ fact. (r : ℕ) × Means p.diagrams r (carrying (flow_of p.loaded.state) fact)) p.drawn

-- the reply is a refusal
abbrev pub IsRefusal : List ℕ → List ℕ → Type 0
IsRefusal before after = (text : List ℕ) × (after ≡ before ++ line_of (codes "refused " ++ text))

-- behind a line that asks for a cut it has the diagrams of all facts of the live test, or the reply was a refusal
abbrev pub HasDrawnFor : Progress → Line → List ℕ → List ℕ → Type 0
HasDrawnFor p (Asks (Cut number names)) before after =
    (place : ℕ) → live_place p.session.tests number ≡ Some place → IsDrawn p place ⊎ IsRefusal before after
HasDrawnFor p line before after = Unit {0}

-- whether the session goes on behind a line
abbrev pub flow_behind : Line → Flow
flow_behind line = if ends line then Stop else Go

-- facts of a graph of its own are inferred, at most one more than may be asked
pub record InfersApart (before now : ℕ) : Type 0 where
  pub least : before ≤ now
  pub most : now ≤ before + 1048577

module _ (s : StateView) (tests : List KeptTest) where
  -- the facts for which a line asks: those of a test, where one more may be accepted; of any other line none
  abbrev pub asked_for : Line → List Fact
  asked_for (Asks (Test test)) = if nat_lt (length tests) most_tests then tested_facts s test else []
  asked_for line = []

  -- facts are inferred once: as many as are new where they fit, else as many as there was room for
  pub record InfersAll (facts : List Fact) (before now : ℕ) : Type 0 where
    pub fits : ¬ ReachesMoreThan (flow_of s) most_facts (asked_in tests ++ facts) → (xs ys : List Fact)
        → IsClosure (flow_of s) (asked_in tests) xs → IsClosure (flow_of s) (asked_in tests ++ facts) ys
        → now ≡ raised before (length ys - length xs)
    pub full : ReachesMoreThan (flow_of s) most_facts (asked_in tests ++ facts) → (xs : List Fact)
        → IsClosure (flow_of s) (asked_in tests) xs → now ≡ raised before (most_facts - length xs)

  -- for a line that asks for facts, and for one that asks for none
  abbrev pub Infers : List Fact → ℕ → ℕ → Type 0
  Infers [] before now = now ≡ before
  Infers (fact ∷ facts) before now = InfersAll (fact ∷ facts) before now

  -- for a line: the first `dead` infers facts of its own, and a further one none
  abbrev pub InfersFor : Line → Bool → ℕ → ℕ → Type 0
  InfersFor (Asks Dead) false before now = InfersApart before now
  InfersFor line dead_known before now = Infers (asked_for line) before now

-- the facts of the test at a place, where there is a place
abbrev pub facts_at : List KeptTest → Option ℕ → List (List Fact)
facts_at tests None = []
facts_at tests (Some place) = (test_in tests place).facts ∷ []

-- the live tests about which a line asks by their diagrams, each by its facts: those of a question, and that of a cut
abbrev pub asked_about : List KeptTest → Line → List (List Fact)
asked_about tests (Asks (Implies first second)) = facts_at tests (live_place tests first) ++ facts_at tests (live_place tests second)
asked_about tests (Asks (Cut number names)) = facts_at tests (live_place tests number)
asked_about tests line = []

-- nothing that was drawn is lost, and what was added are parts of these tests alone, each given by its facts
abbrev pub DrawsFor : StateView → List (List Fact) → Diagrams → Diagrams → Type 0
DrawsFor s tests old new = Gains (λ base. (facts : List Fact) × Contains tests facts × IsBaseOfTest (flow_of s) facts base) old new

-- a line is answered: the reply goes to the end of the bytes, and parts of the tests that it asks about are drawn; the network
-- stays
pub record Answered (old new : Progress) (line before after : List ℕ) : Type 0 where
  pub reply : List ℕ
  pub step : Step old.loaded old.session line reply new.session
  pub text : after ≡ before ++ reply
  pub loaded : new.loaded ≡ old.loaded
  pub infers : InfersFor old.loaded.state old.session.tests (command_of line) old.dead_known old.asked new.asked
  pub draws : DrawsFor old.loaded.state (asked_about old.session.tests (command_of line)) old.diagrams new.diagrams
  pub dead_known : new.dead_known ≡ dead_known_behind (command_of line) old.dead_known

-- the same of engines of which neither is spent
pub record Turns (old new : Option Progress) (line before after : List ℕ) : Type 0 where
  pub from : Progress
  pub from_is : old ≡ Some from
  pub to : Progress
  pub to_is : new ≡ Some to
  pub answered : Answered from to line before after
