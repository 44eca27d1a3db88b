-- What an engine works with, and what of a session it keeps.
use Rattle.std.specs.Prelude.{◌≡◌, ◌⊎◌, ℕ, ◌-◌, ◌≤◌, Bool, true, false, nat_lt, List, [], ◌∷◌, ◌++◌, length, map, All, Option, Some, None, is_some, slice_get, slice_index_or, if◌then◌else◌, codes}
use Rattle.std.specs.List.{flat_map}
use Rattle.std.specs.Option.{ForSome, option_map}
use Rattle.nc_types.specs.Config.{ConfigView}
use Rattle.nc_types.specs.Network.{element_count, router_named}
use Rattle.nc_types.specs.declared.command.TestCommand.{TestCommand}
use Rattle.nc_graph.specs.declared.node.NodeId.{NodeId}
use Rattle.nc_graph.specs.Flow.{raised}
use Rattle.nc_graph.specs.Closure.{IsClosure, ReachesMoreThan}
use Rattle.nc_graph.specs.Nodes.{Nodes, Mirrors, AreNodesOf, node_flow}
use Rattle.nc_marks.specs.Kept.{Kept, AreKept}
use Rattle.nc_formula.specs.Formulas.{IsKnown}
use Rattle.nc_formula.specs.Session.{AreDrawn}
use Rattle.nc_tables.specs.State.{StateView, IsState}
use Rattle.nc_fact.specs.declared.fact.Fact.{Fact}
use Rattle.nc_fact.specs.Roots.{roots}
use Rattle.nc_fact.specs.Tested.{tested_facts}
use Rattle.nc_rules.specs.Rules.{flow_of}
use Rattle.nc_rules.specs.Seen.{state_of, asked_of}
use Rattle.nc_command.specs.declared.command.Command.TheVariants.{Test, Implies, Cut, Dead}
use Rattle.nc_command.specs.Command.{Asks, text_of}
use Rattle.nc_engine.specs.Limits.{most_tests, most_facts, most_parts}
use Rattle.nc_engine.specs.declared.work.Work.{Work}
use Rattle.nc_engine.specs.declared.work.KeptTest.{KeptTest as Made}
use Rattle.nc_engine.specs.Session.{KeptTest, State, with_test, posed_in, test_in, live_place, asked_in, live_in, router_of, has_line, IsCrowded, IsReply, Counts, Tests, Lined, Named, Forgets, Questions, Compares, Cuts, CutsNamed, Tells, Shows, TellsSuite, TellsDead}
use Rattle.nc_report.specs.Texts.{Sheet, line_of, sheet_of}
use Rattle.nc_report.specs.Sheets.{sheets_from}
use Rattle.nc_report.specs.Views.{FileView}
use Rattle.nc_engine.specs.File.{LoadedView}
use Rattle.nc_engine.specs.Cuts.{unknown_among}
use Rattle.nc_engine.specs.Engine.{Progress, EngineView, Infers, InfersFor, IsRefusal, DrawsFor, asked_for, asked_about}
use Rattle.nc_engine.specs.DeadElements.{AreDead, dead_of}
use Rattle.nc_engine.specs.declared.dead_elements.DeadElements.{DeadElements}
use Rattle.nc_engine.specs.declared.dead_elements.DeadElements.TheVariants.{Known, TooMany}

-- the tests that it keeps, and all that it keeps of a session
abbrev pub test_view : Made → KeptTest
test_view t = record { facts = t.facts.items; live = t.live }

abbrev pub tests_of : Work → List KeptTest
tests_of w = map test_view w.tests.items

abbrev pub kept_of : Work → State
kept_of w = record { tests = tests_of w; pairs = w.pairs.items }

-- the nodes of the live ones
abbrev pub nodes_in : List Made → List NodeId
nodes_in tests = flat_map (λ t. if t.live then t.nodes.items else []) tests

-- the nodes by test: a test that isn't live has none
abbrev pub nodes_each : List Made → List (List NodeId)
nodes_each tests = map (λ t. if t.live then t.nodes.items else []) tests

-- the network, with these files
abbrev pub loaded_of : List FileView → Work → LoadedView
loaded_of files w = record { state = state_of w.rules; files = files; listed = w.listed }

-- the facts of which a formula is known, by their nodes
unfoldable pub drawn_in : List Fact → List (Option ℕ) → List Fact
drawn_in [] formulas = []
drawn_in (f ∷ facts) [] = []
drawn_in (f ∷ facts) (None ∷ formulas) = drawn_in facts formulas
drawn_in (f ∷ facts) (Some r ∷ formulas) = f ∷ drawn_in facts formulas

-- what an engine of these files has with it
abbrev pub progress_of : List FileView → Work → Progress
progress_of files w =
    record {
      loaded = loaded_of files w;
      session = kept_of w;
      asked = asked_of w.rules;
      drawn = drawn_in w.graph.facts w.formulas;
      diagrams = w.store;
      dead_known = is_some w.dead;
    }

-- bytes, behind which the lines of a report stand where they are lent and not copied
abbrev pub with_lent : Bool → List Sheet → List ℕ → List ℕ
with_lent false shown bytes = bytes
with_lent true shown bytes = bytes ++ flat_map sheet_of shown

-- what is lent of the report as it stands, unless an engine is spent
abbrev pub lent_of : Bool → Option Work → List ℕ
lent_of lends None = []
lent_of lends (Some w) = with_lent lends w.shown []

-- an engine of these files, with what it works with, unless it is spent, and whether it lends
abbrev pub engine_of : List FileView → Option Work → Bool → EngineView
engine_of files work lends = record { progress = option_map (progress_of files) work; lent = lent_of lends work }

-- the graph is the closure of the facts of all tests, as the rules have them, and the marks are those of the live ones' nodes
pub record IsMarked (s : StateView) (tests : List KeptTest) (graph : Nodes Fact) (marks : Kept) : Type 0 where
  pub mirrors : Mirrors (flow_of s) graph
  pub closure : IsClosure (flow_of s) (asked_in tests) graph.facts
  pub limit : graph.limit ≡ most_facts
  pub nodes : List NodeId
  pub are_nodes : AreNodesOf graph nodes (live_in tests)
  pub kept : AreKept (node_flow graph) (length graph.facts) (map (λ p. p.0) nodes) (element_count s.routers) marks

-- each test has the nodes of its facts
abbrev pub HaveNodes : Nodes Fact → List Made → Type 0
HaveNodes graph tests = All (λ t. AreNodesOf graph t.nodes.items t.facts.items) tests

-- there is a test at the place, and the formulas of all its nodes are known
pub record IsDrawnAt (formulas : List (Option ℕ)) (tests : List Made) (place : ℕ) : Type 0 where
  pub test : Made
  pub at : slice_get tests place ≡ Some test
  pub known : All (λ p. IsKnown formulas p.0) test.nodes.items

-- those of both tests of a question are
abbrev pub IsDrawnFor : List (Option ℕ) → List Made → ℕ × ℕ → Type 0
IsDrawnFor formulas tests q = IsDrawnAt formulas tests q.0 × IsDrawnAt formulas tests q.1

-- what is known of the dead elements is so
abbrev pub IsKnownDead : StateView → DeadElements → Type 0
IsKnownDead s (Known ids) = ¬ ReachesMoreThan (flow_of s) most_facts (roots s) × AreDead s (map (λ e. e.0) ids.items)
IsKnownDead s TooMany = ReachesMoreThan (flow_of s) most_facts (roots s)

pub record IsWork (w : Work) : Type 0 where
  pub state : IsState (state_of w.rules)
  pub marked : IsMarked (state_of w.rules) (tests_of w) w.graph w.marks
  pub nodes : HaveNodes w.graph w.tests.items
  pub drawn : AreDrawn (flow_of (state_of w.rules)) (posed_in (kept_of w)) w.graph w.store w.formulas
  pub answered : All (IsDrawnFor w.formulas w.tests.items) w.pairs.items
  pub room : w.store.limit ≡ most_parts
  pub shown : w.shown ≡ sheets_from (state_of w.rules).routers w.marks.marks 0 (state_of w.rules).routers
  pub few : length w.tests.items ≤ most_tests
  pub dead : ForSome w.dead (IsKnownDead (state_of w.rules))
  pub crowded : (place : ℕ) → slice_index_or w.refused.items place false ≡ true → IsCrowded (state_of w.rules) (kept_of w)

-- the network is the same, whether reports list its routers, and what is known of its dead elements
pub record SameNetwork (old new : Work) : Type 0 where
  pub state : state_of new.rules ≡ state_of old.rules
  pub listed : new.listed ≡ old.listed
  pub dead : new.dead ≡ old.dead

-- facts were taken up as a test, or too many would be asked with them
abbrev pub Takes : Bool → Work → Work → List Fact → Type 0
Takes true old new facts =
    ¬ ReachesMoreThan (flow_of (state_of old.rules)) most_facts (asked_in (tests_of old) ++ facts)
    × (kept_of new ≡ with_test (kept_of old) facts)
    × (asked_of new.rules ≡ raised (asked_of old.rules) (length new.graph.facts - length old.graph.facts))
Takes false old new facts =
    ReachesMoreThan (flow_of (state_of old.rules)) most_facts (asked_in (tests_of old) ++ facts) × (kept_of new ≡ kept_of old)
    × (asked_of new.rules ≡ raised (asked_of old.rules) (most_facts - length old.graph.facts))

-- a reply goes to the end of the bytes
pub record Appended (replies : List ℕ → Type 0) (before after : List ℕ) : Type 0 where
  pub reply : List ℕ
  pub is_reply : replies reply
  pub text : after ≡ before ++ reply

-- the reply to the last test goes to the end of the bytes
abbrev pub Replies : Work → List ℕ → List ℕ → Type 0
Replies w before after = Appended (IsReply (state_of w.rules) w.listed (tests_of w)) before after

-- nothing was drawn, or parts of these tests alone
abbrev pub Draws : Work → Work → List (List Fact) → Type 0
Draws old new tests = (new.store ≡ old.store) ⊎ DrawsFor (state_of old.rules) tests old.store new.store

-- what is answered to a line; so many facts are inferred for those asked for, and parts of the tests asked about are drawn
pub record Turned (old new : Work) (answers : List ℕ → State → Type 0) (asked : List Fact) (about : List (List Fact)) (before after : List ℕ) : Type 0 where
  pub reply : List ℕ
  pub answer : answers reply (kept_of new)
  pub text : after ≡ before ++ reply
  pub network : SameNetwork old new
  pub infers : Infers (state_of old.rules) (tests_of old) asked (asked_of old.rules) (asked_of new.rules)
  pub draws : Draws old new about

abbrev pub Counted : Work → Work → List Fact → List ℕ → List ℕ → Type 0
Counted old new facts before after =
    Turned old new (Counts (state_of old.rules) old.listed (nat_lt (length (tests_of old)) most_tests) (kept_of old) facts)
    (if nat_lt (length (tests_of old)) most_tests then facts else []) [] before after

-- the same of a test, where its router and its line are there; where its router is; and of any
abbrev pub Told : Work → Work → TestCommand → List ℕ → List ℕ → Type 0
Told old new test before after =
    Turned old new (Tests (state_of old.rules) old.listed (kept_of old) (tested_facts (state_of old.rules) test) (text_of test))
    (asked_for (state_of old.rules) (tests_of old) (Asks (Test test))) [] before after

abbrev pub TestedAt : Work → Work → ℕ → TestCommand → List ℕ → List ℕ → Type 0
TestedAt old new router test before after =
    Turned old new (Lined (state_of old.rules) old.listed (has_line (state_of old.rules) router test) (kept_of old) test)
    (asked_for (state_of old.rules) (tests_of old) (Asks (Test test))) [] before after

abbrev pub Tested : Work → Work → TestCommand → List ℕ → List ℕ → Type 0
Tested old new test before after =
    Turned old new (Named (state_of old.rules) old.listed (router_named (state_of old.rules).routers (router_of test)) (kept_of old) test)
    (asked_for (state_of old.rules) (tests_of old) (Asks (Test test))) [] before after

-- what is answered where a test is forgotten, and to a question by the places of two tests and by their numbers
abbrev pub Forgotten : Work → Work → ℕ → List ℕ → List ℕ → Type 0
Forgotten old new number before after =
    Turned old new (Forgets (state_of old.rules) old.listed (live_place (tests_of old) number) (kept_of old) number) [] [] before after

abbrev pub Compared : Work → Work → ℕ → ℕ → ℕ → ℕ → List ℕ → List ℕ → Type 0
Compared old new first second m n before after =
    Turned old new (Compares (state_of old.rules) (kept_of old) first second m n) []
    ((test_in (tests_of old) first).facts ∷ (test_in (tests_of old) second).facts ∷ []) before after

abbrev pub Questioned : Work → Work → ℕ → ℕ → List ℕ → List ℕ → Type 0
Questioned old new m n before after =
    Turned old new (Questions (state_of old.rules) (live_place (tests_of old) m) (live_place (tests_of old) n) (kept_of old) m n) []
    (asked_about (tests_of old) (Asks (Implies m n))) before after

-- what is answered to a cut by the place of its test, and by the number and the names
abbrev pub CutAt : Work → Work → ℕ → ℕ → List (List ℕ) → List ℕ → List ℕ → Type 0
CutAt old new place n names before after =
    Turned old new (Cuts (state_of old.rules) (kept_of old) place n names) [] ((test_in (tests_of old) place).facts ∷ []) before after

abbrev pub CutAsked : Work → Work → ℕ → List (List ℕ) → List ℕ → List ℕ → Type 0
CutAsked old new n names before after =
    Turned old new (CutsNamed (state_of old.rules) (unknown_among (state_of old.rules).routers names) (live_place (tests_of old) n) (kept_of old) n names) []
    (asked_about (tests_of old) (Asks (Cut n names))) before after

-- the formulas of all nodes of the test of a number are known where it is live, or the reply was a refusal
abbrev pub IsDrawnOrRefused : Work → ℕ → List ℕ → List ℕ → Type 0
IsDrawnOrRefused w n before after =
    (place : ℕ) → live_place (tests_of w) n ≡ Some place → IsDrawnAt w.formulas w.tests.items place ⊎ IsRefusal before after

-- a reply that changes nothing goes to the end of the bytes
pub record Adds (w : Work) (answers : List ℕ → State → Type 0) (before after : List ℕ) : Type 0 where
  pub reply : List ℕ
  pub answer : answers reply (kept_of w)
  pub text : after ≡ before ++ reply

-- what is said of the dead elements
abbrev pub known_text : List ConfigView → DeadElements → List ℕ
known_text routers (Known ids) = dead_of routers (map (λ e. e.0) ids.items)
known_text routers TooMany = line_of (codes "refused limit facts")

-- the dead elements are told, behind which they are known; nothing is drawn
pub record DeadTold (old new : Work) (before after : List ℕ) : Type 0 where
  pub reply : List ℕ
  pub answer : TellsDead (state_of old.rules) (kept_of old) reply (kept_of new)
  pub text : after ≡ before ++ reply
  pub state : state_of new.rules ≡ state_of old.rules
  pub listed : new.listed ≡ old.listed
  pub store : new.store ≡ old.store
  pub infers : InfersFor (state_of old.rules) (tests_of old) (Asks Dead) (is_some old.dead) (asked_of old.rules) (asked_of new.rules)
  pub known : is_some new.dead ≡ true

-- a suite is told
abbrev pub Sufficed : Work → List ℕ → List ℕ → Type 0
Sufficed w before after = Adds w (TellsSuite (state_of w.rules) (kept_of w)) before after

-- what is answered to the name of a router, of which a listing is asked
abbrev pub Listed : List FileView → Work → List ℕ → List ℕ → List ℕ → Type 0
Listed files w name before after = Adds w (Shows (loaded_of files w) (router_named (state_of w.rules).routers name) (kept_of w) name) before after

-- a form of the marks is told
abbrev pub Forms : List FileView → Work → (List Sheet → List ℕ) → List ℕ → List ℕ → Type 0
Forms files w form before after = Adds w (Tells (loaded_of files w) form (kept_of w)) before after
