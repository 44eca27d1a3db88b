-- A session: what a line of it is replied, and what is kept.
use Rattle.std.specs.Prelude.{◌≡◌, ◌⊎◌, ℕ, zero, suc, Bool, true, false, nat_lt, List, [], ◌∷◌, ◌++◌, length, map, slice_set, slice_index_or, Option, Some, None, is_some, if◌then◌else◌, codes}
use Rattle.std.specs.Fmt.{decimal}
use Rattle.std.specs.List.{flat_map}
use Rattle.nc_types.specs.Network.{router_named, owner_at}
use Rattle.nc_types.specs.declared.command.TestCommand.{TestCommand}
use Rattle.nc_types.specs.declared.command.TestCommand.TheVariants.{Rib, Bgp, Session, Reach, Every, Flow, Element}
use Rattle.nc_graph.specs.Closure.{IsClosure, ReachesMoreThan}
use Rattle.nc_tables.specs.State.{StateView}
use Rattle.nc_fact.specs.declared.fact.Fact.{Fact}
use Rattle.nc_fact.specs.Roots.{roots}
use Rattle.nc_fact.specs.Tested.{tested_facts}
use Rattle.nc_rules.specs.Rules.{flow_of}
use Rattle.nc_command.specs.declared.command.Command.TheVariants.{Test, Forget, Implies, Cut, Suite, Dead, Show, Lcov, Json, Quit}
use Rattle.nc_command.specs.Command.{Line, Passed, TooLong, Unread, Asks, command_of, text_of}
use Rattle.nc_formula.specs.Session.{Asked, HasMoreParts}
use Rattle.nc_engine.specs.Limits.{most_tests, most_facts, most_parts}
use Rattle.nc_report.specs.Texts.{Sheet, line_of, sheet_in, show_of, lcov_of, json_of}
use Rattle.nc_engine.specs.Questions.{IsAnswer}
use Rattle.nc_engine.specs.Cuts.{IsCutAnswer, unknown_among}
use Rattle.nc_engine.specs.Suites.{IsSuiteTold}
use Rattle.nc_engine.specs.DeadElements.{AreTold}
use Rattle.nc_engine.specs.File.{LoadedView, file_in}
use Rattle.nc_engine.specs.Marks.{IsFormOf, IsReport}

-- the name of the router that a test is of
abbrev pub router_of : TestCommand → List ℕ
router_of (Rib name prefix via) = name
router_of (Bgp name prefix from) = name
router_of (Session name addr) = name
router_of (Reach name addr) = name
router_of (Every name addr) = name
router_of (Flow name from to) = name
router_of (Element name line) = name

-- a test that was accepted: the facts that it tests, and whether it is live, so that its marks count
pub record KeptTest : Type 0 where
  pub facts : List Fact
  pub live : Bool

-- a test as it is accepted
abbrev pub live_test : List Fact → KeptTest
live_test facts = record { facts = facts; live = true }

-- the accepted tests, in order, and the questions that were answered, each by the places of its two tests among these
pub record State : Type 0 where
  pub tests : List KeptTest
  pub pairs : List (ℕ × ℕ)

-- no test was accepted, and no question answered
abbrev pub no_tests : State
no_tests = record { tests = []; pairs = [] }

-- a state with one test more, which is live
abbrev pub with_test : State → List Fact → State
with_test old facts = record { tests = old.tests ++ live_test facts ∷ []; pairs = old.pairs }

-- a state with one question more
abbrev pub with_pair : State → ℕ → ℕ → State
with_pair old first second = record { tests = old.tests; pairs = old.pairs ++ (first, second) ∷ [] }

-- the test at a place, which counts from 0
abbrev pub test_in : List KeptTest → ℕ → KeptTest
test_in tests place = slice_index_or tests place (record { facts = []; live = false })

-- the place of the live test of a number: tests are numbered from 1
abbrev pub live_place : List KeptTest → ℕ → Option ℕ
live_place tests zero = None
live_place tests (suc place) = if (test_in tests place).live then Some place else None

-- a state in which the test at a place is no longer live
abbrev pub without_test : State → ℕ → State
without_test old place =
    record { tests = slice_set old.tests place (record { facts = (test_in old.tests place).facts; live = false }); pairs = old.pairs }

-- the facts of all tests: with all that they follow from these were asked
abbrev pub asked_in : List KeptTest → List Fact
asked_in tests = flat_map (λ t. t.facts) tests

-- the facts of the live tests, for which lines are marked
abbrev pub live_in : List KeptTest → List Fact
live_in tests = flat_map (λ t. if t.live then t.facts else []) tests

-- the same by test: a test that isn't live has none
abbrev pub live_each : List KeptTest → List (List Fact)
live_each tests = map (λ t. if t.live then t.facts else []) tests

-- what the parts of diagrams are of: the facts of each test, and the questions
abbrev pub posed_in : State → Asked Fact
posed_in kept = record { tests = map (λ t. t.facts) kept.tests; pairs = kept.pairs }

-- a reply of one line that changes nothing
abbrev pub Refuses : State → List ℕ → List ℕ → State → Type 0
Refuses old text reply new = (reply ≡ line_of text) × (new ≡ old)

-- the refusal of a router that isn't there
abbrev pub unknown_of : List ℕ → List ℕ
unknown_of name = codes "refused router " ++ name

-- the refusal of a number that no live test has
abbrev pub untested_of : ℕ → List ℕ
untested_of number = codes "refused test " ++ decimal number

-- the first line of the reply where a test is forgotten
abbrev pub forgot_of : ℕ → List ℕ
forgot_of number = line_of (codes "forgot " ++ decimal number)

-- the first line of a test's reply: its number, and how many facts were asked
abbrev pub accepted_of : ℕ → ℕ → List ℕ
accepted_of number facts = line_of (codes "test " ++ (decimal number ++ (codes " facts " ++ decimal facts)))

-- a router has the element that a test asks for by a line, if the test asks for one
abbrev pub has_line : StateView → ℕ → TestCommand → Bool
has_line s router (Element name line) = is_some (owner_at s.routers router line)
has_line s router test = true

-- ---- tests, where reports list the lines of the routers or don't

module _ (s : StateView) (listed : Bool) where
  -- a reply with this first line, behind which the report for the live tests stands
  pub record IsReported (tests : List KeptTest) (first reply : List ℕ) : Type 0 where
    pub report : List ℕ
    pub is_report : IsReport (flow_of s) (live_in tests) s.routers listed report
    pub text : reply ≡ first ++ report

  -- the reply to a test that makes these tests: its number, how many facts were asked, and the report
  pub record IsReply (tests : List KeptTest) (reply : List ℕ) : Type 0 where
    pub asked : List Fact
    pub closure : IsClosure (flow_of s) (asked_in tests) asked
    pub reported : IsReported tests (accepted_of (length tests) (length asked)) reply

  -- a test with which too many facts would be asked, and one that is accepted
  abbrev pub Overfills : State → List Fact → List ℕ → State → Type 0
  Overfills old facts reply new =
      ReachesMoreThan (flow_of s) most_facts (asked_in old.tests ++ facts) × Refuses old (codes "refused limit facts") reply new

  abbrev pub Accepts : State → List Fact → List ℕ → State → Type 0
  Accepts old facts reply new =
      ¬ ReachesMoreThan (flow_of s) most_facts (asked_in old.tests ++ facts) × (new ≡ with_test old facts) × IsReply new.tests reply

  -- whether there is room for one more test
  abbrev pub Counts : Bool → State → List Fact → List ℕ → State → Type 0
  Counts true old facts reply new = Overfills old facts reply new ⊎ Accepts old facts reply new
  Counts false old facts reply new = Refuses old (codes "refused limit tests") reply new

  -- a test that is absent where it tests no fact
  abbrev pub Tests : State → List Fact → List ℕ → List ℕ → State → Type 0
  Tests old [] text reply new = Refuses old (codes "refused absent " ++ text) reply new
  Tests old (fact ∷ facts) text reply new = Counts (nat_lt (length old.tests) most_tests) old (fact ∷ facts) reply new

  -- a test of a router that is there: a line that no element has is refused before anything is tested
  abbrev pub Lined : Bool → State → TestCommand → List ℕ → State → Type 0
  Lined true old test reply new = Tests old (tested_facts s test) (text_of test) reply new
  Lined false old test reply new = Refuses old (codes "refused line") reply new

  -- a test by the number of its router, where one has the name
  abbrev pub Named : Option ℕ → State → TestCommand → List ℕ → State → Type 0
  Named (Some router) old test reply new = Lined (has_line s router test) old test reply new
  Named None old test reply new = Refuses old (unknown_of (router_of test)) reply new

  -- a test that is forgotten, by its place if it is live
  abbrev pub Forgets : Option ℕ → State → ℕ → List ℕ → State → Type 0
  Forgets (Some place) old number reply new = (new ≡ without_test old place) × IsReported new.tests (forgot_of number) reply
  Forgets None old number reply new = Refuses old (untested_of number) reply new

-- ---- questions

module _ (s : StateView) where
  -- the diagrams of the tests and of the questions have more distinct parts than may be kept
  abbrev pub IsCrowded : State → Type 0
  IsCrowded kept = HasMoreParts (flow_of s) (posed_in kept) most_parts

  -- a question about the tests at two places, which have these numbers: it is answered, or it may be refused where the
  -- diagrams with it have too many parts
  abbrev pub Compares : State → ℕ → ℕ → ℕ → ℕ → List ℕ → State → Type 0
  Compares old first second m n reply new =
      (IsAnswer (flow_of s) s.routers (test_in old.tests first).facts (test_in old.tests second).facts m n reply
      × (new ≡ with_pair old first second))
      ⊎ (IsCrowded (with_pair old first second) × Refuses old (codes "refused limit diagrams") reply new)

  -- a question by the places of its tests, where they are live
  abbrev pub Questions : Option ℕ → Option ℕ → State → ℕ → ℕ → List ℕ → State → Type 0
  Questions None second old m n reply new = Refuses old (untested_of m) reply new
  Questions (Some first) None old m n reply new = Refuses old (untested_of n) reply new
  Questions (Some first) (Some second) old m n reply new = Compares old first second m n reply new

  -- a least cut of the test at a place, which has this number: it is told, or it may be refused where the diagrams have too
  -- many parts; nothing changes
  abbrev pub Cuts : State → ℕ → ℕ → List (List ℕ) → List ℕ → State → Type 0
  Cuts old place n names reply new =
      (IsCutAnswer (flow_of s) s.routers names (test_in old.tests place).facts n reply × (new ≡ old))
      ⊎ (IsCrowded old × Refuses old (codes "refused limit diagrams") reply new)

  -- a cut by the first name that no router has, and by the place of its test, where it is live
  abbrev pub CutsNamed : Option (List ℕ) → Option ℕ → State → ℕ → List (List ℕ) → List ℕ → State → Type 0
  CutsNamed (Some name) place old n names reply new = Refuses old (unknown_of name) reply new
  CutsNamed None None old n names reply new = Refuses old (untested_of n) reply new
  CutsNamed None (Some place) old n names reply new = Cuts old place n names reply new

-- ---- what is built from coverage

module _ (s : StateView) where
  -- the tests of a suite are told; nothing changes
  abbrev pub TellsSuite : State → List ℕ → State → Type 0
  TellsSuite old reply new = IsSuiteTold s (live_each old.tests) reply × (new ≡ old)

  -- the dead elements are told, unless too many facts stand behind all that a test could be of; nothing changes
  abbrev pub TellsDead : State → List ℕ → State → Type 0
  TellsDead old reply new =
      (¬ ReachesMoreThan (flow_of s) most_facts (roots s) × AreTold s reply × (new ≡ old))
      ⊎ (ReachesMoreThan (flow_of s) most_facts (roots s) × Refuses old (codes "refused limit facts") reply new)

-- ---- a session

module _ (n : LoadedView) where
  -- a form of the marks for the live tests; nothing changes
  abbrev pub Tells : (List Sheet → List ℕ) → State → List ℕ → State → Type 0
  Tells form old reply new = IsFormOf (flow_of n.state) (live_in old.tests) n.state.routers form reply × (new ≡ old)

  -- the listing of the file of a router
  abbrev pub listing_at : ℕ → List Sheet → List ℕ
  listing_at router sheets = show_of (sheet_in sheets router).letters (file_in n.files router).lines

  -- a listing by the number of the router, where one has the name
  abbrev pub Shows : Option ℕ → State → List ℕ → List ℕ → State → Type 0
  Shows (Some router) old name reply new = Tells (listing_at router) old reply new
  Shows None old name reply new = Refuses old (unknown_of name) reply new

  -- what a line is replied, and what is kept
  abbrev pub Answers : State → Line → List ℕ → State → Type 0
  Answers old Passed reply new = (reply ≡ []) × (new ≡ old)
  Answers old TooLong reply new = Refuses old (codes "refused long") reply new
  Answers old Unread reply new = Refuses old (codes "refused syntax") reply new
  Answers old (Asks Quit) reply new = (reply ≡ []) × (new ≡ old)
  Answers old (Asks (Show name)) reply new = Shows (router_named n.state.routers name) old name reply new
  Answers old (Asks Lcov) reply new = Tells (λ sheets. lcov_of sheets n.files) old reply new
  Answers old (Asks Json) reply new = Tells json_of old reply new
  Answers old (Asks (Test test)) reply new = Named n.state n.listed (router_named n.state.routers (router_of test)) old test reply new
  Answers old (Asks (Forget number)) reply new = Forgets n.state n.listed (live_place old.tests number) old number reply new
  Answers old (Asks (Implies first second)) reply new =
      Questions n.state (live_place old.tests first) (live_place old.tests second) old first second reply new
  Answers old (Asks (Cut number names)) reply new =
      CutsNamed n.state (unknown_among n.state.routers names) (live_place old.tests number) old number names reply new
  Answers old (Asks Suite) reply new = TellsSuite n.state old reply new
  Answers old (Asks Dead) reply new = TellsDead n.state old reply new

  -- one line of the session
  abbrev pub Step : State → List ℕ → List ℕ → State → Type 0
  Step old line reply new = Answers old (command_of line) reply new

  -- lines in order: the replies, joined, and what is kept in the end
  abbrev pub Run : State → List (List ℕ) → List ℕ → State → Type 0
  Run old [] replies new = (replies ≡ []) × (new ≡ old)
  Run old (line ∷ lines) replies new =
      (reply : List ℕ) × (mid : State) × (more : List ℕ) × Step old line reply mid × Run mid lines more new × (replies ≡ reply ++ more)

-- ---- the end of a session

-- a line that ends the session
abbrev pub ends : Line → Bool
ends (Asks Quit) = true
ends line = false

abbrev pub is_quit : List ℕ → Bool
is_quit line = ends (command_of line)

-- the lines before the first that ends the session
abbrev pub until_quit : List (List ℕ) → List (List ℕ)
until_quit [] = []
until_quit (line ∷ lines) = if is_quit line then [] else line ∷ until_quit lines

-- the replies to lines in order, up to the end of the session, from no test on
pub record AreReplies (n : LoadedView) (lines : List (List ℕ)) (replies : List ℕ) : Type 0 where
  pub last : State
  pub run : Run n no_tests (until_quit lines) replies last

-- from wherever a session came, it can go on: further lines are replied
abbrev pub GoesOn : LoadedView → Type 0
GoesOn n =
    (lines more : List (List ℕ)) (replies : List ℕ) (last : State) → Run n no_tests lines replies last
    → (rest : List ℕ) × (end : State) × Run n last more rest end
