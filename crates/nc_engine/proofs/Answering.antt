-- What is answered to a test that tests something, and how many facts are inferred for it.
use Rattle.std.proofs.Common.{◌≡◌, ℕ, ◌-◌, ◌<◌, Bool, true, false, nat_lt, List, [], ◌∷◌, ◌++◌, if◌then◌else◌, length, Option, Some, None, is_some, codes, inl, inr, refl, sym, ap, ◌∙◌, subst, arith}
use Rattle.std.proofs.lemmas.Bool.{lt-ltb}
use Rattle.std.proofs.lemmas.List.{length-map}
use Rattle.std.specs.List.{filter}
use Rattle.std.specs.Option.{option_map, option_map_or}
use Rattle.nc_types.specs.Network.{router_named, owner_at}
use Rattle.nc_types.specs.declared.command.TestCommand.{TestCommand}
use Rattle.nc_types.specs.declared.command.TestCommand.TheVariants.{Rib, Bgp, Session, Reach, Every, Flow, Element}
use Rattle.nc_graph.specs.Closure.{IsClosure}
use Rattle.nc_graph.specs.Flow.{raised}
use Rattle.nc_tables.specs.State.{StateView}
use Rattle.nc_fact.specs.declared.fact.Fact.{Fact}
use Rattle.nc_fact.specs.declared.fact.Fact.TheVariants as fact
use Rattle.nc_fact.specs.Facts.{holds}
use Rattle.nc_fact.specs.Tested.{tested_facts, asked_element}
use Rattle.nc_rules.specs.Rules.{flow_of}
use Rattle.nc_rules.specs.Seen.{state_of, asked_of}
use Rattle.nc_command.specs.declared.command.Command.TheVariants.{Test}
use Rattle.nc_command.specs.Command.{Asks, text_of}
use Rattle.nc_engine.specs.Limits.{most_tests, most_facts}
use Rattle.nc_engine.specs.declared.work.Work.{Work}
use Rattle.nc_report.specs.Texts.{line_of}
use Rattle.nc_engine.specs.Session.{KeptTest, State, with_test, IsReply, Refuses, Counts, Tests, Lined, Named, has_line, unknown_of, router_of, asked_in}
use Rattle.nc_engine.specs.Engine.{Infers, InfersAll, asked_for}
use Rattle.nc_engine.specs.Work.{IsWork, SameNetwork, Takes, Replies, Counted, test_view, tests_of, kept_of}
use Rattle.nc_engine.proofs.Working.{asked-more}

module _ (old new : Work) (facts : List Fact) (before after : List ℕ) (network : SameNetwork old new) (store : new.store ≡ old.store) where
  -- the state of the network
  abbrev pub at : StateView
  at = state_of old.rules

  counted : (room : Bool) → nat_lt (length (tests_of old)) most_tests ≡ room → (reply : List ℕ) → Counts at old.listed room (kept_of old) facts reply (kept_of new)
      → after ≡ before ++ reply → Infers at (tests_of old) (if room then facts else []) (asked_of old.rules) (asked_of new.rules) → Counted old new facts before after
  counted room is reply answer text infers = record {
    reply = reply;
    answer = subst (λ (b : Bool). Counts at old.listed b (kept_of old) facts reply (kept_of new)) (sym is) answer;
    text = text;
    network = network;
    infers = subst (λ (b : Bool). Infers at (tests_of old) (if b then facts else []) (asked_of old.rules) (asked_of new.rules)) (sym is) infers;
    draws = inl store;
  }

  module _ (room : length old.tests.items < most_tests) (some : 0 < length facts)
      (lengths : (fs xs ys : List Fact) → IsClosure (flow_of at) fs xs → IsClosure (flow_of at) fs ys → length xs ≡ length ys) (was : IsWork old) where
    has_room : nat_lt (length (tests_of old)) most_tests ≡ true
    has_room = lt-ltb (length (tests_of old)) most_tests (omega (arith, length-map old.tests.items test_view))

    infers-some : (fs : List Fact) → 0 < length fs → InfersAll at (tests_of old) fs (asked_of old.rules) (asked_of new.rules) → Infers at (tests_of old) fs (asked_of old.rules) (asked_of new.rules)
    infers-some [] few all = absurd (omega arith)
    infers-some (f ∷ fs) few all = all

    -- it is taken up
    pub accepted : Takes true old new facts → IsWork new → Replies new before after → Counted old new facts before after
    accepted taken is r = counted true has_room r.reply (inr (taken.0, taken.1, answers)) r.text (infers-some facts some (record {
      fits = λ few xs ys a b. taken.2 ∙ ap (λ (n : ℕ). raised (asked_of old.rules) n) (added xs ys a b);
      full = λ many. absurd (taken.0 many);
    }))
      where
        tests : tests_of new ≡ (with_test (kept_of old) facts).tests
        tests = ap (λ (kept : State). kept.tests) taken.1

        answers : IsReply at old.listed (tests_of new) r.reply
        answers = subst (λ (l : Bool). IsReply at l (tests_of new) r.reply) network.listed
            (subst (λ (s : StateView). IsReply s new.listed (tests_of new) r.reply) network.state r.is_reply)

        closure : IsClosure (flow_of at) (asked_in (tests_of old) ++ facts) new.graph.facts
        closure = subst (λ (fs : List Fact). IsClosure (flow_of at) fs new.graph.facts) (ap asked_in tests ∙ asked-more (tests_of old) facts)
            (subst (λ (s : StateView). IsClosure (flow_of s) (asked_in (tests_of new)) new.graph.facts) network.state is.marked.closure)

        added : (xs ys : List Fact) → IsClosure (flow_of at) (asked_in (tests_of old)) xs → IsClosure (flow_of at) (asked_in (tests_of old) ++ facts) ys
            → length new.graph.facts - length old.graph.facts ≡ length ys - length xs
        added xs ys a b =
            let first : length xs ≡ length old.graph.facts = lengths (asked_in (tests_of old)) xs old.graph.facts a was.marked.closure in
            let last : length ys ≡ length new.graph.facts = lengths (asked_in (tests_of old) ++ facts) ys new.graph.facts b closure in
            omega arith

    -- it is refused for its facts
    pub overfilled : Takes false old new facts → (reply : List ℕ) → reply ≡ line_of (codes "refused limit facts") → after ≡ before ++ reply → Counted old new facts before after
    overfilled taken reply is text = counted true has_room reply (inl (taken.0, (is, taken.1))) text (infers-some facts some (record {
      fits = λ few. absurd (few taken.0);
      full = λ many xs a. taken.2 ∙ ap (λ (n : ℕ). raised (asked_of old.rules) (most_facts - n)) (lengths (asked_in (tests_of old)) old.graph.facts xs was.marked.closure a);
    }))

-- a test that tests nothing, and one whose router isn't there, ask for no fact
pub none-asked : (s : StateView) (tests : List KeptTest) (test : TestCommand) → tested_facts s test ≡ [] → asked_for s tests (Asks (Test test)) ≡ []
none-asked s tests test none = ap (λ (fs : List Fact). if nat_lt (length tests) most_tests then fs else []) none ∙ never (nat_lt (length tests) most_tests)
  where
    never : (b : Bool) → ◌≡◌ {A = List Fact} (if b then [] else []) []
    never true = refl
    never false = refl

-- what is named of a router that isn't there is nothing
none-of : (s : StateView) (named : ℕ → List Fact) (router : Option ℕ) → router ≡ None → filter (holds s) (option_map_or named router []) ≡ []
none-of s named router none = ap (λ (r : Option ℕ). filter (holds s) (option_map_or named r [])) none

pub none-named : (s : StateView) (test : TestCommand) → router_named s.routers (router_of test) ≡ None → tested_facts s test ≡ []
unfolding tested_facts
none-named s (Rib name prefix via) none = none-of s _ (router_named s.routers name) none
none-named s (Bgp name prefix from) none = none-of s _ (router_named s.routers name) none
none-named s (Session name addr) none = none-of s _ (router_named s.routers name) none
none-named s (Reach name addr) none = none-of s _ (router_named s.routers name) none
none-named s (Every name addr) none = none-of s _ (router_named s.routers name) none
none-named s (Flow name from to) none = none-of s _ (router_named s.routers name) none
none-named s (Element name line) none = none-of s _ (router_named s.routers name) none

-- no router is found
pub unnamed : {R : Type 0} (number : R → ℕ) (found : Option R) (router : Option ℕ) → is_some found ≡ false → option_map number found ≡ router → router ≡ None
unnamed number None router out is = sym is
unnamed number (Some r) router out is = absurd (cc)

-- a test whose router isn't there
pub unknown : (s : StateView) (listed : Bool) (kept : State) (test : TestCommand) → router_named s.routers (router_of test) ≡ None
    → Named s listed (router_named s.routers (router_of test)) kept test (line_of (unknown_of (router_of test))) kept
unknown s listed kept test none = subst (λ (r : Option ℕ). Named s listed r kept test (line_of (unknown_of (router_of test))) kept) (sym none) (refl, refl)

-- a test of a line that no element has asks for no fact
pub none-lined : (s : StateView) (router : ℕ) (test : TestCommand) → router_named s.routers (router_of test) ≡ Some router → has_line s router test ≡ false → tested_facts s test ≡ []
unfolding tested_facts
none-lined s router (Rib name prefix via) at none = absurd (cc)
none-lined s router (Bgp name prefix from) at none = absurd (cc)
none-lined s router (Session name addr) at none = absurd (cc)
none-lined s router (Reach name addr) at none = absurd (cc)
none-lined s router (Every name addr) at none = absurd (cc)
none-lined s router (Flow name from to) at none = absurd (cc)
none-lined s router (Element name line) at none =
    ap (λ (r : Option ℕ). filter (holds s) (option_map_or (λ router. asked_element s router line) r [])) at
    ∙ ap (λ (o : Option ℕ). filter (holds s) (option_map_or (λ element. fact.Element (record { 0 = element }) ∷ []) o [])) (no_owner (owner_at s.routers router line) none)
  where
    no_owner : (o : Option ℕ) → is_some o ≡ false → o ≡ None
    no_owner None out = refl
    no_owner (Some element) out = absurd (cc)

module _ (s : StateView) (listed : Bool) (router : ℕ) (test : TestCommand) (old new : State) (reply : List ℕ) where
  -- such a test is refused
  pub unlined : has_line s router test ≡ false → Refuses old (codes "refused line") reply new → Lined s listed (has_line s router test) old test reply new
  unlined none refuses = subst (λ (b : Bool). Lined s listed b old test reply new) (sym none) refuses

  -- any other is answered as its facts are
  pub lined : has_line s router test ≡ true → Tests s listed old (tested_facts s test) (text_of test) reply new → Lined s listed (has_line s router test) old test reply new
  lined there tests = subst (λ (b : Bool). Lined s listed b old test reply new) (sym there) tests

  pub named : router_named s.routers (router_of test) ≡ Some router → Lined s listed (has_line s router test) old test reply new
      → Named s listed (router_named s.routers (router_of test)) old test reply new
  named at lines = subst (λ (r : Option ℕ). Named s listed r old test reply new) (sym at) lines

-- a test that tests nothing is absent
pub untested : (s : StateView) (listed : Bool) (facts : List Fact) (old : State) (text reply : List ℕ) (new : State) → facts ≡ [] → Refuses old (codes "refused absent " ++ text) reply new → Tests s listed old facts text reply new
untested s listed facts old text reply new none refuses = subst (λ (fs : List Fact). Tests s listed old fs text reply new) (sym none) refuses

-- one that tests something is counted
pub tested : (s : StateView) (listed : Bool) (facts : List Fact) (old : State) (text reply : List ℕ) (new : State) → 0 < length facts → Counts s listed (nat_lt (length old.tests) most_tests) old facts reply new → Tests s listed old facts text reply new
tested s listed [] old text reply new few counts = absurd (omega arith)
tested s listed (f ∷ fs) old text reply new some counts = counts
