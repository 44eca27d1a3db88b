-- A session can always go on: while the facts of all tests hold, there is a reply to every line.
use Rattle.std.proofs.Common.{◌≡◌, ◌↔◌, ◌⊎◌, ℕ, zero, suc, ◌+◌, ◌<◌, Bool, true, false, cond, nat_lt, List, [], ◌∷◌, ◌++◌, length, map, filter, All, Contains, Option, Some, None, refl, sym, ap, ◌∙◌, subst, inl, inr, append-nil, arith}
use Rattle.std.specs.Prelude.{slice_get, slice_index_or, codes}
use Rattle.std.proofs.Math.Seq.{take-append_seam, drop-append_seam}
use Rattle.std.proofs.lemmas.Bool.{cases_lt}
use Rattle.std.proofs.lemmas.Grind.{flat_map-append}
use Rattle.std.proofs.lemmas.List.Elements.{All-nil, All-cons, All-append, All-take, All-drop}
use Rattle.nc_types.specs.Config.{ConfigView}
use Rattle.nc_types.proofs.Members.{all_by_in, contains_by_in, in_by_filter}
use Rattle.nc_types.specs.Network.{element_count, owner_at, router_named}
use Rattle.nc_types.specs.declared.command.TestCommand.{TestCommand}
use Rattle.nc_graph.specs.Closure.{IsClosure, ReachesMoreThan}
use Rattle.nc_graph.specs.Flow.{Flow}
use Rattle.nc_graph.specs.Derivation.{IsStrong, IsInSome, strong, occurs, Carries, carried}
use Rattle.std.specs.List.Sorted.{IsStrictlyIncreasing}
use Rattle.nc_diagram.specs.Sets.{Members, has, all_but}
use Rattle.nc_diagram.specs.Counter.{Implies as IsImplying}
use Rattle.nc_formula.specs.Parts.{carrying_each}
use Rattle.nc_engine.specs.Questions.{IsAnswer, yes_of, no_of}
use Rattle.nc_cut.specs.Cuts as plain
use Rattle.nc_engine.specs.Suites.{suite_of}
use Rattle.nc_engine.specs.DeadElements.{dead_of}
use Rattle.nc_engine.specs.Cuts.{IsCutAnswer, none_of, least_of, is_kept, unknown_among}
use Rattle.nc_engine.proofs.Cutting.{free_from, free_of, uncut-from, least-from}
use Rattle.nc_engine.proofs.Carrying.{Hold, implied, greatest}
use Rattle.nc_engine.proofs.Marked.{element_mark}
use Rattle.nc_engine.proofs.Sufficing.{suite_some}
use Rattle.nc_engine.proofs.Unmarked.{dead_some}
use Rattle.nc_engine.proofs.Deciding.{AsksBelow, Missing, decide}
use Rattle.nc_engine.proofs.Bounded.{carrying_low}
use Rattle.nc_engine.proofs.Fewer.{asked-fewer}
use Rattle.nc_marks.specs.Marks.{IsMark}
use Rattle.nc_marks.specs.declared.mark.Mark.{Mark}
use Rattle.nc_marks.specs.declared.mark.Mark.TheVariants.{Outside}
use Rattle.nc_fact.specs.declared.fact.Fact.{Fact}
use Rattle.nc_fact.specs.Facts.{holds}
use Rattle.nc_fact.specs.Roots.{IsRoot, roots}
use Rattle.nc_fact.specs.Tested.{tested_facts, named_facts}
use Rattle.nc_rules.specs.Rules.{flow_of}
use Rattle.nc_command.specs.declared.command.Command.TheVariants.{Test, Forget, Implies, Cut, Suite, Dead, Show, Lcov, Json, Quit}
use Rattle.nc_command.specs.Command.{Line, Passed, TooLong, Unread, Asks, command_of, text_of}
use Rattle.nc_engine.specs.Limits.{most_tests, most_facts}
use Rattle.nc_report.specs.Texts.{Sheet, letter, line_of, report_by, lcov_of, json_of}
use Rattle.nc_engine.specs.Session.{accepted_of, forgot_of, untested_of}
use Rattle.nc_engine.specs.File.{LoadedView}
use Rattle.nc_engine.specs.Marks.{AreLineMarks, IsSheet, IsFormOf}
use Rattle.nc_engine.specs.Session.{GoesOn, TellsSuite, TellsDead, live_each, KeptTest, live_test, State, no_tests, with_test, with_pair, without_test, test_in, live_place, IsReported, Forgets, Questions, CutsNamed, asked_in, live_in, router_of, IsReply, Counts, Tests, Lined, Named as IsNamed, has_line, unknown_of, Tells, Shows, listing_at, Answers, Run}

-- ---- lists that are made

-- f of the numbers below n, in order
made : {A : Type 0} → (ℕ → A) → ℕ → List A
made f zero = []
made f (suc n) = f 0 ∷ made (λ k. f (suc k)) n

length-made : {A : Type 0} (f : ℕ → A) (n : ℕ) → length (made f n) ≡ n
unfolding made
length-made f zero = refl
length-made f (suc n) = ap suc (length-made (λ k. f (suc k)) n)

made-at : {A : Type 0} (f : ℕ → A) (n k : ℕ) (d : A) → k < n → slice_index_or (made f n) k d ≡ f k
unfolding made
made-at f zero k d below = absurd (omega arith)
made-at f (suc n) zero d below = refl
made-at f (suc n) (suc k) d below = made-at (λ i. f (suc i)) n k d (omega arith)

-- f of the items with their places, in order
placed : {C S : Type 0} → (ℕ → C → S) → List C → List S
placed f [] = []
placed f (c ∷ cs) = f 0 c ∷ placed (λ k. f (suc k)) cs

length-placed : {C S : Type 0} (f : ℕ → C → S) (cs : List C) → length (placed f cs) ≡ length cs
unfolding placed
length-placed f [] = refl
length-placed f (c ∷ cs) = ap suc (length-placed (λ k. f (suc k)) cs)

placed-at : {C S : Type 0} (f : ℕ → C → S) (cs : List C) (k : ℕ) (c : C) (s : S) → slice_get cs k ≡ Some c → slice_get (placed f cs) k ≡ Some s → s ≡ f k c
unfolding placed
placed-at f [] k c s at is = absurd cc
placed-at f (d ∷ cs) zero c s at is = cc
placed-at f (d ∷ cs) (suc k) c s at is = placed-at (λ i. f (suc i)) cs k c s at is

-- ---- forms of the marks

module _ (g : Flow Fact) (strongs : (e : ℕ) (f : Fact) → g.holds f ≡ true → IsStrong g e f ↔ (strong g e f ≡ true))
    (somes : (e : ℕ) (f : Fact) → g.holds f ≡ true → IsInSome g e f ↔ (occurs g e f ≡ true)) where
  module _ (tested : List Fact) (hold : Hold g tested) (routers : List ConfigView) where
    mark_of_line : (o : Option ℕ) → (m : Mark) × IsMark g tested o m
    mark_of_line None = (Outside, tt)
    mark_of_line (Some e) = element_mark g strongs somes tested hold e

    -- the marks of a router's lines, its sheet, and a form of all sheets
    abbrev marks_at : ℕ → ℕ → List Mark
    marks_at router lines = made (λ k. (mark_of_line (owner_at routers router (k + 1))).0) lines

    are_marks : (router lines : ℕ) → AreLineMarks g tested routers router lines (marks_at router lines)
    are_marks router lines = record {
      count = length-made (λ k. (mark_of_line (owner_at routers router (k + 1))).0) lines;
      each = λ k below. subst (IsMark g tested (owner_at routers router (k + 1)))
          (sym (made-at (λ k. (mark_of_line (owner_at routers router (k + 1))).0) lines k Outside below)) (mark_of_line (owner_at routers router (k + 1))).1;
    }

    sheet_at : ℕ → ConfigView → Sheet
    sheet_at router c = record { name = c.name; letters = map letter (marks_at router c.line_count) }

    is_sheet : (router : ℕ) (c : ConfigView) → IsSheet g tested routers router c (sheet_at router c)
    unfolding sheet_at
    is_sheet router c = record { name = refl; marks = marks_at router c.line_count; are_marks = are_marks router c.line_count; letters = refl }

    a_form : (form : List Sheet → List ℕ) → (text : List ℕ) × IsFormOf g tested routers form text
    a_form form = (
      form (placed sheet_at routers),
      record {
        sheets = placed sheet_at routers;
        are = record {
          count = length-placed sheet_at routers;
          each = λ router c s at made. subst (IsSheet g tested routers router c) (sym (placed-at sheet_at routers router c s at made)) (is_sheet router c);
        };
        text_is = refl;
      },
    )

-- ---- tests

all_front : (P : Fact → Type 0) (xs ys : List Fact) → All P (xs ++ ys) → All P xs
all_front P xs ys all = subst (All P) (take-append_seam xs ys) (All-take P (length xs) (xs ++ ys) all)

all_behind : (P : Fact → Type 0) (xs ys : List Fact) → All P (xs ++ ys) → All P ys
all_behind P xs ys all = subst (All P) (drop-append_seam xs ys) (All-drop P (length xs) (xs ++ ys) all)

-- the live tests are among all
all_live : (P : Fact → Type 0) (tests : List KeptTest) → All P (asked_in tests) → All P (live_in tests)
all_live P [] all = All-nil P
all_live P (t ∷ tests) all = on t.live (all_front P t.facts (asked_in tests) all) (all_live P tests (all_behind P t.facts (asked_in tests) all))
  where
    on : (b : Bool) → All P t.facts → All P (live_in tests) → All P (cond b t.facts [] ++ live_in tests)
    on true these rest = All-append P t.facts (live_in tests) these rest
    on false these rest = rest

-- and of each of them
live_hold : (P : Fact → Type 0) (tests : List KeptTest) → All P (asked_in tests) → All (All P) (live_each tests)
live_hold P [] all = All-nil (All P)
live_hold P (t ∷ tests) all =
    All-cons (All P) (cond t.live t.facts []) (live_each tests) (on t.live (all_front P t.facts (asked_in tests) all)) (live_hold P tests (all_behind P t.facts (asked_in tests) all))
  where
    on : (b : Bool) → All P t.facts → All P (cond b t.facts [])
    on true these = these
    on false these = All-nil P

module _ (network : LoadedView) where
  -- the facts of all tests hold
  abbrev Holds : State → Type 0
  Holds st = Hold (flow_of network.state) (asked_in st.tests)

  tested_hold : (test : TestCommand) → Hold (flow_of network.state) (tested_facts network.state test)
  unfolding flow_of tested_facts
  tested_hold test =
      let named = named_facts network.state test in
      all_by_in (λ (f : Fact). holds network.state f ≡ true) (filter (holds network.state) named) (λ f i. (in_by_filter (holds network.state) named f i).1)

  one_more : (tests : List KeptTest) (facts : List Fact) → asked_in (tests ++ live_test facts ∷ []) ≡ asked_in tests ++ facts
  one_more tests facts =
      flat_map-append (λ t. t.facts) tests (live_test facts ∷ []) ∙ ap (λ (fs : List Fact). asked_in tests ++ fs) (append-nil facts)

  more_hold : (st : State) (facts : List Fact) → Holds st → Hold (flow_of network.state) facts → Hold (flow_of network.state) (asked_in st.tests ++ facts)
  more_hold st facts hold these = All-append (λ f. (flow_of network.state).holds f ≡ true) (asked_in st.tests) facts hold these

  accepted_hold : (st : State) (facts : List Fact) → Holds st → Hold (flow_of network.state) facts → Holds (with_test st facts)
  accepted_hold st facts hold these = subst (Hold (flow_of network.state)) (sym (one_more st.tests facts)) (more_hold st facts hold these)

  -- ---- a step keeps that they hold

  counts_keep : (room : Bool) (old : State) (facts reply : _) (new : State) → Hold (flow_of network.state) facts → Holds old → Counts network.state network.listed room old facts reply new → Holds new
  counts_keep true old facts reply new these hold (inl over) = subst Holds (sym over.1.1) hold
  counts_keep true old facts reply new these hold (inr took) = subst Holds (sym took.1) (accepted_hold old facts hold these)
  counts_keep false old facts reply new these hold full = subst Holds (sym full.1) hold

  tests_keep : (old : State) (facts : List Fact) (text reply : List ℕ) (new : State) → Hold (flow_of network.state) facts → Holds old → Tests network.state network.listed old facts text reply new → Holds new
  tests_keep old [] text reply new these hold absent = subst Holds (sym absent.1) hold
  tests_keep old (fact ∷ facts) text reply new these hold counted = counts_keep (nat_lt (length old.tests) most_tests) old (fact ∷ facts) reply new these hold counted

  lined_keep : (there : Bool) (old : State) (test : TestCommand) (reply : List ℕ) (new : State) → Holds old → Lined network.state network.listed there old test reply new → Holds new
  lined_keep false old test reply new hold unlined = subst Holds (sym unlined.1) hold
  lined_keep true old test reply new hold tested = tests_keep old (tested_facts network.state test) (text_of test) reply new (tested_hold test) hold tested

  named_keep : (router : Option ℕ) (old : State) (test : TestCommand) (reply : List ℕ) (new : State) → Holds old → IsNamed network.state network.listed router old test reply new → Holds new
  named_keep None old test reply new hold unknown = subst Holds (sym unknown.1) hold
  named_keep (Some router) old test reply new hold lined = lined_keep (has_line network.state router test) old test reply new hold lined

  shows_keep : (router : Option ℕ) (old : State) (name reply : List ℕ) (new : State) → Holds old → Shows network router old name reply new → Holds new
  shows_keep None old name reply new hold unknown = subst Holds (sym unknown.1) hold
  shows_keep (Some router) old name reply new hold told = subst Holds (sym told.1) hold

  forgets_keep : (place : Option ℕ) (old : State) (number : ℕ) (reply : List ℕ) (new : State) → Holds old → Forgets network.state network.listed place old number reply new → Holds new
  forgets_keep None old number reply new hold untested = subst Holds (sym untested.1) hold
  forgets_keep (Some place) old number reply new hold forgot = subst Holds (sym forgot.0) (subst (Hold (flow_of network.state)) (sym (asked-fewer old.tests place)) hold)

  questions_keep : (i j : Option ℕ) (old : State) (first second : ℕ) (reply : List ℕ) (new : State) → Holds old → Questions network.state i j old first second reply new → Holds new
  questions_keep None j old first second reply new hold untested = subst Holds (sym untested.1) hold
  questions_keep (Some i) None old first second reply new hold untested = subst Holds (sym untested.1) hold
  questions_keep (Some i) (Some j) old first second reply new hold (inl answered) = subst Holds (sym answered.1) hold
  questions_keep (Some i) (Some j) old first second reply new hold (inr refused) = subst Holds (sym refused.1.1) hold

  cuts_keep : (unknown : Option (List ℕ)) (place : Option ℕ) (old : State) (number : ℕ) (names : List (List ℕ)) (reply : List ℕ) (new : State) → Holds old
      → CutsNamed network.state unknown place old number names reply new → Holds new
  cuts_keep (Some name) place old number names reply new hold unknown = subst Holds (sym unknown.1) hold
  cuts_keep None None old number names reply new hold untested = subst Holds (sym untested.1) hold
  cuts_keep None (Some place) old number names reply new hold (inl told) = subst Holds (sym told.1) hold
  cuts_keep None (Some place) old number names reply new hold (inr refused) = subst Holds (sym refused.1.1) hold

  dead_keeps : (old : State) (reply : List ℕ) (new : State) → Holds old → TellsDead network.state old reply new → Holds new
  dead_keeps old reply new hold (inl told) = subst Holds (sym told.2) hold
  dead_keeps old reply new hold (inr refused) = subst Holds (sym refused.1.1) hold

  answer_keeps : (old : State) (line : Line) (reply : List ℕ) (new : State) → Holds old → Answers network old line reply new → Holds new
  answer_keeps old Passed reply new hold a = subst Holds (sym a.1) hold
  answer_keeps old TooLong reply new hold a = subst Holds (sym a.1) hold
  answer_keeps old Unread reply new hold a = subst Holds (sym a.1) hold
  answer_keeps old (Asks Quit) reply new hold a = subst Holds (sym a.1) hold
  answer_keeps old (Asks (Show name)) reply new hold a = shows_keep (router_named network.state.routers name) old name reply new hold a
  answer_keeps old (Asks Lcov) reply new hold a = subst Holds (sym a.1) hold
  answer_keeps old (Asks Json) reply new hold a = subst Holds (sym a.1) hold
  answer_keeps old (Asks (Test test)) reply new hold a = named_keep (router_named network.state.routers (router_of test)) old test reply new hold a
  answer_keeps old (Asks (Forget number)) reply new hold a = forgets_keep (live_place old.tests number) old number reply new hold a
  answer_keeps old (Asks (Implies first second)) reply new hold a = questions_keep (live_place old.tests first) (live_place old.tests second) old first second reply new hold a
  answer_keeps old (Asks Suite) reply new hold a = subst Holds (sym a.1) hold
  answer_keeps old (Asks Dead) reply new hold a = dead_keeps old reply new hold a
  answer_keeps old (Asks (Cut number names)) reply new hold a = cuts_keep (unknown_among network.state.routers names) (live_place old.tests number) old number names reply new hold a

  run_keeps : (old : State) (lines : List (List ℕ)) (replies : List ℕ) (last : State) → Holds old → Run network old lines replies last → Holds last
  run_keeps old [] replies last hold run = subst Holds (sym run.1) hold
  run_keeps old (line ∷ lines) replies last hold run = run_keeps run.1 lines run.2 last (answer_keeps old (command_of line) run.0 run.1 hold run.3) run.4

  -- ---- there is a reply

  module _ (strongs : (e : ℕ) (f : Fact) → (flow_of network.state).holds f ≡ true → IsStrong (flow_of network.state) e f ↔ (strong (flow_of network.state) e f ≡ true))
      (somes : (e : ℕ) (f : Fact) → (flow_of network.state).holds f ≡ true → IsInSome (flow_of network.state) e f ↔ (occurs (flow_of network.state) e f ≡ true))
      (evaluated : (x : ℕ → Bool) (f : Fact) → (flow_of network.state).holds f ≡ true → Carries (flow_of network.state) x f ↔ (carried (flow_of network.state) x f ≡ true))
      (lacks : (missing : List ℕ) (v : ℕ) → IsStrictlyIncreasing missing → (has (all_but missing) v ≡ false) ↔ Contains missing v)
      (exists : (fs : List Fact) → Hold (flow_of network.state) fs → (xs : List Fact) × IsClosure (flow_of network.state) fs xs)
      (decided : (n : ℕ) (fs xs : List Fact) → IsClosure (flow_of network.state) fs xs → ReachesMoreThan (flow_of network.state) n fs ↔ (n < length xs))
      (rooted : (f : Fact) → Contains (roots network.state) f ↔ (IsRoot f × (holds network.state f ≡ true)))
      (cuts : (n : ℕ) (f : Members → Bool) → AsksBelow n f → (free : List Bool) → plain.HasNoCut f free ⊎ ((cut : List ℕ) × plain.IsLeastCut f free cut)) where
    form_some : (form : List Sheet → List ℕ) (tests : List KeptTest) → Hold (flow_of network.state) (asked_in tests)
        → (text : List ℕ) × IsFormOf (flow_of network.state) (live_in tests) network.state.routers form text
    form_some form tests hold = a_form (flow_of network.state) strongs somes (live_in tests) (all_live (λ f. (flow_of network.state).holds f ≡ true) tests hold) network.state.routers form

    a_report : (tests : List KeptTest) (first : List ℕ) → Hold (flow_of network.state) (asked_in tests) → (reply : List ℕ) × IsReported network.state network.listed tests first reply
    a_report tests first hold =
        let report = form_some (report_by network.listed) tests hold in
        (first ++ report.0, record { report = report.0; is_report = report.1; text = refl })

    a_reply : (tests : List KeptTest) → Hold (flow_of network.state) (asked_in tests) → (reply : List ℕ) × IsReply network.state network.listed tests reply
    a_reply tests hold =
        let closed = exists (asked_in tests) hold in
        let report = a_report tests (accepted_of (length tests) (length closed.0)) hold in
        (report.0, record { asked = closed.0; closure = closed.1; reported = report.1 })

    counts_some : (room : Bool) (old : State) (facts : List Fact) → Hold (flow_of network.state) facts → Holds old → (reply : List ℕ) × (new : State) × Counts network.state network.listed room old facts reply new
    counts_some false old facts these hold = (line_of (codes "refused limit tests"), old, (refl, refl))
    counts_some true old facts these hold =
        let all : Hold (flow_of network.state) (asked_in old.tests ++ facts) = more_hold old facts hold these in
        let closed = exists (asked_in old.tests ++ facts) all in
        let next : State = with_test old facts in
        let test = decided most_facts (asked_in old.tests ++ facts) closed.0 closed.1 in
        elim (cases_lt most_facts (length closed.0)) [
          | inl many ↦ (line_of (codes "refused limit facts"), old, inl (test.1 many, (refl, refl)))
          | inr few ↦
              let reply = a_reply next.tests (accepted_hold old facts hold these) in
              (reply.0, next, inr ((λ more. let many : most_facts < length closed.0 = test.0 more in absurd (omega arith)), refl, reply.1))
        ]

    tests_some : (old : State) (facts : List Fact) (text : List ℕ) → Hold (flow_of network.state) facts → Holds old → (reply : List ℕ) × (new : State) × Tests network.state network.listed old facts text reply new
    tests_some old [] text these hold = (line_of (codes "refused absent " ++ text), old, (refl, refl))
    tests_some old (fact ∷ facts) text these hold = counts_some (nat_lt (length old.tests) most_tests) old (fact ∷ facts) these hold

    lined_some : (there : Bool) (old : State) (test : TestCommand) → Holds old → (reply : List ℕ) × (new : State) × Lined network.state network.listed there old test reply new
    lined_some false old test hold = (line_of (codes "refused line"), old, (refl, refl))
    lined_some true old test hold = tests_some old (tested_facts network.state test) (text_of test) (tested_hold test) hold

    named_some : (router : Option ℕ) (old : State) (test : TestCommand) → Holds old → (reply : List ℕ) × (new : State) × IsNamed network.state network.listed router old test reply new
    named_some None old test hold = (line_of (unknown_of (router_of test)), old, (refl, refl))
    named_some (Some router) old test hold = lined_some (has_line network.state router test) old test hold

    tells_some : (form : List Sheet → List ℕ) (old : State) → Holds old → (reply : List ℕ) × (new : State) × Tells network form old reply new
    tells_some form old hold = let made = form_some form old.tests hold in (made.0, old, (made.1, refl))

    shows_some : (router : Option ℕ) (old : State) (name : List ℕ) → Holds old → (reply : List ℕ) × (new : State) × Shows network router old name reply new
    shows_some None old name hold = (line_of (unknown_of name), old, (refl, refl))
    shows_some (Some router) old name hold = tells_some (listing_at network router) old hold

    forgets_some : (place : Option ℕ) (old : State) (number : ℕ) → Holds old → (reply : List ℕ) × (new : State) × Forgets network.state network.listed place old number reply new
    forgets_some None old number hold = (line_of (untested_of number), old, (refl, refl))
    forgets_some (Some place) old number hold =
        let made = a_report (without_test old place).tests (forgot_of number) (subst (Hold (flow_of network.state)) (sym (asked-fewer old.tests place)) hold) in
        (made.0, without_test old place, (refl, made.1))

    -- the facts of a test among those that hold
    test_holds : (tests : List KeptTest) (place : ℕ) → Hold (flow_of network.state) (asked_in tests) → Hold (flow_of network.state) (test_in tests place).facts
    test_holds [] place hold = All-nil (λ f. (flow_of network.state).holds f ≡ true)
    test_holds (t ∷ tests) zero hold = all_front (λ f. (flow_of network.state).holds f ≡ true) t.facts (asked_in tests) hold
    test_holds (t ∷ tests) (suc place) hold = test_holds tests place (all_behind (λ f. (flow_of network.state).holds f ≡ true) t.facts (asked_in tests) hold)

    an_answer : (left right : List Fact) → Hold (flow_of network.state) left → Hold (flow_of network.state) right → (m n : ℕ)
        → (reply : List ℕ) × IsAnswer (flow_of network.state) network.state.routers left right m n reply
    an_answer left right holds hold m n = on (decide lacks (carrying_each g left) (carrying_each g right) (a.0 + b.0)
        (λ s t same. a.1 s t (λ v lt. same v (omega arith))) (λ s t same. b.1 s t (λ v lt. same v (omega arith))))
      where
        g : Flow Fact
        g = flow_of network.state

        a : (n : ℕ) × AsksBelow n (carrying_each g left)
        a = carrying_low g left

        b : (n : ℕ) × AsksBelow n (carrying_each g right)
        b = carrying_low g right

        on : IsImplying (carrying_each g left) (carrying_each g right) ⊎ Missing (carrying_each g left) (carrying_each g right) → (reply : List ℕ) × IsAnswer g network.state.routers left right m n reply
        on (inl is) = (yes_of m n, inl (implied g evaluated left right holds hold is, refl))
        on (inr lack) = (no_of network.state.routers m n lack.0, inr (record { missing = lack.0; ascend = lack.1; greatest = greatest g evaluated left right holds hold (all_but lack.0) lack.2; text = refl }))

    questions_some : (i j : Option ℕ) (old : State) (first second : ℕ) → Holds old → (reply : List ℕ) × (new : State) × Questions network.state i j old first second reply new
    questions_some None j old first second hold = (line_of (untested_of first), old, (refl, refl))
    questions_some (Some i) None old first second hold = (line_of (untested_of second), old, (refl, refl))
    questions_some (Some i) (Some j) old first second hold =
        let made = an_answer (test_in old.tests i).facts (test_in old.tests j).facts (test_holds old.tests i hold) (test_holds old.tests j hold) first second in
        (made.0, with_pair old i j, inl (made.1, refl))

    a_cut : (facts : List Fact) → Hold (flow_of network.state) facts → (number : ℕ) (names : List (List ℕ))
        → (reply : List ℕ) × IsCutAnswer (flow_of network.state) network.state.routers names facts number reply
    a_cut facts hold number names = on (cuts low.0 (carrying_each (flow_of network.state) facts) low.1 (free_from (is_kept network.state.routers names) 0 network.state.routers))
      where
        low : (n : ℕ) × AsksBelow n (carrying_each (flow_of network.state) facts)
        low = carrying_low (flow_of network.state) facts

        on : plain.HasNoCut (carrying_each (flow_of network.state) facts) (free_from (is_kept network.state.routers names) 0 network.state.routers)
            ⊎ ((cut : List ℕ) × plain.IsLeastCut (carrying_each (flow_of network.state) facts) (free_from (is_kept network.state.routers names) 0 network.state.routers) cut)
            → (reply : List ℕ) × IsCutAnswer (flow_of network.state) network.state.routers names facts number reply
        on (inl none) = (
          none_of number,
          inl (
            uncut-from (flow_of network.state) evaluated network.state.routers names facts hold (free_from (is_kept network.state.routers names) 0 network.state.routers) (free_of network.state.routers names) none,
            refl,
          ),
        )
        on (inr least) = (
          least_of network.state.routers number least.0,
          inr (record {
            cut = least.0;
            least = least-from (flow_of network.state) evaluated network.state.routers names facts hold (free_from (is_kept network.state.routers names) 0 network.state.routers) (free_of network.state.routers names) least.0 least.1;
            text = refl;
          }),
        )

    cuts_some : (unknown : Option (List ℕ)) (place : Option ℕ) (old : State) (number : ℕ) (names : List (List ℕ)) → Holds old → (reply : List ℕ) × (new : State) × CutsNamed network.state unknown place old number names reply new
    cuts_some (Some name) place old number names hold = (line_of (unknown_of name), old, (refl, refl))
    cuts_some None None old number names hold = (line_of (untested_of number), old, (refl, refl))
    cuts_some None (Some place) old number names hold = let made = a_cut (test_in old.tests place).facts (test_holds old.tests place hold) number names in (made.0, old, inl (made.1, refl))

    suite_told : (old : State) → Holds old → (reply : List ℕ) × (new : State) × TellsSuite network.state old reply new
    suite_told old hold =
        let made = suite_some (flow_of network.state) strongs somes (element_count network.state.routers) (live_each old.tests) (live_hold (λ f. (flow_of network.state).holds f ≡ true) old.tests hold) in
        (suite_of made.0, old, (record { kept = made.0; suite = made.1; text = refl }, refl))

    roots_hold : Hold (flow_of network.state) (roots network.state)
    unfolding flow_of
    roots_hold = all_by_in (λ (f : Fact). holds network.state f ≡ true) (roots network.state) (λ f i. ((rooted f).0 (contains_by_in (roots network.state) f i)).1)

    dead_told : (old : State) → (reply : List ℕ) × (new : State) × TellsDead network.state old reply new
    dead_told old =
        let closed = exists (roots network.state) roots_hold in
        let test = decided most_facts (roots network.state) closed.0 closed.1 in
        elim (cases_lt most_facts (length closed.0)) [
          | inl many ↦ (line_of (codes "refused limit facts"), old, inr (test.1 many, (refl, refl)))
          | inr few ↦
              let dead = dead_some network.state somes strongs rooted roots_hold in (
                dead_of network.state.routers dead.0,
                old,
                inl ((λ more. let many : most_facts < length closed.0 = test.0 more in absurd (omega arith)), record { elements = dead.0; dead = dead.1; text = refl }, refl),
              )
        ]

    answer_some : (old : State) (line : Line) → Holds old → (reply : List ℕ) × (new : State) × Answers network old line reply new
    answer_some old Passed hold = ([], old, (refl, refl))
    answer_some old TooLong hold = (line_of (codes "refused long"), old, (refl, refl))
    answer_some old Unread hold = (line_of (codes "refused syntax"), old, (refl, refl))
    answer_some old (Asks Quit) hold = ([], old, (refl, refl))
    answer_some old (Asks (Show name)) hold = shows_some (router_named network.state.routers name) old name hold
    answer_some old (Asks Lcov) hold = tells_some (λ sheets. lcov_of sheets network.files) old hold
    answer_some old (Asks Json) hold = tells_some json_of old hold
    answer_some old (Asks (Test test)) hold = named_some (router_named network.state.routers (router_of test)) old test hold
    answer_some old (Asks (Forget number)) hold = forgets_some (live_place old.tests number) old number hold
    answer_some old (Asks (Implies first second)) hold = questions_some (live_place old.tests first) (live_place old.tests second) old first second hold
    answer_some old (Asks Suite) hold = suite_told old hold
    answer_some old (Asks Dead) hold = dead_told old
    answer_some old (Asks (Cut number names)) hold = cuts_some (unknown_among network.state.routers names) (live_place old.tests number) old number names hold

    run_some : (old : State) (lines : List (List ℕ)) → Holds old → (replies : List ℕ) × (last : State) × Run network old lines replies last
    run_some old [] hold = ([], old, (refl, refl))
    run_some old (line ∷ lines) hold =
        let step = answer_some old (command_of line) hold in
        let more = run_some step.1 lines (answer_keeps old (command_of line) step.0 step.1 hold step.2) in
        (step.0 ++ more.0, more.1, (step.0, step.1, more.0, step.2, more.2, refl))

    pub session_goes_on : GoesOn network
    session_goes_on lines more replies last run =
        run_some last more (run_keeps no_tests lines replies last (All-nil (λ f. (flow_of network.state).holds f ≡ true)) run)
