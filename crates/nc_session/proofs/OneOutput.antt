-- The definitions allow one output and one status for the same words, files and session.
use Rattle.std.proofs.Common.{◌≡◌, ◌⊎◌, ◌↔◌, ℕ, suc, ◌+◌, ◌<◌, ◌≤◌, Bool, true, false, List, [], ◌∷◌, ◌++◌, length, map, Option, Some, None, Result, Ok, Err, Contains, inl, inr, refl, sym, ap, ◌∙◌, subst, arith}
use Rattle.std.specs.Prelude.{slice_get, slice_index_or, nat_lt}
use Rattle.nc_types.specs.Config.{ConfigView}
use Rattle.nc_types.specs.Network.{owner_at, router_named}
use Rattle.nc_types.specs.declared.command.TestCommand.{TestCommand}
use Rattle.nc_types.specs.WellFormed.{IsWellFormed}
use Rattle.nc_outside.specs.Named.{Named}
use Rattle.nc_graph.specs.Closure.{IsClosure}
use Rattle.nc_graph.specs.Flow.{Flow, IsFlow}
use Rattle.nc_marks.specs.declared.mark.Mark.{Mark}
use Rattle.nc_marks.specs.declared.mark.Mark.TheVariants.{Outside}
use Rattle.nc_reader.specs.Configuration.{configuration}
use Rattle.nc_types.specs.Joining.{IsValid}
use Rattle.nc_load.specs.Limits.{most_routers}
use Rattle.nc_tables.specs.State.{StateView, IsState}
use Rattle.nc_tables.specs.Settling.{settled}
use Rattle.nc_fact.specs.declared.fact.Fact.{Fact}
use Rattle.nc_fact.specs.Tested.{tested_facts}
use Rattle.nc_rules.specs.Rules.{flow_of}
use Rattle.nc_command.specs.declared.command.Command.TheVariants.{Test, Forget, Implies, Cut, Suite, Dead, Show, Lcov, Json, Quit}
use Rattle.nc_command.specs.Command.{Line, Passed, TooLong, Unread, Asks, command_of, text_of}
use Rattle.nc_engine.specs.Limits.{most_tests}
use Rattle.nc_session.specs.declared.status.Status.{Status}
use Rattle.nc_report.specs.Texts.{Sheet, letter, report_by, lcov_of, json_of}
use Rattle.nc_engine.specs.Session.{accepted_of, forgot_of}
use Rattle.nc_engine.specs.File.{LoadedView}
use Rattle.nc_engine.specs.Marks.{AreLineMarks, IsSheet, IsFormOf}
use Rattle.nc_engine.specs.Session.{KeptTest, TellsDead, live_each, State, no_tests, test_in, with_pair, live_place, IsReported, IsCrowded, Forgets, Compares, Questions, CutsNamed, asked_in, live_in, router_of, until_quit, IsReply, Counts, Tests, Lined, Named as IsNamed, has_line, Tells, Shows, listing_at, Answers, Run, AreReplies}
use Rattle.nc_load.specs.Load.{Refusal}
use Rattle.nc_session.specs.Load.{load}
use Rattle.nc_session.specs.Refusals.{long_session_text}
use Rattle.nc_session.specs.Output.{ServesWithin, Concludes, Output, heading_asked, is_within, served_lines, session_of}
use Rattle.nc_words.specs.Words.{request_of}
use Rattle.nc_session.specs.Crowding.{CrowdsBetween, CrowdsAt, Crowds, AreCrowding, IsCrowding}
use Rattle.nc_engine.specs.Cuts.{unknown_among}
use Rattle.nc_engine.proofs.Carrying.{answer_once}
use Rattle.nc_engine.proofs.Cutting.{cut_once}
use Rattle.nc_engine.proofs.Marked.{mark_once}
use Rattle.nc_engine.proofs.Sufficing.{suite_once}
use Rattle.nc_engine.proofs.Unmarked.{told_once}
use Rattle.nc_session.proofs.ValidLoads.{loaded_state}
use Rattle.std.specs.List.Sorted.{IsStrictlyIncreasing}
use Rattle.nc_diagram.specs.Sets.{has, all_but}

-- ---- lists

-- two lists of as many items of which those at each place are the same
same_lists : {A : Type 0} (d : A) (xs ys : List A) → length xs ≡ length ys → ((k : ℕ) → k < length xs → slice_index_or xs k d ≡ slice_index_or ys k d) → xs ≡ ys
same_lists d [] [] count each = refl
same_lists d [] (y ∷ ys) count each = absurd (omega (arith, count))
same_lists d (x ∷ xs) [] count each = absurd (omega (arith, count))
same_lists d (x ∷ xs) (y ∷ ys) count each =
    ap (λ z. z ∷ xs) (each 0 (omega arith)) ∙ ap (λ l. y ∷ l) (same_lists d xs ys (omega (arith, count)) (λ k lt. each (suc k) (omega (arith, lt))))

-- two lists whose items are each the only one for its place
lists_once : {C S : Type 0} (Is : ℕ → C → S → Type 0) → ((k : ℕ) (c : C) (s t : S) → Is k c s → Is k c t → s ≡ t) → (cs : List C) (xs ys : List S) → length xs ≡ length cs → length ys ≡ length cs
    → ((k : ℕ) (c : C) (s : S) → slice_get cs k ≡ Some c → slice_get xs k ≡ Some s → Is k c s) → ((k : ℕ) (c : C) (s : S) → slice_get cs k ≡ Some c → slice_get ys k ≡ Some s → Is k c s) → xs ≡ ys
lists_once Is once [] [] [] m n p q = refl
lists_once Is once [] (x ∷ xs) ys m n p q = absurd (omega (arith, m))
lists_once Is once [] [] (y ∷ ys) m n p q = absurd (omega (arith, n))
lists_once Is once (c ∷ cs) [] ys m n p q = absurd (omega (arith, m))
lists_once Is once (c ∷ cs) (x ∷ xs) [] m n p q = absurd (omega (arith, n))
lists_once Is once (c ∷ cs) (x ∷ xs) (y ∷ ys) m n p q =
    ap (λ z. z ∷ xs) (once 0 c x y (p 0 c x refl refl) (q 0 c y refl refl))
    ∙ ap (λ l. y ∷ l) (
    lists_once (λ k d s. Is (suc k) d s) (λ k d s t. once (suc k) d s t) cs xs ys (omega (arith, m)) (omega (arith, n)) (λ k d s at made. p (suc k) d s at made) (λ k d s at made. q (suc k) d s at made))

-- ---- one form of the marks

module _ (g : Flow Fact) (tested : List Fact) (routers : List ConfigView) where
  line_marks_once : (router lines : ℕ) (ms ns : List Mark) → AreLineMarks g tested routers router lines ms → AreLineMarks g tested routers router lines ns → ms ≡ ns
  line_marks_once router lines ms ns p q =
      same_lists Outside ms ns (p.count ∙ sym q.count)
      (λ k lt. let within : k < lines = omega (arith, lt, p.count) in mark_once g tested (owner_at routers router (k + 1)) (slice_index_or ms k Outside) (slice_index_or ns k Outside) (p.each k within) (q.each k within))

  abbrev sheet_by : List ℕ → List ℕ → Sheet
  sheet_by name letters = record { name = name; letters = letters }

  sheet_once : (router : ℕ) (c : ConfigView) (s t : Sheet) → IsSheet g tested routers router c s → IsSheet g tested routers router c t → s ≡ t
  sheet_once router c s t p q =
      let marks : p.marks ≡ q.marks = line_marks_once router c.line_count p.marks q.marks p.are_marks q.are_marks in
      ap (λ (n : List ℕ). sheet_by n s.letters) (p.name ∙ sym q.name)
      ∙ ap (sheet_by t.name) (p.letters ∙ ap (map letter) marks ∙ sym q.letters)

  form_once : (form : List Sheet → List ℕ) (r s : List ℕ) → IsFormOf g tested routers form r → IsFormOf g tested routers form s → r ≡ s
  form_once form r s p q =
      p.text_is ∙ ap form (lists_once (IsSheet g tested routers) sheet_once routers p.sheets q.sheets p.are.count q.are.count p.are.each q.are.each) ∙ sym q.text_is

-- ---- one reply

module _ (lengths : (g : Flow Fact) → IsFlow g → (fs xs ys : List Fact) → IsClosure g fs xs → IsClosure g fs ys → length xs ≡ length ys) (network : LoadedView) (lawful : IsFlow (flow_of network.state))
    (lacks : (missing : List ℕ) (v : ℕ) → IsStrictlyIncreasing missing → (has (all_but missing) v ≡ false) ↔ Contains missing v) where
  -- the same reply, and the same is kept
  abbrev Same : List ℕ → List ℕ → State → State → Type 0
  Same r t m n = (r ≡ t) × (m ≡ n)

  reported_once : (tests : List KeptTest) (first r t : List ℕ) → IsReported network.state network.listed tests first r → IsReported network.state network.listed tests first t → r ≡ t
  reported_once tests first r t p q =
      p.text
      ∙ ap (λ (l : List ℕ). first ++ l) (form_once (flow_of network.state) (live_in tests) network.state.routers (report_by network.listed) p.report q.report p.is_report q.is_report)
      ∙ sym q.text

  reply_once : (tests : List KeptTest) (r t : List ℕ) → IsReply network.state network.listed tests r → IsReply network.state network.listed tests t → r ≡ t
  reply_once tests r t p q =
      let count : length p.asked ≡ length q.asked = lengths (flow_of network.state) lawful (asked_in tests) p.asked q.asked p.closure q.closure in
      reported_once tests (accepted_of (length tests) (length q.asked)) r t
      (subst (λ (n : ℕ). IsReported network.state network.listed tests (accepted_of (length tests) n) r) count p.reported) q.reported

  counts_once : (room : Bool) (old : State) (facts : List Fact) (r t : List ℕ) (m n : State) → Counts network.state network.listed room old facts r m → Counts network.state network.listed room old facts t n → Same r t m n
  counts_once false old facts r t m n p q = (p.0 ∙ sym q.0, p.1 ∙ sym q.1)
  counts_once true old facts r t m n (inl p) (inl q) = (p.1.0 ∙ sym q.1.0, p.1.1 ∙ sym q.1.1)
  counts_once true old facts r t m n (inl p) (inr q) = absurd (q.0 p.0)
  counts_once true old facts r t m n (inr p) (inl q) = absurd (p.0 q.0)
  counts_once true old facts r t m n (inr p) (inr q) =
      let same : m ≡ n = p.1 ∙ sym q.1 in
      (reply_once m.tests r t p.2 (subst (λ (kept : State). IsReply network.state network.listed kept.tests t) (sym same) q.2), same)

  tests_once : (old : State) (facts : List Fact) (text r t : List ℕ) (m n : State) → Tests network.state network.listed old facts text r m → Tests network.state network.listed old facts text t n → Same r t m n
  tests_once old [] text r t m n p q = (p.0 ∙ sym q.0, p.1 ∙ sym q.1)
  tests_once old (fact ∷ facts) text r t m n p q = counts_once (nat_lt (length old.tests) most_tests) old (fact ∷ facts) r t m n p q

  lined_once : (there : Bool) (old : State) (test : TestCommand) (r t : List ℕ) (m n : State) → Lined network.state network.listed there old test r m → Lined network.state network.listed there old test t n → Same r t m n
  lined_once false old test r t m n p q = (p.0 ∙ sym q.0, p.1 ∙ sym q.1)
  lined_once true old test r t m n p q = tests_once old (tested_facts network.state test) (text_of test) r t m n p q

  named_once : (router : Option ℕ) (old : State) (test : TestCommand) (r t : List ℕ) (m n : State) → IsNamed network.state network.listed router old test r m → IsNamed network.state network.listed router old test t n → Same r t m n
  named_once None old test r t m n p q = (p.0 ∙ sym q.0, p.1 ∙ sym q.1)
  named_once (Some router) old test r t m n p q = lined_once (has_line network.state router test) old test r t m n p q

  tells_once : (form : List Sheet → List ℕ) (old : State) (r t : List ℕ) (m n : State) → Tells network form old r m → Tells network form old t n → Same r t m n
  tells_once form old r t m n p q = (form_once (flow_of network.state) (live_in old.tests) network.state.routers form r t p.0 q.0, p.1 ∙ sym q.1)

  shows_once : (router : Option ℕ) (old : State) (name r t : List ℕ) (m n : State) → Shows network router old name r m → Shows network router old name t n → Same r t m n
  shows_once None old name r t m n p q = (p.0 ∙ sym q.0, p.1 ∙ sym q.1)
  shows_once (Some router) old name r t m n p q = tells_once (listing_at network router) old r t m n p q

  forgets_once : (place : Option ℕ) (old : State) (number : ℕ) (r t : List ℕ) (m n : State) → Forgets network.state network.listed place old number r m → Forgets network.state network.listed place old number t n
      → Same r t m n
  forgets_once None old number r t m n p q = (p.0 ∙ sym q.0, p.1 ∙ sym q.1)
  forgets_once (Some place) old number r t m n p q =
      let same : m ≡ n = p.0 ∙ sym q.0 in (
        reported_once m.tests (forgot_of number) r t p.1 (subst (λ (kept : State). IsReported network.state network.listed kept.tests (forgot_of number) t) (sym same) q.1),
        same,
      )

  -- a question is answered alike, or it has too many parts
  compares_once : (old : State) (i j first second : ℕ) (r t : List ℕ) (m n : State) → Compares network.state old i j first second r m → Compares network.state old i j first second t n
      → Same r t m n ⊎ IsCrowded network.state (with_pair old i j)
  compares_once old i j first second r t m n (inl p) (inl q) =
      inl (answer_once lacks (flow_of network.state) (test_in old.tests i).facts (test_in old.tests j).facts network.state.routers first second r t p.0 q.0, p.1 ∙ sym q.1)
  compares_once old i j first second r t m n (inl p) (inr q) = inr q.0
  compares_once old i j first second r t m n (inr p) q = inr p.0

  questions_once : (i j : Option ℕ) (old : State) (first second : ℕ) (r t : List ℕ) (m n : State) → Questions network.state i j old first second r m → Questions network.state i j old first second t n
      → Same r t m n ⊎ CrowdsBetween network.state old i j
  questions_once None j old first second r t m n p q = inl (p.0 ∙ sym q.0, p.1 ∙ sym q.1)
  questions_once (Some i) None old first second r t m n p q = inl (p.0 ∙ sym q.0, p.1 ∙ sym q.1)
  questions_once (Some i) (Some j) old first second r t m n p q = compares_once old i j first second r t m n p q

  -- and so is a cut
  cuts_once : (unknown : Option (List ℕ)) (place : Option ℕ) (old : State) (number : ℕ) (names : List (List ℕ)) (r t : List ℕ) (m n : State) → CutsNamed network.state unknown place old number names r m
      → CutsNamed network.state unknown place old number names t n → Same r t m n ⊎ CrowdsAt network.state old unknown place
  cuts_once (Some name) place old number names r t m n p q = inl (p.0 ∙ sym q.0, p.1 ∙ sym q.1)
  cuts_once None None old number names r t m n p q = inl (p.0 ∙ sym q.0, p.1 ∙ sym q.1)
  cuts_once None (Some place) old number names r t m n (inl p) (inl q) =
      inl (cut_once (flow_of network.state) network.state.routers names (test_in old.tests place).facts number r t p.0 q.0, p.1 ∙ sym q.1)
  cuts_once None (Some place) old number names r t m n (inl p) (inr q) = inr q.0
  cuts_once None (Some place) old number names r t m n (inr p) q = inr p.0

  -- the dead elements are told alike
  dead_once : (old : State) (r t : List ℕ) (m n : State) → TellsDead network.state old r m → TellsDead network.state old t n → Same r t m n
  dead_once old r t m n (inl p) (inl q) = (told_once network.state r t p.1 q.1, p.2 ∙ sym q.2)
  dead_once old r t m n (inl p) (inr q) = absurd (p.0 q.0)
  dead_once old r t m n (inr p) (inl q) = absurd (q.0 p.0)
  dead_once old r t m n (inr p) (inr q) = (p.1.0 ∙ sym q.1.0, p.1.1 ∙ sym q.1.1)

  step_once : (old : State) (line : Line) (r t : List ℕ) (m n : State) → Answers network old line r m → Answers network old line t n → Same r t m n ⊎ Crowds network.state old line
  step_once old Passed r t m n p q = inl (p.0 ∙ sym q.0, p.1 ∙ sym q.1)
  step_once old TooLong r t m n p q = inl (p.0 ∙ sym q.0, p.1 ∙ sym q.1)
  step_once old Unread r t m n p q = inl (p.0 ∙ sym q.0, p.1 ∙ sym q.1)
  step_once old (Asks Quit) r t m n p q = inl (p.0 ∙ sym q.0, p.1 ∙ sym q.1)
  step_once old (Asks (Show name)) r t m n p q = inl (shows_once (router_named network.state.routers name) old name r t m n p q)
  step_once old (Asks Lcov) r t m n p q = inl (tells_once (λ sheets. lcov_of sheets network.files) old r t m n p q)
  step_once old (Asks Json) r t m n p q = inl (tells_once json_of old r t m n p q)
  step_once old (Asks Suite) r t m n p q = inl (suite_once network.state (live_each old.tests) r t p.0 q.0, p.1 ∙ sym q.1)
  step_once old (Asks Dead) r t m n p q = inl (dead_once old r t m n p q)
  step_once old (Asks (Test test)) r t m n p q = inl (named_once (router_named network.state.routers (router_of test)) old test r t m n p q)
  step_once old (Asks (Forget number)) r t m n p q = inl (forgets_once (live_place old.tests number) old number r t m n p q)
  step_once old (Asks (Implies first second)) r t m n p q = questions_once (live_place old.tests first) (live_place old.tests second) old first second r t m n p q
  step_once old (Asks (Cut number names)) r t m n p q = cuts_once (unknown_among network.state.routers names) (live_place old.tests number) old number names r t m n p q

  -- the replies are the same, up to a question of too many parts
  run_once : (old : State) (lines : List (List ℕ)) (r t : List ℕ) (m n : State) → Run network old lines r m → Run network old lines t n → (r ≡ t) ⊎ AreCrowding network old lines
  run_once old [] r t m n p q = inl (p.0 ∙ sym q.0)
  run_once old (line ∷ lines) r t m n p q =
      on (step_once old (command_of line) p.0 q.0 p.1 q.1 p.3 q.3)
      (λ step. run_once p.1 lines p.2 q.2 m n p.4 (subst (λ (kept : State). Run network kept lines q.2 n) (sym step.1) q.4))
    where
      on : Same p.0 q.0 p.1 q.1 ⊎ Crowds network.state old (command_of line) → (Same p.0 q.0 p.1 q.1 → (p.2 ≡ q.2) ⊎ AreCrowding network p.1 lines)
          → (r ≡ t) ⊎ AreCrowding network old (line ∷ lines)
      on (inr crowds) behind = inr (record { front = []; line = line; behind = lines; parts = refl; replies = []; kept = old; run = (refl, refl); crowds = crowds })
      on (inl step) behind = beside (behind step)
        where
          beside : (p.2 ≡ q.2) ⊎ AreCrowding network p.1 lines → (r ≡ t) ⊎ AreCrowding network old (line ∷ lines)
          beside (inl rest) = inl (p.5 ∙ ap (λ (l : List ℕ). l ++ p.2) step.0 ∙ ap (λ (l : List ℕ). q.0 ++ l) rest ∙ sym q.5)
          beside (inr late) = inr (record {
            front = line ∷ late.front;
            line = late.line;
            behind = late.behind;
            parts = ap (λ (ls : List (List ℕ)). line ∷ ls) late.parts;
            replies = p.0 ++ late.replies;
            kept = late.kept;
            run = (p.0, p.1, late.replies, p.3, late.run, refl);
            crowds = late.crowds;
          })

  -- the lines of a session that are answered
  abbrev answered : List ℕ → List (List ℕ)
  answered session = until_quit (served_lines session)

  replies_once : (lines : List (List ℕ)) (r t : List ℕ) → AreReplies network lines r → AreReplies network lines t → (r ≡ t) ⊎ AreCrowding network no_tests (until_quit lines)
  replies_once lines r t p q = run_once no_tests (until_quit lines) r t p.last q.last p.run q.run

  replied_once : (session : List ℕ) (within : Bool) (m n : Status) (r t : List ℕ) → ServesWithin network session within m r → ServesWithin network session within n t
      → (m ≡ n) × ((r ≡ t) ⊎ AreCrowding network no_tests (answered session))
  replied_once session true m n r t p q = (p.0 ∙ sym q.0, replies_once (served_lines session) r t p.1 q.1)
  replied_once session false m n r t p q = (p.0 ∙ sym q.0, on (replies_once (served_lines session) p.1 q.1 p.2 q.2))
    where
      on : (p.1 ≡ q.1) ⊎ AreCrowding network no_tests (answered session) → (r ≡ t) ⊎ AreCrowding network no_tests (answered session)
      on (inl replies) = inl (p.3 ∙ ap (λ (l : List ℕ). l ++ long_session_text) replies ∙ sym q.3)
      on (inr crowding) = inr crowding

-- ---- one output

module _ (formed : (lines : List (List ℕ)) (c : ConfigView) → configuration lines ≡ Ok c → IsWellFormed c)
    (lawful : (routers : List ConfigView) (rounds : ℕ) (s : StateView) → IsValid routers → length routers ≤ most_routers → settled rounds routers ≡ Some s → IsState s)
    (flows : (s : StateView) → IsState s → IsFlow (flow_of s))
    (lengths : (g : Flow Fact) → IsFlow g → (fs xs ys : List Fact) → IsClosure g fs xs → IsClosure g fs ys → length xs ≡ length ys)
    (lacks : (missing : List ℕ) (v : ℕ) → IsStrictlyIncreasing missing → (has (all_but missing) v ≡ false) ↔ Contains missing v) where
  behind_heading : (heading r t front behind : List ℕ) (crowding : Type 0) → front ≡ heading ++ r → behind ≡ heading ++ t → (r ≡ t) ⊎ crowding → (front ≡ behind) ⊎ crowding
  behind_heading heading r t front behind crowding p q (inl same) = inl (p ∙ ap (λ (l : List ℕ). heading ++ l) same ∙ sym q)
  behind_heading heading r t front behind crowding p q (inr crowds) = inr crowds

  concludes_once : (heading : LoadedView → List ℕ) (loaded : Result LoadedView Refusal) (session : List ℕ) (m n : Status) (r t : List ℕ)
      → ((network : LoadedView) → loaded ≡ Ok network → IsState network.state) → Concludes heading loaded session m r → Concludes heading loaded session n t
      → (m ≡ n) × ((r ≡ t) ⊎ IsCrowding loaded session)
  concludes_once heading (Err refusal) session m n r t state p q = (p.0 ∙ sym q.0, inl (p.1 ∙ sym q.1))
  concludes_once heading (Ok network) session m n r t state p q =
      let once = replied_once lengths network (flows network.state (state network refl)) lacks session (is_within session) m n p.0 q.0 p.1 q.1 in
      (once.0, behind_heading (heading network) p.0 q.0 r t (IsCrowding (Ok network) session) p.2 q.2 once.1)

  pub one_output : (words : List (List ℕ)) (files : List Named) (session : List ℕ) (m n : Status) (r t : List ℕ) → Output words files session m r → Output words files session n t
      → (m ≡ n) × ((r ≡ t) ⊎ IsCrowding (load words files) (session_of words session))
  one_output words files session m n r t p q =
      concludes_once (heading_asked (request_of words)) (load words files) (session_of words session) m n r t (loaded_state formed lawful words files) p q
