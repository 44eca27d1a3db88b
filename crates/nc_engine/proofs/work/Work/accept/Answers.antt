use Rattle.std.proofs.Common.{rules, arith, ℕ, ◌≡◌, ◌-◌, List, [], ◌∷◌, ◌++◌, length, map, All, true, refl, sym, ap, ◌∙◌, subst}
use Rattle.std.proofs.lemmas.List.{length_push}
use Rattle.nc_types.specs.Network.{element_count}
use Rattle.nc_graph.specs.Closure.{ReachesMoreThan}
use Rattle.nc_graph.specs.Flow.{raised}
use Rattle.nc_graph.specs.Nodes.{AreNodesOf}
use Rattle.nc_graph.specs.declared.node.NodeId.{NodeId}
use Rattle.nc_graph.proofs.NodeLemmas.{nodes_of-within}
use Rattle.nc_marks.specs.Marks.{marked_elements}
use Rattle.nc_tables.specs.State.{StateView, IsState}
use Rattle.nc_fact.specs.declared.fact.Fact.{Fact}
use Rattle.nc_rules.specs.Rules.{flow_of}
use Rattle.nc_rules.specs.Seen.{state_of, asked_of}
use Rattle.nc_engine.specs.Limits.{most_facts}
use Rattle.nc_engine.specs.declared.work.KeptTest.{KeptTest as Made}
use Rattle.std.proofs.lemmas.List.{map_push}
use Rattle.std.proofs.lemmas.List.Elements.{All-nil, All-cons, All-append, All-weaker}
use Rattle.nc_formula.specs.Session.{AreDrawn}
use Rattle.nc_engine.specs.Session.{KeptTest, IsCrowded, live_test, posed_in, asked_in}
use Rattle.nc_report.specs.Sheets.{sheets_from}
use Rattle.std.specs.Option.{ForSome}
use Rattle.nc_engine.specs.Work.{IsMarked, IsDrawnFor, IsKnownDead, HaveNodes, test_view, tests_of, kept_of}
use Rattle.nc_engine.proofs.Closing.{many-from, many-to, nodes-extended}
use Rattle.nc_engine.proofs.Working.{tests-more, marked-more, shown-more}
use Rattle.nc_engine.proofs.Drawing.{answered-longer}
use Rattle.nc_engine.proofs.Crowding.{crowded-test}
use Rattle.nc_engine.proofs.work.Work.accept.Goals as goal

pub returns-in-Err-Full-clause-taken : goal.returns-in-Err-Full-clause-taken
returns-in-Err-Full-clause-taken c =
    let old = c.args.self.now in
    let s = state_of old.rules in
    let marked = c.requires.work.marked in
    let many : ReachesMoreThan (flow_of s) old.graph.limit (old.graph.facts ++ c.deref.result.now) = c.in-Err-Full.ensures.full (search rules) in
    let all = many-from (flow_of s) (asked_in (tests_of old)) old.graph.facts marked.closure c.deref.result.now old.graph.limit many in
    let limited = subst (λ (n : ℕ). ReachesMoreThan (flow_of s) n (asked_in (tests_of old) ++ c.deref.result.now)) marked.limit all in (
      subst (λ (facts : List Fact). ReachesMoreThan (flow_of s) most_facts (asked_in (tests_of old) ++ facts)) c.deref.ensures.value limited,
      refl,
      c.in-Err-Full.ensures.asked_full (search rules) ∙ ap (λ (n : ℕ). raised (asked_of old.rules) (n - length old.graph.facts)) marked.limit,
    )

pub add-requires-clause-valid : goal.add-requires-clause-valid
add-requires-clause-valid c = rw c.deref-2.ensures.value (nodes_of-within c.ask.new.graph.facts c.in-Ok.nodes.items c.deref.result.now c.in-Ok.ensures.nodes)

pub refresh-requires : goal.refresh-requires
refresh-requires c =
    ap marked_elements c.marks.ensures ∙ c.in_ok-touched.ensures.elements ∙ c.requires.work.marked.kept.marks.count
    ∙ ap element_count (sym (c.network-network.ensures.network ∙ ap (λ (s : StateView). s.routers) (c.state.ensures ∙ c.in-Ok.ensures.state)))

pub returns-clause-work : goal.returns-clause-work
returns-clause-work c =
    let old = c.args.self.now in
    let s = state_of old.rules in
    let done = c.in-Ok.ensures in
    let facts = c.deref.result.now in
    let graph = c.ask.new.graph in
    let marked = c.requires.work.marked in
    let test : Made = record { facts = c.args.facts; nodes = c.in-Ok.nodes; live = true } in
    let drawn = c.drawn_with_a_test.ensures (flow_of s) (posed_in (kept_of old)) facts graph old.store old.formulas
    (c.drawn_for_a_longer_graph.ensures (flow_of s) (posed_in (kept_of old)) old.graph graph done.graph.0 done.graph.1 done.kept old.store old.formulas c.requires.work.drawn) in
    let tests = tests-more test_view old.tests.items c.push.new.self.items test c.in_ok-push.ensures.items in
    let seen : map test_view c.push.new.self.items ≡ tests_of old ++ live_test facts ∷ [] = tests ∙ ap (λ (fs : List Fact). tests_of old ++ live_test fs ∷ []) (sym c.deref.ensures.value) in
    let net = c.network-network.ensures.network ∙ ap (λ (s : StateView). s.routers) (c.state.ensures ∙ done.state) in
    record {
      state = subst IsState (sym done.state) c.requires.work.state;
      marked = subst (λ (s : StateView). IsMarked s (map test_view c.push.new.self.items) graph c.add.new.self) (sym done.state)
          (subst (λ (ts : List KeptTest). IsMarked s ts graph c.add.new.self) (ap (λ (fs : List Fact). tests_of old ++ live_test fs ∷ []) c.deref.ensures.value ∙ sym tests)
          (marked-more s (tests_of old) facts old.graph graph old.marks c.add.new.self c.deref-2.result.now marked done.mirrors done.closure done.kept
          (subst (λ (nodes : List NodeId). AreNodesOf graph nodes facts) (sym c.deref-2.ensures.value) done.nodes)
          (c.kept_of_an_extended_graph.ensures old.graph graph done.graph.0 done.graph.1 done.kept) c.in_ok-touched.ensures.kept));
      nodes = subst (HaveNodes graph) (sym c.in_ok-push.ensures.items) (All-append (λ (t : Made). AreNodesOf graph t.nodes.items t.facts.items) old.tests.items (test ∷ [])
          (All-weaker (λ (t : Made). AreNodesOf old.graph t.nodes.items t.facts.items) (λ (t : Made). AreNodesOf graph t.nodes.items t.facts.items)
          (λ t are. nodes-extended old.graph graph done.kept t.nodes.items t.facts.items are) old.tests.items c.requires.work.nodes)
          (All-cons (λ (t : Made). AreNodesOf graph t.nodes.items t.facts.items) test [] (subst (λ (fs : List Fact). AreNodesOf graph c.in-Ok.nodes.items fs) c.deref.ensures.value done.nodes)
          (All-nil (λ (t : Made). AreNodesOf graph t.nodes.items t.facts.items))));
      drawn = subst (λ (s : StateView). AreDrawn (flow_of s) (posed_in (record { tests = map test_view c.push.new.self.items; pairs = old.pairs.items })) graph old.store old.formulas) (sym done.state)
          (subst (λ (ts : List KeptTest). AreDrawn (flow_of s) (posed_in (record { tests = ts; pairs = old.pairs.items })) graph old.store old.formulas) (sym seen)
          (subst (λ (fs : List (List Fact)). AreDrawn (flow_of s) (record { tests = fs; pairs = old.pairs.items }) graph old.store old.formulas) (sym (map_push (λ (t : KeptTest). t.facts) (tests_of old) (live_test facts))) drawn));
      answered = subst (λ (ts : List Made). All (IsDrawnFor old.formulas ts) old.pairs.items) (sym c.in_ok-push.ensures.items)
          (answered-longer old.formulas old.tests.items (test ∷ []) old.pairs.items c.requires.work.answered);
      room = c.requires.work.room;
      shown = subst (λ (s : StateView). c.refresh.new.self ≡ sheets_from s.routers c.add.new.self.marks 0 s.routers) (sym done.state)
          (shown-more s.routers c.network-network.result.now old.marks.marks c.add.new.self.marks c.marks.result.now c.in_ok-touched.touched.items c.deref-3.result.now old.shown c.refresh.new.self
          net c.marks.ensures c.deref-3.ensures.value marked.kept.marks.count c.in_ok-touched.ensures.touched c.requires.work.shown c.refresh.ensures);
      few = omega (arith, ap length c.in_ok-push.ensures.items, length_push old.tests.items test);
      dead = subst (λ (s : StateView). ForSome old.dead (IsKnownDead s)) (sym done.state) c.requires.work.dead;
      crowded = λ place raised.
          subst (λ (s : StateView). IsCrowded s (record { tests = map test_view c.push.new.self.items; pairs = old.pairs.items })) (sym done.state)
          (subst (λ (ts : List KeptTest). IsCrowded s (record { tests = ts; pairs = old.pairs.items })) (sym tests)
          (crowded-test s (kept_of old) (test_view test) (c.requires.work.crowded place raised)));
    }

pub returns-clause-taken : goal.returns-clause-taken
returns-clause-taken c =
    let old = c.args.self.now in
    let s = state_of old.rules in
    let marked = c.requires.work.marked in (
      λ many. c.in-Ok.ensures.fits (subst (λ (n : ℕ). ReachesMoreThan (flow_of s) n (old.graph.facts ++ c.deref.result.now)) (sym marked.limit)
          (subst (λ (facts : List Fact). ReachesMoreThan (flow_of s) most_facts (old.graph.facts ++ facts)) (sym c.deref.ensures.value)
          (many-to (flow_of s) (asked_in (tests_of old)) old.graph.facts marked.closure c.args.facts.items most_facts many))),
      ap (λ (ts : List KeptTest). record { tests = ts; pairs = old.pairs.items }) (tests-more test_view old.tests.items c.push.new.self.items _ c.in_ok-push.ensures.items),
      c.in-Ok.ensures.asked,
    )
