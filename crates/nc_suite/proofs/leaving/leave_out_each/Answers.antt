use Rattle.std.proofs.Common.{◌≡◌, ◌-◌, ◌∙◌, ◌∷◌, [], suc, length, map, reverse, sym, ap, subst, arith}
use Rattle.std.proofs.lemmas.List.{length-map, reverse-append}
use Rattle.nc_graph.specs.Nodes.{node_flow}
use Rattle.nc_marks.specs.Kept.{AreKept}
use Rattle.nc_marks.specs.Marks.{marked_elements}
use Rattle.nc_marks.specs.Sets.{flag}
use Rattle.nc_suite.specs.Counts.{AreCounts, HasRoom}
use Rattle.nc_suite.specs.Suite.{Leaves, IsSuite, still}
use Rattle.nc_suite.proofs.SpareLemmas.{counts-room, room-less, counts-first, leaves-first, leaves-last}
use Rattle.nc_suite.proofs.TurnLemmas.{among, left, stays, suite-left, suite-stays}
use Rattle.nc_suite.proofs.leaving.leave_out_each.Goals as goal

pub turns-init : goal.turns-init
turns-init g c =
    let n = c.args.graph.now in
    let tests = map (λ t. map (λ p. p.0) t.now) c.args.tests.now in
    let wide = ap (λ l. l.width) c.in_ok-new.ensures ∙ c.elements-elements.ensures in
    let long : length c.args.tests.now ≡ length tests = sym (length-map c.args.tests.now (λ t. map (λ p. p.0) t.now)) in
    let none = ap reverse c.new-places.ensures.items in
    let counts = subst (λ w. AreCounts (node_flow n) w tests c.count_all.new.tally) wide c.in_ok-count_all.ensures.counts in
    record {
      within = omega arith;
      width = c.in_ok-count_all.ensures.width ∙ wide;
      len = ap length c.in_ok-count_all.ensures.reached ∙ c.in_ok-lowered_flags.ensures.len ∙ c.len.ensures.len;
      lowered = λ i. ap (λ fs. flag fs i) c.in_ok-count_all.ensures.reached ∙ c.in_ok-lowered_flags.ensures.lowered i;
      counts = counts-first (node_flow n) (marked_elements c.args.marks.now.marks) tests (length c.args.tests.now) (reverse c.new-places.result.items) c.count_all.new.tally long none counts;
      room = counts-room (node_flow n) (marked_elements c.args.marks.now.marks) tests c.count_all.new.tally (omega (arith, long, c.requires.few)) counts;
      leaves = λ suite l. leaves-first (node_flow n) (marked_elements c.args.marks.now.marks) tests (length c.args.tests.now) (reverse c.new-places.result.items) suite long none l;
    }

pub leave_out-requires-clause-kept : goal.leave_out-requires-clause-kept
leave_out-requires-clause-kept g c = (
  c.requires.kept.0,
  subst (λ w. AreKept (node_flow c.args.graph.now) (length c.args.graph.now.facts) c.requires.kept.0 w c.args.marks.now) (sym c.turns.invariant.width) c.requires.kept.1,
)

pub leave_out-requires-clause-among : goal.leave_out-requires-clause-among
leave_out-requires-clause-among g c =
    let n = c.args.graph.now in
    let k = c.turns.turn - 1 in
    let next : c.turns.turn ≡ suc k = omega (arith, c.turns-test.true) in
    among n c.len.ensures.graph (marked_elements c.args.marks.now.marks) (λ t. t.now) c.args.tests.now (record { ref_ptr = (0, 0); now = [] }) c.requires.valid c.turns.turn k next c.turns.invariant.within (reverse c.turns.places.items) c.turns.tally c.turns.invariant.counts

pub turns-preserved-in_ok-push : goal.turns-preserved-in_ok-push
turns-preserved-in_ok-push g c =
    let n = c.args.graph.now in
    let k = c.turns.turn - 1 in
    let next : c.turns.turn ≡ suc k = omega (arith, c.turns-test.true) in
    let tests = map (λ t. map (λ p. p.0) t.now) c.args.tests.now in
    let rev : reverse c.push.new.self.items ≡ k ∷ reverse c.turns.places.items = ap reverse c.in_ok-push.ensures.items ∙ reverse-append c.turns.places.items (k ∷ []) in
    let unchanged = c.in_ok-leave_out.ensures.stays c.if-not-branch.true in
    record {
      within = omega (arith, c.turns.invariant.within);
      width = c.in_ok-leave_out.ensures.width ∙ c.turns.invariant.width;
      len = ap length c.in_ok-leave_out.ensures.reached ∙ c.turns.invariant.len;
      lowered = λ i. ap (λ fs. flag fs i) c.in_ok-leave_out.ensures.reached ∙ c.turns.invariant.lowered i;
      counts =
          subst (λ t. AreCounts (node_flow n) (marked_elements c.args.marks.now.marks) (still tests k (reverse c.push.new.self.items)) t) (sym unchanged)
          (subst (λ s. AreCounts (node_flow n) (marked_elements c.args.marks.now.marks) (still tests k s) c.turns.tally) (sym rev)
          (stays n c.len.ensures.graph (marked_elements c.args.marks.now.marks) (λ t. t.now) c.args.tests.now (record { ref_ptr = (0, 0); now = [] }) c.requires.valid c.turns.turn k next c.turns.invariant.within (reverse c.turns.places.items) c.turns.tally c.turns.invariant.counts));
      room = subst HasRoom (sym unchanged) c.turns.invariant.room;
      leaves = λ suite l.
          suite-stays n c.len.ensures.graph (marked_elements c.args.marks.now.marks) (λ t. t.now) c.args.tests.now (record { ref_ptr = (0, 0); now = [] }) c.requires.valid c.turns.turn k next c.turns.invariant.within (reverse c.turns.places.items) c.turns.tally c.turns.invariant.counts
          c.turns.invariant.leaves suite (λ spared. let yes = c.in_ok-leave_out.ensures.spare.1 spared in let no = c.if-not-branch.true in absurd (cc))
          (subst (λ s. Leaves (node_flow n) (marked_elements c.args.marks.now.marks) tests k s suite) rev l);
    }

pub turns-preserved : goal.turns-preserved
turns-preserved g c =
    let n = c.args.graph.now in
    let k = c.turns.turn - 1 in
    let next : c.turns.turn ≡ suc k = omega (arith, c.turns-test.true) in
    let taken = c.in_ok-leave_out.ensures.takes c.if-not-branch.false in
    record {
      within = omega (arith, c.turns.invariant.within);
      width = c.in_ok-leave_out.ensures.width ∙ c.turns.invariant.width;
      len = ap length c.in_ok-leave_out.ensures.reached ∙ c.turns.invariant.len;
      lowered = λ i. ap (λ fs. flag fs i) c.in_ok-leave_out.ensures.reached ∙ c.turns.invariant.lowered i;
      counts = left n c.len.ensures.graph (marked_elements c.args.marks.now.marks) (λ t. t.now) c.args.tests.now (record { ref_ptr = (0, 0); now = [] }) c.requires.valid c.turns.turn k next c.turns.invariant.within (reverse c.turns.places.items) c.turns.tally c.turns.invariant.counts c.leave_out.new.tally taken;
      room = room-less (node_flow n) (marked_elements c.args.marks.now.marks) _ c.leave_out.new.tally c.turns.tally taken c.turns.invariant.room;
      leaves = λ suite l.
          suite-left n c.len.ensures.graph (marked_elements c.args.marks.now.marks) (λ t. t.now) c.args.tests.now (record { ref_ptr = (0, 0); now = [] }) c.requires.valid c.turns.turn k next c.turns.invariant.within (reverse c.turns.places.items) c.turns.tally c.turns.invariant.counts
          c.turns.invariant.leaves suite (c.in_ok-leave_out.ensures.spare.0 c.if-not-branch.false) l;
    }

pub returns : goal.returns
returns g c =
    let tests = map (λ t. map (λ p. p.0) t.now) c.args.tests.now in
    let last : c.turns.turn ≡ 0 = omega (arith, c.turns-test.false) in
    subst (IsSuite (node_flow c.args.graph.now) (marked_elements c.args.marks.now.marks) tests) (sym c.reverse.ensures.items)
    (c.turns.invariant.leaves (reverse c.turns.places.items)
    (leaves-last (node_flow c.args.graph.now) (marked_elements c.args.marks.now.marks) tests c.turns.turn (reverse c.turns.places.items) last))
