use Rattle.std.proofs.Common.{◌≡◌, ◌<◌, ◌∙◌, length, take, drop, get_or, ap, sym, subst, arith, ◌++◌}
use Rattle.std.proofs.lemmas.Bool.{lt-ltb}
use Rattle.std.proofs.lemmas.List.{take_all}
use Rattle.std.specs.List.{list_any}
use Rattle.nc_diagram.specs.Diagrams.{Means}
use Rattle.nc_formula.specs.Parts.{carrying}
use Rattle.nc_graph.specs.Derivation.{strong}
use Rattle.nc_graph.specs.Nodes.{node_flow}
use Rattle.nc_marks.specs.Needed.{needed}
use Rattle.nc_marks.specs.Sets.{flag}
use Rattle.nc_marks.proofs.NeededLemmas.{needed-strong, strong-step, gained-more, flags-back}
use Rattle.nc_marks.proofs.StrongLemmas.{any-map}
use Rattle.nc_marks.proofs.by_diagrams.strong_by_diagrams.Goals as goal

pub returns-in-Err-Full-clause-gains : goal.returns-in-Err-Full-clause-gains
returns-in-Err-Full-clause-gains g c =
    gained-more (node_flow c.args.graph.now) c.args.tested.now c.nodes.node-index (record { 0 = 0 }) c.nodes-test.true c.args.store.now c.nodes.store c.of.new.store c.nodes.invariant.gains c.of.ensures.gains

pub returns-in-Err-Memory-clause-gains : goal.returns-in-Err-Memory-clause-gains
returns-in-Err-Memory-clause-gains g c =
    gained-more (node_flow c.args.graph.now) c.args.tested.now c.nodes.node-index (record { 0 = 0 }) c.nodes-test.true c.args.store.now c.nodes.store c.of.new.store c.nodes.invariant.gains c.of.ensures.gains

pub nodes-preserved : goal.nodes-preserved
nodes-preserved g c =
    let n = c.args.graph.now in
    let flow = node_flow n in
    let ids = c.args.tested.now in
    let k = c.nodes.node-index in
    let node = get_or ids k (record { 0 = 0 }) in
    let items = c.nodes.flags.items in
    let new = c.flag_all_needed.new.flags in
    let nodes = c.of.new.store.nodes in
    let r = c.in-Ok.reference in
    let long : length c.deref_mut.result.now ≡ c.args.elements = ap length c.deref_mut.ensures.value ∙ c.nodes.invariant.long in
    let back : take c.nodes.flags.len (new ++ drop (length new) items) ≡ new = flags-back new (drop (length new) items) c.nodes.flags.len (c.flag_all_needed.ensures.len ∙ c.deref_mut.ensures.len) in
    let means : Means c.of.new.store r (carrying flow node.0) = c.in-Ok.ensures.means in
    record {
      long = ap length back ∙ c.flag_all_needed.ensures.len ∙ long;
      strong = λ e lt. ap (λ fs. flag fs e) back ∙ strong-step flow ids k (record { 0 = 0 }) e c.nodes-test.true (flag c.deref_mut.result.now e) (flag new e) (needed nodes r e)
          (c.flag_all_needed.ensures.flags e (subst (λ m. e < m) (sym long) lt)) (ap (λ fs. flag fs e) c.deref_mut.ensures.value ∙ c.nodes.invariant.strong e lt)
          (needed-strong flow c.len-nodes.ensures.graph.flow nodes r node.0 (lt-ltb node.0 (length n.facts) (c.requires.valid k (record { 0 = 0 }) c.nodes-test.true)) means.means e);
      still = λ i q h. c.of.ensures.still i q (c.nodes.invariant.still i q h);
      formulas = c.of.ensures.formulas;
      gains = gained-more flow ids k (record { 0 = 0 }) c.nodes-test.true c.args.store.now c.nodes.store c.of.new.store c.nodes.invariant.gains c.of.ensures.gains;
    }

pub returns-clause-strong : goal.returns-clause-strong
returns-clause-strong g c = λ e lt.
    let flow = node_flow c.args.graph.now in
    let ids = c.args.tested.now in
    let all : take c.nodes.node-index ids ≡ ids = take_all c.nodes.node-index ids (omega (arith, c.nodes-test.false, c.nodes.auto.node-index-end)) in
    c.nodes.invariant.strong e lt ∙ ap (list_any (λ p. strong flow e p.0)) all ∙ sym (any-map (strong flow e) ids)
