use Rattle.std.proofs.Common.{◌≡◌, ◌≤◌, ◌<◌, ℕ, List, [], ◌∙◌, ◌||◌, length, get_or, ap, sym, subst, arith}
use Rattle.std.proofs.lemmas.List.{length-map}
use Rattle.nc_graph.specs.Nodes.{node_flow}
use Rattle.nc_graph.specs.declared.node.NodeId.{NodeId}
use Rattle.nc_marks.specs.Kept.{Kept, AreKept, TouchesOnly, kept_nodes}
use Rattle.nc_marks.specs.Reach.{leaf_in}
use Rattle.nc_marks.specs.Sets.{flag, in_some}
use Rattle.nc_marks.proofs.GrowthLemmas.{table-on}
use Rattle.nc_marks.proofs.KeptLemmas.{kept-more, mark-same}
use Rattle.nc_marks.proofs.kept.KeptMarks.add.Goals as goal

pub returns-in-Ok-clause-kept : goal.returns-in-Ok-clause-kept
returns-in-Ok-clause-kept g c = λ count live elements are.
    let n = c.args.graph.now in
    let was = c.self.inside.nodes in
    let now = c.extend.new.nodes in
    let marks = c.self.inside.marks in
    let nodes : kept_nodes c.args.self.now ≡ count = are.nodes in
    let grown : kept_nodes c.args.self.now ≤ length n.facts = c.requires.grown in
    let few : count ≤ length n.facts = omega arith in
    kept-more n c.in-Ok.ensures.graph was.sets now.sets was.gathered was.places.items now.places.items marks c.add_strong.new.self c.self.invariant.0
    count elements live c.args.tested.now was.reached.items now.reached.items c.in-Ok.news.raised.items
    (subst (λ (k : Kept). AreKept (node_flow n) count live elements k) (sym c.self.view_is) are) few c.requires.valid
    c.in-Ok.ensures.all c.in-Ok.ensures.raised (c.in-Ok.ensures.reached live) c.in-Ok.ensures.len c.in-Ok.ensures.grows c.in-Ok.ensures.sets
    (c.add_strong.ensures.elements ∙ c.add_leaves.ensures.elements)
    (λ e lt. c.add_strong.ensures.strong e (subst (λ m. e < m) (sym c.add_leaves.ensures.elements) lt)
    ∙ ap (λ (ps : List ℕ). in_some now.sets ps c.args.tested.now e || flag c.add_leaves.new.self.strong e) c.deref-in-Ok.ensures.value
    ∙ ap (λ fs. in_some now.sets now.places.items c.args.tested.now e || flag fs e) c.add_leaves.ensures.strong)
    (λ e lt. ap (λ fs. flag fs e) c.add_strong.ensures.some ∙ c.add_leaves.ensures.some e lt
    ∙ ap (λ (ps : List NodeId). leaf_in (node_flow n) e ps || flag marks.some e) c.deref.ensures.value)

pub returns-in-Ok-clause-touched : goal.returns-in-Ok-clause-touched
returns-in-Ok-clause-touched g c =
    let n = c.args.graph.now in
    let now = c.extend.new.nodes in
    let marks = c.self.inside.marks in
    let new = c.add_strong.new.self in
    subst (λ (k : Kept). TouchesOnly c.in-Ok.news.touched.items k.marks new) c.self.view_is (record {
      within = c.in-Ok.ensures.within;
      others = λ e lt none. mark-same marks new e (in_some now.sets now.places.items c.args.tested.now e) (leaf_in (node_flow n) e c.in-Ok.news.raised.items)
          (c.add_strong.ensures.strong e (subst (λ m. e < m) (sym c.add_leaves.ensures.elements) lt)
          ∙ ap (λ (ps : List ℕ). in_some now.sets ps c.args.tested.now e || flag c.add_leaves.new.self.strong e) c.deref-in-Ok.ensures.value
          ∙ ap (λ fs. in_some now.sets now.places.items c.args.tested.now e || flag fs e) c.add_leaves.ensures.strong)
          (ap (λ fs. flag fs e) c.add_strong.ensures.some ∙ c.add_leaves.ensures.some e lt
          ∙ ap (λ (ps : List NodeId). leaf_in (node_flow n) e ps || flag marks.some e) c.deref.ensures.value)
          (c.in-Ok.ensures.strong e lt none) (c.in-Ok.ensures.some e lt none);
    })

pub returns-in-Ok-clause-elements : goal.returns-in-Ok-clause-elements
returns-in-Ok-clause-elements g c =
    c.add_strong.ensures.elements ∙ c.add_leaves.ensures.elements ∙ ap (λ (k : Kept). length k.marks.strong) c.self.view_is

pub returns-in-Ok-clause-count : goal.returns-in-Ok-clause-count
returns-in-Ok-clause-count g c =
    length-map c.extend.new.nodes.places.items (λ place. get_or c.extend.new.nodes.sets.sets place []) ∙ c.in-Ok.ensures.len

pub invariant_of-self : goal.invariant_of-self
invariant_of-self g c =
    let was = c.self.inside.nodes in
    let now = c.extend.new.nodes in
    let marks = c.self.inside.marks in (
      table-on was.sets now.sets was.gathered now.gathered was.places.items now.places.items (length marks.strong) (length c.add_strong.new.self.strong) c.self.invariant.0 c.in-Ok.ensures.grows c.in-Ok.ensures.width
          (c.add_strong.ensures.elements ∙ c.add_leaves.ensures.elements) c.in-Ok.ensures.placed c.in-Ok.ensures.few,
      c.in-Ok.ensures.all ∙ sym c.in-Ok.ensures.len,
    )
