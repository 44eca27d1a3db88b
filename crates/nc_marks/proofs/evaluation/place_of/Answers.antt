use Rattle.std.proofs.Common.{◌∙◌, ◌<◌, length, nat_eq, get_or, subst}
use Rattle.std.proofs.lemmas.Bool.{lt-ltb}
use Rattle.nc_graph.specs.Derivation.{strong}
use Rattle.nc_graph.specs.Nodes.{node_flow}
use Rattle.nc_marks.specs.Sets.{in_some, in_each}
use Rattle.nc_graph.proofs.Parents.{kind-at}
use Rattle.nc_marks.proofs.StrongLemmas.{at-same, leaf-strong, of-parents, some-parent, every-strong, any-strong}
use Rattle.nc_marks.proofs.evaluation.place_of.Goals as goal

pub union_of-requires-clause-placed : goal.union_of-requires-clause-placed
union_of-requires-clause-placed g c =
    let n = c.args.graph.now in
    let i = c.args.node.0 in
    of-parents n c.requires.graph i (lt-ltb i (length n.facts) c.requires.valid) (λ p. get_or c.args.places.now p 0 < length c.args.sets.now.sets) c.parents-parents.result.now c.parents-parents.ensures.parents c.requires.placed

pub intersection_of-requires-clause-placed : goal.intersection_of-requires-clause-placed
intersection_of-requires-clause-placed g c =
    let n = c.args.graph.now in
    let i = c.args.node.0 in
    of-parents n c.requires.graph i (lt-ltb i (length n.facts) c.requires.valid) (λ p. get_or c.args.places.now p 0 < length c.args.sets.now.sets) c.parents-parents.result.now c.parents-parents.ensures.parents c.requires.placed

pub intersection_of-requires-clause-some : goal.intersection_of-requires-clause-some
intersection_of-requires-clause-some g c =
    let n = c.args.graph.now in
    let i = c.args.node.0 in
    some-parent n c.requires.graph i (lt-ltb i (length n.facts) c.requires.valid) c.parents-parents.result.now c.parents-parents.ensures.parents (kind-at n i c.kind.result c.kind.ensures ∙ c.in-Any.is)

pub returns-in_ok-place-in-Leaf-clause-strong : goal.returns-in_ok-place-in-Leaf-clause-strong
returns-in_ok-place-in-Leaf-clause-strong g c = λ below.
    let n = c.args.graph.now in
    let i = c.args.node.0 in
    at-same c.single.new.self c.in_ok-place-in-Leaf.place (λ e. nat_eq e c.in-Leaf.element) (λ e. strong (node_flow n) e i) c.in_ok-place-in-Leaf.ensures.single
    (λ e lt. leaf-strong n c.requires.graph i (lt-ltb i (length n.facts) c.requires.valid) e c.in-Leaf.element (kind-at n i c.kind.result c.kind.ensures ∙ c.in-Leaf.is))

pub returns-in_ok-place-in-Every-clause-strong : goal.returns-in_ok-place-in-Every-clause-strong
returns-in_ok-place-in-Every-clause-strong g c = λ below.
    let n = c.args.graph.now in
    let i = c.args.node.0 in
    at-same c.union_of.new.sets c.in_ok-place-in-Every.place (in_some c.args.sets.now c.args.places.now c.parents-parents.result.now) (λ e. strong (node_flow n) e i) c.in_ok-place-in-Every.ensures.union
    (λ e lt. every-strong n c.requires.graph i (lt-ltb i (length n.facts) c.requires.valid) c.args.sets.now c.args.places.now c.parents-parents.result.now c.parents-parents.ensures.parents below
    (kind-at n i c.kind.result c.kind.ensures ∙ c.in-Every.is) e (subst (λ w. e < w) c.in_ok-place-in-Every.ensures.grows.width lt))

pub returns-in_ok-place-in-Any-clause-strong : goal.returns-in_ok-place-in-Any-clause-strong
returns-in_ok-place-in-Any-clause-strong g c = λ below.
    let n = c.args.graph.now in
    let i = c.args.node.0 in
    at-same c.intersection_of.new.sets c.in_ok-place-in-Any.place (in_each c.args.sets.now c.args.places.now c.parents-parents.result.now) (λ e. strong (node_flow n) e i) c.in_ok-place-in-Any.ensures.intersection
    (λ e lt. any-strong n c.requires.graph i (lt-ltb i (length n.facts) c.requires.valid) c.args.sets.now c.args.places.now c.parents-parents.result.now c.parents-parents.ensures.parents below
    (kind-at n i c.kind.result c.kind.ensures ∙ c.in-Any.is) e (subst (λ w. e < w) c.in_ok-place-in-Any.ensures.grows.width lt))
