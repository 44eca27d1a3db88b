use Rattle.nc_graph.specs.Nodes.{node_flow}
use Rattle.nc_diagram.specs.Sets.{has}
use Rattle.nc_formula.specs.Parts.{carrying, IsBaseOf}
use Rattle.nc_formula.specs.Formulas.{each_known, one_known, IsFirstEachKnown, IsFirstOneKnown}
use Rattle.nc_formula.proofs.GainLemmas.{gains-wider, crowded-by, crowded-wider}
use Rattle.nc_formula.proofs.NodeLemmas.{means-same, gains-operated, leaf-is, leaf-base, references, every-is, every-bases, any-is, any-bases}
use Rattle.nc_formula.proofs.formulas.Formulas.diagram.Goals as goal

pub each_of-requires : goal.each_of-requires
each_of-requires g c =
    references c.args.graph.now c.len-nodes.ensures.graph c.args.node.0 c.requires.valid c.kind.result c.kind.ensures c.args.store.now.nodes c.args.self.now c.requires.formulas
    c.parents.result.now c.parents.ensures.parents c.requires.parents

pub one_of-requires : goal.one_of-requires
one_of-requires g c =
    references c.args.graph.now c.len-nodes.ensures.graph c.args.node.0 c.requires.valid c.kind.result c.kind.ensures c.args.store.now.nodes c.args.self.now c.requires.formulas
    c.parents-in-Any.result.now c.parents-in-Any.ensures.parents c.requires.parents

pub returns-in-Leaf-clause-means : goal.returns-in-Leaf-clause-means
returns-in-Leaf-clause-means g c =
    let f = carrying (node_flow c.args.graph.now) c.args.node.0 in
    means-same c.variable.new.self c.variable.result (λ s. has s c.in-Leaf.element) f c.variable.ensures.means
    (leaf-is c.args.graph.now c.len-nodes.ensures.graph c.args.node.0 c.requires.valid c.kind.result c.kind.ensures c.in-Leaf.element c.in-Leaf.is)

pub returns-in-Leaf-clause-gains : goal.returns-in-Leaf-clause-gains
returns-in-Leaf-clause-gains g c =
    gains-operated (IsBaseOf (node_flow c.args.graph.now) c.args.node.0) c.variable.result (λ s. has s c.in-Leaf.element) c.args.store.now c.variable.new.self
    (leaf-base c.args.graph.now c.len-nodes.ensures.graph c.args.node.0 c.requires.valid c.kind.result c.kind.ensures c.in-Leaf.element c.in-Leaf.is)
    c.variable.ensures.adds c.variable.ensures.err

pub returns-in-Leaf-clause-full : goal.returns-in-Leaf-clause-full
returns-in-Leaf-clause-full g c = λ full.
    crowded-by (IsBaseOf (node_flow c.args.graph.now) c.args.node.0) (λ s. has s c.in-Leaf.element) c.args.store.now
    (leaf-base c.args.graph.now c.len-nodes.ensures.graph c.args.node.0 c.requires.valid c.kind.result c.kind.ensures c.in-Leaf.element c.in-Leaf.is)
    (c.variable.ensures.full full)

pub returns-in-Every-clause-means : goal.returns-in-Every-clause-means
returns-in-Every-clause-means g c =
    means-same c.each_of.new.store c.each_of.result (each_known c.args.store.now.nodes c.args.self.now c.parents.result.now) (carrying (node_flow c.args.graph.now) c.args.node.0) c.each_of.ensures.means
    (every-is c.args.graph.now c.len-nodes.ensures.graph c.args.node.0 c.requires.valid c.kind.result c.kind.ensures c.args.store.now.nodes c.args.self.now c.requires.formulas
    c.parents.result.now c.parents.ensures.parents c.requires.parents c.in-Every.is)

pub returns-in-Every-clause-gains : goal.returns-in-Every-clause-gains
returns-in-Every-clause-gains g c =
    gains-wider (IsFirstEachKnown c.args.store.now.nodes c.args.self.now c.parents.result.now) (IsBaseOf (node_flow c.args.graph.now) c.args.node.0) c.args.store.now c.each_of.new.store
    (every-bases c.args.graph.now c.len-nodes.ensures.graph c.args.node.0 c.requires.valid c.kind.result c.kind.ensures c.args.store.now.nodes c.args.self.now c.requires.formulas
    c.parents.result.now c.parents.ensures.parents c.requires.parents c.in-Every.is)
    c.each_of.ensures.gains

pub returns-in-Every-clause-full : goal.returns-in-Every-clause-full
returns-in-Every-clause-full g c = λ full.
    crowded-wider (IsFirstEachKnown c.args.store.now.nodes c.args.self.now c.parents.result.now) (IsBaseOf (node_flow c.args.graph.now) c.args.node.0) c.args.store.now
    (every-bases c.args.graph.now c.len-nodes.ensures.graph c.args.node.0 c.requires.valid c.kind.result c.kind.ensures c.args.store.now.nodes c.args.self.now c.requires.formulas
    c.parents.result.now c.parents.ensures.parents c.requires.parents c.in-Every.is)
    (c.each_of.ensures.full full)

pub returns-in-Any-clause-means : goal.returns-in-Any-clause-means
returns-in-Any-clause-means g c =
    means-same c.one_of.new.store c.one_of.result (one_known c.args.store.now.nodes c.args.self.now c.parents-in-Any.result.now) (carrying (node_flow c.args.graph.now) c.args.node.0) c.one_of.ensures.means
    (any-is c.args.graph.now c.len-nodes.ensures.graph c.args.node.0 c.requires.valid c.kind.result c.kind.ensures c.args.store.now.nodes c.args.self.now c.requires.formulas
    c.parents-in-Any.result.now c.parents-in-Any.ensures.parents c.requires.parents c.in-Any.is)

pub returns-in-Any-clause-gains : goal.returns-in-Any-clause-gains
returns-in-Any-clause-gains g c =
    gains-wider (IsFirstOneKnown c.args.store.now.nodes c.args.self.now c.parents-in-Any.result.now) (IsBaseOf (node_flow c.args.graph.now) c.args.node.0) c.args.store.now c.one_of.new.store
    (any-bases c.args.graph.now c.len-nodes.ensures.graph c.args.node.0 c.requires.valid c.kind.result c.kind.ensures c.args.store.now.nodes c.args.self.now c.requires.formulas
    c.parents-in-Any.result.now c.parents-in-Any.ensures.parents c.requires.parents c.in-Any.is)
    c.one_of.ensures.gains

pub returns-in-Any-clause-full : goal.returns-in-Any-clause-full
returns-in-Any-clause-full g c = λ full.
    crowded-wider (IsFirstOneKnown c.args.store.now.nodes c.args.self.now c.parents-in-Any.result.now) (IsBaseOf (node_flow c.args.graph.now) c.args.node.0) c.args.store.now
    (any-bases c.args.graph.now c.len-nodes.ensures.graph c.args.node.0 c.requires.valid c.kind.result c.kind.ensures c.args.store.now.nodes c.args.self.now c.requires.formulas
    c.parents-in-Any.result.now c.parents-in-Any.ensures.parents c.requires.parents c.in-Any.is)
    (c.one_of.ensures.full full)
