use Rattle.std.proofs.Common.{◌≡◌, Err, length, ap, ◌∙◌}
use Rattle.std.proofs.lemmas.Bool.{lt-ltb}
use Rattle.nc_graph.specs.Nodes.{node_flow}
use Rattle.nc_diagram.specs.declared.fault.StoreFault.TheVariants.{Full}
use Rattle.nc_formula.specs.Parts.{IsBaseOf}
use Rattle.nc_formula.proofs.NodeLemmas.{formulas-stay, formulas-alike, formulas-learned, still-learned}
use Rattle.nc_formula.proofs.formulas.Formulas.know.Goals as goal

pub returns-in-Err-clause-formulas : goal.returns-in-Err-clause-formulas
returns-in-Err-clause-formulas g c =
    let flow = node_flow c.args.graph.now in
    formulas-stay (IsBaseOf flow c.args.node.0) flow c.args.store.now c.diagram.new.store c.args.self.now c.diagram.ensures.gains c.requires.formulas

pub returns-in_err-learn-clause-formulas : goal.returns-in_err-learn-clause-formulas
returns-in_err-learn-clause-formulas g c =
    let flow = node_flow c.args.graph.now in
    formulas-alike flow c.diagram.new.store.nodes c.args.self.now c.learn.new.self c.in_err-learn.ensures.known
    (formulas-stay (IsBaseOf flow c.args.node.0) flow c.args.store.now c.diagram.new.store c.args.self.now c.diagram.ensures.gains c.requires.formulas)

pub returns-clause-still : goal.returns-clause-still
returns-clause-still g c =
    let flow = node_flow c.args.graph.now in
    still-learned flow c.diagram.new.store.nodes c.args.self.now c.learn.new.self c.args.node.0 c.in-Ok.reference c.in_ok-learn.ensures.learned
    (formulas-stay (IsBaseOf flow c.args.node.0) flow c.args.store.now c.diagram.new.store c.args.self.now c.diagram.ensures.gains c.requires.formulas)
    (record { holds = lt-ltb c.args.node.0 (length c.args.graph.now.facts) c.requires.valid; belongs = c.in-Ok.ensures.means.belongs; means = c.in-Ok.ensures.means.means })
    c.len-nodes.ensures.reduced

pub returns-clause-formulas : goal.returns-clause-formulas
returns-clause-formulas g c =
    let flow = node_flow c.args.graph.now in
    formulas-learned flow c.diagram.new.store.nodes c.args.self.now c.learn.new.self c.args.node.0 c.in-Ok.reference c.in_ok-learn.ensures.learned
    (formulas-stay (IsBaseOf flow c.args.node.0) flow c.args.store.now c.diagram.new.store c.args.self.now c.diagram.ensures.gains c.requires.formulas)
    (record { holds = lt-ltb c.args.node.0 (length c.args.graph.now.facts) c.requires.valid; belongs = c.in-Ok.ensures.means.belongs; means = c.in-Ok.ensures.means.means })

pub returns-in-Err-clause-full : goal.returns-in-Err-clause-full
returns-in-Err-clause-full g c = λ full.
    let is : c.in-Err.fault ≡ Full = cc in
    c.in-Err.ensures.full (ap Err is)

pub returns-in-Err-clause-gains : goal.returns-in-Err-clause-gains
returns-in-Err-clause-gains g c =
    c.diagram.ensures.gains

pub returns-in_err-learn-clause-gains : goal.returns-in_err-learn-clause-gains
returns-in_err-learn-clause-gains g c =
    c.diagram.ensures.gains

pub returns-in_err-learn-clause-still : goal.returns-in_err-learn-clause-still
returns-in_err-learn-clause-still g c =
    λ i r e. c.in_err-learn.ensures.known i ∙ e

pub returns-clause-gains : goal.returns-clause-gains
returns-clause-gains g c =
    c.diagram.ensures.gains
