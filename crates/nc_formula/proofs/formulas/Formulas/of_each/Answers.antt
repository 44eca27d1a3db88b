use Rattle.std.proofs.Common.{◌≡◌, map, Err, ap, inl, ◌∙◌}
use Rattle.nc_graph.specs.Nodes.{node_flow}
use Rattle.nc_graph.proofs.Members.{of_all}
use Rattle.nc_diagram.specs.declared.fault.StoreFault.TheVariants.{Full}
use Rattle.nc_formula.specs.Parts.{IsBaseFrom, IsBaseOfTest}
use Rattle.nc_formula.specs.Formulas.{IsKnown, IsFirstEachKnown}
use Rattle.nc_formula.proofs.GainLemmas.{gains-wider, gains-more, crowded-wider, crowded-before}
use Rattle.nc_formula.proofs.NodeLemmas.{formulas-stay, have-references, each-is, test-bases}
use Rattle.nc_formula.proofs.formulas.Formulas.of_each.Goals as goal

pub each_of-requires : goal.each_of-requires
each_of-requires g c =
    have-references (node_flow c.args.graph.now) c.know_each.new.store.nodes c.know_each.new.self c.know_each.ensures.formulas c.args.nodes.now
    (λ p i. of_all (λ p. IsKnown c.know_each.new.self p.0) c.args.nodes.now p c.in-Ok.ensures.known i)

pub returns-in-Ok-each_of-clause-means : goal.returns-in-Ok-each_of-clause-means
returns-in-Ok-each_of-clause-means g c =
    let ids = c.args.nodes.now in
    let table = c.know_each.new.self in
    record {
      belongs = c.in-Ok-each_of.ensures.means.belongs;
      means = λ s. c.in-Ok-each_of.ensures.means.means s
          ∙ each-is (node_flow c.args.graph.now) c.know_each.new.store.nodes table c.know_each.ensures.formulas ids (λ p i. of_all (λ p. IsKnown table p.0) ids p c.in-Ok.ensures.known i) s;
    }

pub returns-in-Ok-each_of-clause-formulas : goal.returns-in-Ok-each_of-clause-formulas
returns-in-Ok-each_of-clause-formulas g c =
    formulas-stay (IsFirstEachKnown c.know_each.new.store.nodes c.know_each.new.self c.args.nodes.now) (node_flow c.args.graph.now) c.know_each.new.store c.each_of.new.store c.know_each.new.self
    c.each_of.ensures.gains c.know_each.ensures.formulas

pub returns-in-Ok-each_of-clause-gains : goal.returns-in-Ok-each_of-clause-gains
returns-in-Ok-each_of-clause-gains g c =
    let flow = node_flow c.args.graph.now in
    let ids = c.args.nodes.now in
    let roots = map (λ p. p.0) ids in
    let mid = c.know_each.new.store in
    let table = c.know_each.new.self in
    gains-more (IsBaseOfTest flow roots) c.args.store.now mid c.each_of.new.store
    (gains-wider (IsBaseFrom flow roots) (IsBaseOfTest flow roots) c.args.store.now mid (λ b w. inl w) c.know_each.ensures.gains)
    (gains-wider (IsFirstEachKnown mid.nodes table ids) (IsBaseOfTest flow roots) mid c.each_of.new.store
    (test-bases flow mid.nodes table c.know_each.ensures.formulas ids (λ p i. of_all (λ p. IsKnown table p.0) ids p c.in-Ok.ensures.known i)) c.each_of.ensures.gains)

pub returns-in-Err-each_of-clause-formulas : goal.returns-in-Err-each_of-clause-formulas
returns-in-Err-each_of-clause-formulas g c =
    formulas-stay (IsFirstEachKnown c.know_each.new.store.nodes c.know_each.new.self c.args.nodes.now) (node_flow c.args.graph.now) c.know_each.new.store c.each_of.new.store c.know_each.new.self
    c.each_of.ensures.gains c.know_each.ensures.formulas

pub returns-in-Err-each_of-clause-gains : goal.returns-in-Err-each_of-clause-gains
returns-in-Err-each_of-clause-gains g c =
    let flow = node_flow c.args.graph.now in
    let ids = c.args.nodes.now in
    let roots = map (λ p. p.0) ids in
    let mid = c.know_each.new.store in
    let table = c.know_each.new.self in
    gains-more (IsBaseOfTest flow roots) c.args.store.now mid c.each_of.new.store
    (gains-wider (IsBaseFrom flow roots) (IsBaseOfTest flow roots) c.args.store.now mid (λ b w. inl w) c.know_each.ensures.gains)
    (gains-wider (IsFirstEachKnown mid.nodes table ids) (IsBaseOfTest flow roots) mid c.each_of.new.store
    (test-bases flow mid.nodes table c.know_each.ensures.formulas ids (λ p i. of_all (λ p. IsKnown table p.0) ids p c.in-Ok.ensures.known i)) c.each_of.ensures.gains)

pub returns-in-Err-each_of-clause-full : goal.returns-in-Err-each_of-clause-full
returns-in-Err-each_of-clause-full g c = λ full.
    let flow = node_flow c.args.graph.now in
    let ids = c.args.nodes.now in
    let roots = map (λ p. p.0) ids in
    let mid = c.know_each.new.store in
    let table = c.know_each.new.self in
    let is : c.in-Err-each_of.fault ≡ Full = cc in
    crowded-before (IsBaseOfTest flow roots) c.args.store.now mid
    (gains-wider (IsBaseFrom flow roots) (IsBaseOfTest flow roots) c.args.store.now mid (λ b w. inl w) c.know_each.ensures.gains)
    (crowded-wider (IsFirstEachKnown mid.nodes table ids) (IsBaseOfTest flow roots) mid
    (test-bases flow mid.nodes table c.know_each.ensures.formulas ids (λ p i. of_all (λ p. IsKnown table p.0) ids p c.in-Ok.ensures.known i)) (c.in-Err-each_of.ensures.full (ap Err is)))

pub returns-in-Err-clause-gains : goal.returns-in-Err-clause-gains
returns-in-Err-clause-gains g c =
    gains-wider (IsBaseFrom (node_flow c.args.graph.now) (map (λ p. p.0) c.args.nodes.now)) (IsBaseOfTest (node_flow c.args.graph.now) (map (λ p. p.0) c.args.nodes.now)) c.args.store.now c.know_each.new.store (λ b w. inl w) c.know_each.ensures.gains

pub returns-in-Err-clause-full : goal.returns-in-Err-clause-full
returns-in-Err-clause-full g c = λ full.
    let is : c.in-Err.fault ≡ Full = cc in
    crowded-wider (IsBaseFrom (node_flow c.args.graph.now) (map (λ p. p.0) c.args.nodes.now)) (IsBaseOfTest (node_flow c.args.graph.now) (map (λ p. p.0) c.args.nodes.now)) c.args.store.now (λ b w. inl w) (c.in-Err.ensures.full (ap Err is))
