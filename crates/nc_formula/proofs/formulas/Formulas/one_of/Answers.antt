use Rattle.std.proofs.Common.{◌≡◌, ◌+◌, ◌∙◌, Err, ap, take}
use Rattle.nc_diagram.specs.declared.fault.StoreFault.TheVariants.{Full}
use Rattle.nc_diagram.specs.Sets.{Same, either}
use Rattle.nc_diagram.specs.Diagrams.{meaning}
use Rattle.nc_formula.specs.Formulas.{one_known, IsFirstOneKnown}
use Rattle.nc_formula.proofs.GainLemmas.{Bases, gains-more, gains-adds, crowded-by, crowded-before}
use Rattle.nc_formula.proofs.JoinLemmas.{belongs-now, joined-one}
use Rattle.nc_formula.proofs.formulas.Formulas.one_of.Goals as goal

pub reference-one-requires : goal.reference-one-requires
reference-one-requires c =
    let h = c.requires c.nodes.node-index (record { 0 = 0 }) c.nodes-test.true in
    (h.0, h.1, (c.nodes.invariant.gains.unchanged h.0 h.2).0)

pub or-requires-clause-right : goal.or-requires-clause-right
or-requires-clause-right c =
    belongs-now (IsFirstOneKnown c.args.store.now.nodes c.args.self.now c.args.nodes.now) c.args.store.now c.nodes.store c.nodes.invariant.gains c.args.self.now c.args.nodes.now c.nodes.node-index 0 c.reference-one.result
    (record { 0 = 0 }) c.nodes-test.true (c.requires c.nodes.node-index (record { 0 = 0 }) c.nodes-test.true) c.reference-one.ensures

pub returns-in-Err-clause-full : goal.returns-in-Err-clause-full
returns-in-Err-clause-full c = λ full.
    let old = c.args.store.now in
    let now = c.nodes.store in
    let ids = c.args.nodes.now in
    let A : Bases = IsFirstOneKnown old.nodes c.args.self.now ids in
    let k = c.nodes.node-index in
    let is : c.in-Err.fault ≡ Full = cc in
    let base = joined-one A old now c.nodes.invariant.gains c.args.self.now ids k c.nodes.any c.reference-one.result (record { 0 = 0 }) c.nodes-test.true
    (c.requires k (record { 0 = 0 }) c.nodes-test.true) c.reference-one.ensures c.nodes.invariant.means.means in
    crowded-before A old now c.nodes.invariant.gains
    (crowded-by A (either (meaning now.nodes c.nodes.any) (meaning now.nodes c.reference-one.result)) now (k + 1, base) (c.in-Err.ensures.full (ap Err is)))

pub nodes-preserved : goal.nodes-preserved
nodes-preserved c =
    let old = c.args.store.now in
    let now = c.nodes.store in
    let ids = c.args.nodes.now in
    let A : Bases = IsFirstOneKnown old.nodes c.args.self.now ids in
    let k = c.nodes.node-index in
    let base : Same (either (meaning now.nodes c.nodes.any) (meaning now.nodes c.reference-one.result)) (one_known old.nodes c.args.self.now (take (k + 1) ids)) =
    joined-one A old now c.nodes.invariant.gains c.args.self.now ids k c.nodes.any c.reference-one.result (record { 0 = 0 }) c.nodes-test.true
    (c.requires k (record { 0 = 0 }) c.nodes-test.true) c.reference-one.ensures c.nodes.invariant.means.means in
    record {
      means = record { belongs = c.in-Ok.ensures.means.belongs; means = λ s. c.in-Ok.ensures.means.means s ∙ base s };
      gains = gains-more A old now c.or.new.self c.nodes.invariant.gains
          (gains-adds A (either (meaning now.nodes c.nodes.any) (meaning now.nodes c.reference-one.result)) now c.or.new.self (k + 1, base) c.in-Ok.ensures.adds);
    }
