use Rattle.std.proofs.Common.{◌≡◌, true, false, [], ◌∷◌, sym, ap, ◌∙◌, ◌==◌, if◌then◌else◌, arith, eq-eqb, ne_eqb, eqb-true}
use Rattle.std.proofs.lemmas.Bool.{false≢true}
use Rattle.nc_diagram.specs.Sets.{has, all_but}
use Rattle.nc_diagram.specs.Diagrams.{meaning}
use Rattle.nc_diagram.proofs.SetLemmas.{has-all_but_one}
use Rattle.nc_diagram.proofs.DiagramLemmas.{meaning-constant}
use Rattle.nc_diagram.proofs.store.Store.needs.Goals as goal

pub walk-preserved-then-node-v : goal.walk-preserved-then-node-v
walk-preserved-then-node-v c =
    let n = c.node-node.result in
    let s = all_but (c.args.v ∷ []) in
    let out : has s n.variable ≡ false = has-all_but_one c.args.v n.variable ∙ ap (λ b. if b then false else true) (eq-eqb n.variable c.args.v c.if-node-v.true) in
    record {
      belongs = omega (arith, c.node-node.ensures.low_older);
      value = c.walk.invariant.value ∙ c.node-node.ensures.value s ∙ ap (λ b. meaning c.args.self.now.nodes (if b then n.high else n.low) s) out;
    }

pub walk-preserved : goal.walk-preserved
walk-preserved c =
    let n = c.node-node.result in
    let s = all_but (c.args.v ∷ []) in
    let member : has s n.variable ≡ true = has-all_but_one c.args.v n.variable ∙ ap (λ b. if b then false else true) (ne_eqb n.variable c.args.v c.if-node-v.false) in
    record {
      belongs = omega (arith, c.node-node.ensures.high_older);
      value = c.walk.invariant.value ∙ c.node-node.ensures.value s ∙ ap (λ b. meaning c.args.self.now.nodes (if b then n.high else n.low) s) member;
    }

pub returns : goal.returns
returns c =
    let s = all_but (c.args.v ∷ []) in
    let value : meaning c.args.self.now.nodes c.args.r s ≡ (c.walk.place == 1) = c.walk.invariant.value ∙ meaning-constant c.args.self.now.nodes c.walk.place (omega arith) s in (
      λ t. (let e : c.walk.place ≡ 0 = eqb-true c.walk.place 0 t in value ∙ ap (λ r. r == 1) e),
      λ f. (let one : (c.walk.place ≡ 1 → ⊥) = λ e. false≢true (sym f ∙ value ∙ eq-eqb c.walk.place 1 e) in eq-eqb c.walk.place 0 (omega arith)),
    )
