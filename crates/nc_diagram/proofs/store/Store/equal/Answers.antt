use Rattle.std.proofs.Common.{◌≡◌, sym, ap, ◌∙◌, eq-eqb, eqb-true}
use Rattle.nc_diagram.specs.Diagrams.{meaning, IsReduced}
use Rattle.nc_diagram.proofs.Canonicity.{canonical}
use Rattle.nc_diagram.proofs.store.Store.equal.Goals as goal

pub returns : goal.returns
returns c =
    let reduced : IsReduced c.args.self.now.nodes = c.checked.ensures in
    let same : (c.args.a ≡ c.args.b → c.a.inside.0 ≡ c.b.inside.0) = λ e. c.a.view_is ∙ e ∙ sym c.b.view_is in (
      λ t s. (let e : c.args.a ≡ c.args.b = sym c.a.view_is ∙ eqb-true c.a.inside.0 c.b.inside.0 t ∙ c.b.view_is in ap (λ r. meaning c.args.self.now.nodes r s) e),
      λ h. eq-eqb c.a.inside.0 c.b.inside.0 (same (canonical c.args.self.now.nodes reduced c.args.a c.args.b c.requires.left c.requires.right h)),
    )
