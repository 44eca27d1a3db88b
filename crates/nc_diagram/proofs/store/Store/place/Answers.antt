use Rattle.std.proofs.Common.{◌≡◌, ◌↔◌, false, true, sym, subst}
use Rattle.nc_diagram.specs.Sets.{Same}
use Rattle.nc_diagram.specs.Diagrams.{meaning}
use Rattle.nc_diagram.proofs.PartLemmas.{never-is, always-is}
use Rattle.nc_diagram.proofs.store.Store.place.Goals as goal

pub returns-clause-never : goal.returns-clause-never
returns-clause-never c =
    let nodes = c.args.self.now.nodes in
    subst (λ p. (p ≡ 0) ↔ Same (meaning nodes c.args.r) (λ _. false)) (sym c.r.view_is) (never-is nodes c.checked.ensures c.args.r c.requires)

pub returns-clause-always : goal.returns-clause-always
returns-clause-always c =
    let nodes = c.args.self.now.nodes in
    subst (λ p. (p ≡ 1) ↔ Same (meaning nodes c.args.r) (λ _. true)) (sym c.r.view_is) (always-is nodes c.checked.ensures c.args.r c.requires)
