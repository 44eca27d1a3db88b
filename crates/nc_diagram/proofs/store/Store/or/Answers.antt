use Rattle.std.proofs.Common.{◌≡◌, Err, ap, subst}
use Rattle.nc_diagram.specs.declared.fault.StoreFault.TheVariants.{Full}
use Rattle.nc_diagram.specs.Sets.{either}
use Rattle.nc_diagram.specs.Diagrams.{Adds, IsCrowded, meaning}
use Rattle.nc_diagram.proofs.store.Store.or.Goals as goal

pub returns-in-Ok-clause-adds : goal.returns-in-Ok-clause-adds
returns-in-Ok-clause-adds c =
    let old = c.args.self.now in
    let new = c.operate.new.self in
    subst (λ b. Adds (either (meaning old.nodes c.args.a) (meaning old.nodes b)) old new) c.b.view_is
    (subst (λ a. Adds (either (meaning old.nodes a) (meaning old.nodes c.b.inside.0)) old new) c.a.view_is c.in-Ok.ensures.adds)

pub returns-in-Err-clause-full : goal.returns-in-Err-clause-full
returns-in-Err-clause-full c = λ full.
    let old = c.args.self.now in
    let is : c.in-Err.fault ≡ Full = cc in
    subst (λ b. IsCrowded (either (meaning old.nodes c.args.a) (meaning old.nodes b)) old) c.b.view_is
    (subst (λ a. IsCrowded (either (meaning old.nodes a) (meaning old.nodes c.b.inside.0)) old) c.a.view_is (c.in-Err.ensures.full (ap Err is)))
