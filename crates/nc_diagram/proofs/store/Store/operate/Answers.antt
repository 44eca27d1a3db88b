use Rattle.std.proofs.Common.{sym, subst}
use Rattle.nc_diagram.specs.Diagrams.{Diagrams}
use Rattle.nc_diagram.specs.Table.{AreRight}
use Rattle.nc_diagram.proofs.store.Store.operate.Goals as goal

pub apply-requires-clause-right : goal.apply-requires-clause-right
apply-requires-clause-right c =
    subst (λ (d : Diagrams). AreRight d.nodes c.args.operator c.lend-known.result.slots.items) (sym c.lend-known.ensures.unchanged) c.lend-known.ensures.right

pub take_back-requires : goal.take_back-requires
take_back-requires c = c.end.ensures c.apply.new.self.nodes c.args.operator c.in-Ok.ensures.right
