use Rattle.std.proofs.Common.{All, get_or, subst}
use Rattle.std.proofs.lemmas.List.Elements.{All-map}
use Rattle.nc_tables.specs.LocRibs.{AreChosen, LocRibsView}
use Rattle.nc_tables.proofs.Choices.{seen, some_by, up_by}
use Rattle.nc_tables.proofs.ribs.LocRibs.count.Goals as goal

pub returns-clause-valid : goal.returns-clause-valid
returns-clause-valid c =
    let ps = c.self.inside.prefixes.items in
    subst (λ (v : LocRibsView). All AreChosen v.rows) c.self.view_is
    (All-map AreChosen (seen ps) c.self.inside.routers.items (λ k d lt. record { ordered = up_by ps (get_or c.self.inside.routers.items k d).items c.self.invariant.0; some = some_by ps (get_or c.self.inside.routers.items k d).items }))
