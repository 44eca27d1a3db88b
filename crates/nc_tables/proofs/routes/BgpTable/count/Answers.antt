use Rattle.std.proofs.Common.{All, subst}
use Rattle.std.proofs.lemmas.List.Elements.{All-map}
use Rattle.nc_tables.specs.Rounds.{AreBgpRows}
use Rattle.nc_tables.specs.SpreadView.{rows_by_places}
use Rattle.nc_tables.proofs.Spread.{rows_are}
use Rattle.nc_tables.proofs.routes.BgpTable.count.Goals as goal

pub returns-clause-valid : goal.returns-clause-valid
returns-clause-valid c =
    let t = c.self.inside in
    let ps = t.prefixes.items in
    let ks = t.places.items in
    let placed = c.self.invariant.0 in
    subst (All AreBgpRows) c.self.view_is
    (All-map AreBgpRows (rows_by_places ps ks) t.routers.items (λ k d lt.
    let kept = c.self.invariant.1 k d lt in
    rows_are _ _ ps ks placed.ordered placed.valid placed.count kept.own kept.few))
