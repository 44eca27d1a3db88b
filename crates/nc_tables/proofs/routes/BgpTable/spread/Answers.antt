use Rattle.std.proofs.Common.{◌<◌, List, length, sym, ap, subst, arith}
use Rattle.std.proofs.lemmas.List.{length-map}
use Rattle.nc_tables.specs.Rounds.{BgpRowView}
use Rattle.nc_tables.specs.SpreadView.{rows_by_places, AreKept}
use Rattle.nc_tables.proofs.routes.BgpTable.spread.Goals as goal

pub returns-clause-spread : goal.returns-clause-spread
returns-clause-spread c =
    let t = c.self.inside in
    let choices = c.index-choices.result.now in
    let lt : c.args.router.0 < length t.routers.items = omega (arith, length-map t.routers.items (rows_by_places t.prefixes.items t.places.items), ap (λ (rows : List (List BgpRowView)). length rows) c.self.view_is, c.requires) in
    let kept : AreKept t.places.items choices = subst (AreKept t.places.items) (sym c.index-choices.ensures) (c.self.invariant.1 c.args.router.0 choices lt) in (
      rw (c.deref.ensures.value, c.deref-2.ensures.value) c.self.invariant.0,
      rw (c.deref-2.ensures.value, c.deref-3.ensures.value, c.deref-4.ensures.value) kept,
    )
