use Rattle.std.proofs.Common.{◌<◌, List, Vec, Global, [], length, map, get_or, sym, ap, ◌∙◌, arith}
use Rattle.std.proofs.lemmas.List.{length-map}
use Rattle.nc_types.specs.Cidr.{Cidr}
use Rattle.nc_tables.specs.declared.bgp.Chosen.{Chosen}
use Rattle.nc_tables.specs.LocRibs.{rows_by, LocRibsView}
use Rattle.nc_tables.specs.Rounds.{BgpRowView, has_longer}
use Rattle.nc_tables.proofs.Choices.{router_are, router_seen, seen}
use Rattle.nc_tables.proofs.ribs.LocRibs.has_longer.Goals as goal

pub has_chosen_inside-requires-clause-count : goal.has_chosen_inside-requires-clause-count
has_chosen_inside-requires-clause-count c =
    let ps = c.self.inside.prefixes.items in
    let tables = c.self.inside.routers.items in
    let lt : c.args.router.0 < length tables = omega (arith, length-map tables (seen ps), ap (λ (v : LocRibsView). length v.rows) c.self.view_is, c.requires) in
    let read = c.rows_at.ensures ∙ ap (λ (ts : List (Vec (List Chosen) Global)). get_or (map (λ (t : Vec (List Chosen) Global). t.items) ts) c.args.router.0 []) c.deref-2.ensures.value in
    let are = router_are ps tables c.args.router.0 c.rows_at.result.now lt read c.self.invariant.1 in
    are.count ∙ sym (ap (length {A = Cidr}) c.deref.ensures.value)

pub returns : goal.returns
returns c =
    let ps = c.self.inside.prefixes.items in
    let tables = c.self.inside.routers.items in
    let lt : c.args.router.0 < length tables = omega (arith, length-map tables (seen ps), ap (λ (v : LocRibsView). length v.rows) c.self.view_is, c.requires) in
    let read = c.rows_at.ensures ∙ ap (λ (ts : List (Vec (List Chosen) Global)). get_or (map (λ (t : Vec (List Chosen) Global). t.items) ts) c.args.router.0 []) c.deref-2.ensures.value in
    c.has_chosen_inside.ensures
    ∙ ap (λ (l : List Cidr). has_longer (rows_by l c.rows_at.result.now) c.args.outer) c.deref.ensures.value
    ∙ ap (λ (rows : List BgpRowView). has_longer rows c.args.outer) (router_seen ps tables c.args.router.0 c.rows_at.result.now lt read)
    ∙ ap (λ (v : LocRibsView). has_longer (get_or v.rows c.args.router.0 []) c.args.outer) c.self.view_is
