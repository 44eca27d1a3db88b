use Rattle.std.proofs.Common.{◌≡◌, ◌<◌, List, Vec, Global, [], Some, All, length, map, get_or, slice_get, sym, ap, subst, ◌∙◌, arith}
use Rattle.std.proofs.lemmas.List.{length-map}
use Rattle.std.proofs.lemmas.Option.{slice_get-get_or, slice_get_within}
use Rattle.nc_tables.specs.declared.bgp.Chosen.{Chosen}
use Rattle.nc_tables.specs.LocRibs.{AreChoices, LocRibsView}
use Rattle.nc_tables.specs.Rounds.{BgpRowView, chosen_at, chosen_in}
use Rattle.nc_tables.proofs.Choices.{at_number, router_are, router_seen, seen}
use Rattle.nc_tables.proofs.ribs.LocRibs.chosen.Goals as goal

within : (c : goal.After-choice_at) → c.args.router.0 < length c.self.inside.routers.items
within c = omega (arith, length-map c.self.inside.routers.items (seen c.self.inside.prefixes.items), ap (λ (v : LocRibsView). length v.rows) c.self.view_is, c.requires.router)

read : (c : goal.After-choice_at) → c.rows_at.result.now ≡ get_or (map (λ (t : Vec (List Chosen) Global). t.items) c.self.inside.routers.items) c.args.router.0 []
read c = c.rows_at.ensures ∙ ap (λ (ts : List (Vec (List Chosen) Global)). get_or (map (λ (t : Vec (List Chosen) Global). t.items) ts) c.args.router.0 []) c.deref.ensures.value

are : (c : goal.After-choice_at) → AreChoices c.self.inside.prefixes.items c.rows_at.result.now
are c = router_are c.self.inside.prefixes.items c.self.inside.routers.items c.args.router.0 c.rows_at.result.now (within c) (read c) c.self.invariant.1

at : (c : goal.After-choice_at) → slice_get c.self.inside.prefixes.items c.args.of.number ≡ Some c.args.of.prefix
at c = ap (λ (v : LocRibsView). slice_get v.prefixes c.args.of.number) c.self.view_is ∙ c.requires.number

pub choice_at-requires : goal.choice_at-requires
choice_at-requires c =
    let ps = c.self.inside.prefixes.items in
    let tables = c.self.inside.routers.items in
    let lt : c.args.router.0 < length tables = omega (arith, length-map tables (seen ps), ap (λ (v : LocRibsView). length v.rows) c.self.view_is, c.requires.router) in
    let read = c.rows_at.ensures ∙ ap (λ (ts : List (Vec (List Chosen) Global)). get_or (map (λ (t : Vec (List Chosen) Global). t.items) ts) c.args.router.0 []) c.deref.ensures.value in
    let are = router_are ps tables c.args.router.0 c.rows_at.result.now lt read c.self.invariant.1 in
    let at = ap (λ (v : LocRibsView). slice_get v.prefixes c.args.of.number) c.self.view_is ∙ c.requires.number in
    omega (arith, slice_get_within ps c.args.of.number c.args.of.prefix at, are.count)

pub returns-clause-chosen : goal.returns-clause-chosen
returns-clause-chosen c =
    let ps = c.self.inside.prefixes.items in
    let css = c.rows_at.result.now in
    c.choice_at.ensures
    ∙ sym (at_number ps css c.args.of.number c.args.of.prefix c.self.invariant.0 (are c).count (at c))
    ∙ ap (λ (rows : List BgpRowView). chosen_in rows c.args.of.prefix) (router_seen ps c.self.inside.routers.items c.args.router.0 c.rows_at.result.now (within c) (read c))
    ∙ ap (λ (v : LocRibsView). chosen_at v.rows c.args.router.0 c.args.of.prefix) c.self.view_is

pub returns-clause-own : goal.returns-clause-own
returns-clause-own c =
    let ps = c.self.inside.prefixes.items in
    let css = c.rows_at.result.now in
    let number = c.args.of.number in
    let lt : number < length css = omega (arith, slice_get_within ps number c.args.of.prefix (at c), (are c).count) in
    subst (λ (cs : List Chosen). All (λ x. x.route.prefix ≡ c.args.of.prefix) cs) (sym c.choice_at.ensures) ((are c).own number c.args.of.prefix (get_or css number []) (at c) (slice_get-get_or css number [] lt))
