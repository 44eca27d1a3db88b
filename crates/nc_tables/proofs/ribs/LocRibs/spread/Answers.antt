use Rattle.std.proofs.Common.{◌≡◌, ◌<◌, ℕ, [], All, List, Vec, Global, Some, length, map, get_or, slice_get, refl, sym, ap, subst, ◌∙◌}
use Rattle.std.proofs.lemmas.List.{length-map}
use Rattle.nc_types.specs.Cidr.{Cidr}
use Rattle.nc_types.proofs.Members.{contains_by_in}
use Rattle.nc_tables.specs.declared.bgp.Chosen.{Chosen}
use Rattle.nc_tables.specs.LocRibs.{rows_by, LocRibsView}
use Rattle.nc_tables.specs.Rounds.{BgpRowView, chosen_at, chosen_in}
use Rattle.nc_tables.specs.Spread.{with_prefix, chosen_or, choices_of, spread_rows}
use Rattle.nc_tables.specs.SpreadView.{rows_by_places}
use Rattle.nc_tables.proofs.Choices.{nowhere}
use Rattle.nc_tables.proofs.Spread.{chosen_by_number}
use Rattle.nc_tables.proofs.Tables.{all_kept, items_of, own_rows, router_rows, standing_chosen, standing_kept}
use Rattle.nc_tables.proofs.ribs.LocRibs.spread.Goals as goal
use Rattle.nc_tables.proofs.ribs.LocRibs.spread.Goals.{After-drop-self-inside-2}

pub of-requires-clause-kept : goal.of-requires-clause-kept
of-requires-clause-kept c =
    let inside = c.self.inside in
    let ps = inside.prefixes.items in
    let prefixes : c.args.self.prefixes ≡ ps = sym (ap (λ (v : LocRibsView). v.prefixes) c.self.view_is) in
    all_kept c.args.places.items (length ps) (subst (λ (l : List Cidr). All (λ (place : ℕ). place < length l) c.args.places.items) prefixes c.requires.within) c.in_ok-routers.routers.items inside.routers.items c.args.own.items ps refl
    c.in_ok-routers.ensures.standing c.in_ok-routers.ensures.own c.self.invariant.1 c.requires.own

pub returns-clause-count : goal.returns-clause-count
returns-clause-count c =
    let inside = c.self.inside in
    let all = c.in_ok-routers.routers.items in
    ap (λ (t : List (List BgpRowView)). length t) c.of.ensures
    ∙ length-map all (rows_by_places c.args.prefixes.items c.args.places.items)
    ∙ sym (length-map all standing_kept)
    ∙ ap (λ (l : List (List (List Chosen))). length l) c.in_ok-routers.ensures.standing
    ∙ length-map inside.routers.items items_of
    ∙ sym (length-map inside.routers.items (λ (t : Vec (List Chosen) Global). rows_by inside.prefixes.items t.items))
    ∙ ap (λ (v : LocRibsView). length v.rows) c.self.view_is

-- the rows of a router
rows_at : (c : After-drop-self-inside-2) (router : ℕ)
    → get_or c.of.result router [] ≡ spread_rows (get_or (map own_rows c.args.own.items) router []) (get_or (map items_of c.self.inside.routers.items) router []) c.args.prefixes.items c.args.places.items
rows_at c router =
    let ps = c.args.prefixes.items in
    let ks = c.args.places.items in
    let all = c.in_ok-routers.routers.items in
    ap (λ (t : List (List BgpRowView)). get_or t router []) c.of.ensures
    ∙ router_rows ps ks all router
    ∙ ap (λ (l : List (List BgpRowView)). spread_rows (get_or l router []) (get_or (map standing_kept all) router []) ps ks) c.in_ok-routers.ensures.own
    ∙ ap (λ (l : List (List (List Chosen))). spread_rows (get_or (map own_rows c.args.own.items) router []) (get_or l router []) ps ks) c.in_ok-routers.ensures.standing

pub returns-clause-chosen : goal.returns-clause-chosen
returns-clause-chosen c router k place q p at there stands =
    let inside = c.self.inside in
    let own = get_or (map own_rows c.args.own.items) router [] in
    let standing = get_or (map items_of inside.routers.items) router [] in
    let known : slice_get inside.prefixes.items place ≡ Some p = ap (λ (v : LocRibsView). slice_get v.prefixes place) c.self.view_is ∙ stands in
    ap (λ (rows : List BgpRowView). chosen_in rows q) (rows_at c router)
    ∙ chosen_by_number own standing c.args.prefixes.items c.args.places.items k q place c.requires.ordered c.requires.count at there
    ∙ ap (λ (l : List Chosen). map (with_prefix q) (chosen_or own q l)) (sym (standing_chosen inside.prefixes.items inside.routers.items router place p c.self.invariant.0 c.self.invariant.1 known) ∙ ap (λ (v : LocRibsView). chosen_at v.rows router p) c.self.view_is)

pub returns-clause-others : goal.returns-clause-others
returns-clause-others c router q out =
    let ps = c.args.prefixes.items in
    ap (λ (rows : List BgpRowView). chosen_in rows q) (rows_at c router)
    ∙ nowhere ps (choices_of (get_or (map own_rows c.args.own.items) router []) (get_or (map items_of c.self.inside.routers.items) router []) ps c.args.places.items) q (λ i. out (contains_by_in ps q i))
