use Rattle.std.proofs.Common.{◌≡◌, ◌<◌, [], All, List, length, get_or, replicate, refl, ap, ◌∙◌, arith}
use Rattle.std.proofs.lemmas.Option.{get_or_from_slice_get}
use Rattle.nc_tables.specs.LocRibs.{LocRibsView}
use Rattle.nc_tables.specs.Rounds.{BgpRowView}
use Rattle.nc_tables.proofs.Tables.{all_kept, none_own, tables_themselves}
use Rattle.nc_tables.proofs.ribs.LocRibs.into_table.Goals as goal
use Rattle.nc_tables.proofs.ribs.LocRibs.into_table.Goals.{In_ok-routers}

-- each place is that of the prefix itself
within : (c : In_ok-routers) → All (λ place. place < length c.self.inside.prefixes.items) c.in_ok-places.places.items
within c k d lt =
    let places = c.in_ok-places.places.items in
    let less : k < length c.self.inside.prefixes.items = omega (arith, c.in_ok-places.ensures.count) in
    let is : get_or places k d ≡ k = get_or_from_slice_get places k k d (c.in_ok-places.ensures.each k (omega (arith, c.in_ok-places.ensures.count))) in
    omega (arith, is, less)

pub of-requires-clause-kept : goal.of-requires-clause-kept
of-requires-clause-kept c =
    let inside = c.self.inside in
    let ps = inside.prefixes.items in
    all_kept c.in_ok-places.places.items (length ps) (within c) c.in_ok-routers.routers.items inside.routers.items c.in_ok-own.own.items ps refl c.in_ok-routers.ensures.standing c.in_ok-routers.ensures.own c.self.invariant.1
    (none_own c.in_ok-own.own.items (length inside.routers.items) (c.in_ok-own.ensures ∙ ap (λ n. replicate {A = List BgpRowView} n []) (let count : c.len-2.result ≡ length inside.routers.items = omega (arith, c.len-2.ensures) in count)))

pub returns : goal.returns
returns c =
    let inside = c.self.inside in
    let ps = inside.prefixes.items in
    let count : length c.in_ok-places.places.items ≡ length ps = omega (arith, c.in_ok-places.ensures.count) in
    c.of.ensures
    ∙ tables_themselves ps c.in_ok-places.places.items count (λ k lt. c.in_ok-places.ensures.each k (omega arith)) c.in_ok-routers.routers.items inside.routers.items c.in_ok-routers.ensures.standing
    (c.in_ok-routers.ensures.own ∙ c.in_ok-own.ensures ∙ ap (λ n. replicate {A = List BgpRowView} n []) (let count : c.len-2.result ≡ length inside.routers.items = omega (arith, c.len-2.ensures) in count)) c.self.invariant.1
    ∙ ap (λ (v : LocRibsView). v.rows) c.self.view_is
