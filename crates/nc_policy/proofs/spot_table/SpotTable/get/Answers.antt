use Rattle.std.proofs.Common.{◌≡◌, ◌≤◌, ◌<◌, ◌∙◌, true, false, ap, subst, length, rules}
use Rattle.nc_policy.specs.Placing.{same_spot, place_at}
use Rattle.nc_policy.proofs.KeyOrder.{none_behind, first_found, none_found, Parts}
use Rattle.nc_policy.proofs.SpotOrder.{spots}
use Rattle.nc_policy.proofs.spot_table.SpotTable.get.Goals as goal

pub returns-then-at-len : goal.returns-then-at-len
returns-then-at-len c =
    let items = c.self.inside.items.items in
    let spot = c.args.spot in
    let at = c.place_from-at.result in
    let point : Parts spots spot at items = subst (Parts spots spot at) c.deref.ensures.value c.place_from-at.ensures in
    let most : length items ≤ at = search rules in
    none_behind spots spot items c.self.invariant at point most ∙ ap (place_at spot) c.self.view_is

pub returns-then-eq : goal.returns-then-eq
returns-then-eq c =
    let items = c.self.inside.items.items in
    let spot = c.args.spot in
    let at = c.place_from-at.result in
    let point : Parts spots spot at items = subst (Parts spots spot at) c.deref.ensures.value c.place_from-at.ensures in
    let inside : at < length items = search rules in
    let same : same_spot c.index-placed.result.now.spot spot ≡ true = search rules in
    first_found spots spot items c.self.invariant at point c.index-placed.result.now c.index-placed.ensures inside (spots.same_back spot c.index-placed.result.now.spot ∙ same) ∙ ap (place_at spot) c.self.view_is

pub returns-else-eq : goal.returns-else-eq
returns-else-eq c =
    let items = c.self.inside.items.items in
    let spot = c.args.spot in
    let at = c.place_from-at.result in
    let point : Parts spots spot at items = subst (Parts spots spot at) c.deref.ensures.value c.place_from-at.ensures in
    let inside : at < length items = search rules in
    let other : same_spot c.index-placed.result.now.spot spot ≡ false = search rules in
    none_found spots spot items c.self.invariant at point c.index-placed.result.now c.index-placed.ensures inside (spots.same_back spot c.index-placed.result.now.spot ∙ other) ∙ ap (place_at spot) c.self.view_is
