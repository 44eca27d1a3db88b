use Rattle.std.proofs.Common.{◌≡◌, ◌≤◌, ◌<◌, ◌∙◌, true, false, ap, subst, length, rules}
use Rattle.nc_types.specs.Cidr.{same_prefix}
use Rattle.nc_policy.specs.Placing.{prefix_place_at}
use Rattle.nc_policy.proofs.KeyOrder.{none_behind, first_found, none_found, Parts}
use Rattle.nc_policy.proofs.SpotOrder.{prefixes}
use Rattle.nc_policy.proofs.prefix_places.PrefixPlaces.get.Goals as goal

pub returns-then-at-len : goal.returns-then-at-len
returns-then-at-len c =
    let items = c.self.inside.items.items in
    let prefix = c.args.prefix in
    let at = c.place_from-at.result in
    let point : Parts prefixes prefix at items = subst (Parts prefixes prefix at) c.deref.ensures.value c.place_from-at.ensures in
    let most : length items ≤ at = search rules in
    none_behind prefixes prefix items c.self.invariant at point most ∙ ap (prefix_place_at prefix) c.self.view_is

pub returns-then-eq : goal.returns-then-eq
returns-then-eq c =
    let items = c.self.inside.items.items in
    let prefix = c.args.prefix in
    let at = c.place_from-at.result in
    let point : Parts prefixes prefix at items = subst (Parts prefixes prefix at) c.deref.ensures.value c.place_from-at.ensures in
    let inside : at < length items = search rules in
    let same : same_prefix c.index-placed.result.now.prefix prefix ≡ true = search rules in
    first_found prefixes prefix items c.self.invariant at point c.index-placed.result.now c.index-placed.ensures inside (prefixes.same_back prefix c.index-placed.result.now.prefix ∙ same) ∙ ap (prefix_place_at prefix) c.self.view_is

pub returns-else-eq : goal.returns-else-eq
returns-else-eq c =
    let items = c.self.inside.items.items in
    let prefix = c.args.prefix in
    let at = c.place_from-at.result in
    let point : Parts prefixes prefix at items = subst (Parts prefixes prefix at) c.deref.ensures.value c.place_from-at.ensures in
    let inside : at < length items = search rules in
    let other : same_prefix c.index-placed.result.now.prefix prefix ≡ false = search rules in
    none_found prefixes prefix items c.self.invariant at point c.index-placed.result.now c.index-placed.ensures inside (prefixes.same_back prefix c.index-placed.result.now.prefix ∙ other) ∙ ap (prefix_place_at prefix) c.self.view_is
