use Rattle.std.proofs.Common.{◌≡◌, List, length, map, sym, ap, subst, ◌∙◌}
use Rattle.nc_types.specs.Cidr.{Cidr}
use Rattle.nc_types.specs.declared.config.NetworkStatement.{NetworkStatement}
use Rattle.nc_tables.specs.Base.{prefix_cmp}
use Rattle.nc_tables.specs.LocRibs.{Ascend}
use Rattle.nc_tables.specs.Order.{in_order}
use Rattle.nc_tables.specs.Rounds.{distinct}
use Rattle.nc_round.specs.Likeness.{networks_at, AreMade, AreOwnRows}
use Rattle.nc_round.proofs.Expanding.{made_choices, own_are}
use Rattle.nc_round.proofs.NextRows.{ordered_up}
use Rattle.nc_round.proofs.expansion.own_rows.Goals as goal

abbrev prefixes_in : List NetworkStatement → List Cidr
prefixes_in networks = in_order prefix_cmp (distinct (map (λ n. n.prefix) networks))

module _ (second items : List Cidr) (networks own : List NetworkStatement) (value : second ≡ items) (sorted : items ≡ prefixes_in networks) (is : networks ≡ own) where
  they_are : second ≡ prefixes_in own
  they_are = value ∙ sorted ∙ ap prefixes_in is

  up : Ascend second
  up = subst Ascend (sym they_are) (ordered_up (map (λ n. n.prefix) own))

pub rows_of-requires-clause-ordered : goal.rows_of-requires-clause-ordered
rows_of-requires-clause-ordered c =
    up c.deref-2.result.now c.in_ok-prefixes.prefixes.items c.networks_of.result.now (networks_at c.args.inputs.now.network.now c.args.router.0) c.deref-2.ensures.value c.in_ok-prefixes.ensures c.networks_of.ensures

pub rows_of-requires-clause-choices : goal.rows_of-requires-clause-choices
rows_of-requires-clause-choices c =
    let routers = c.args.inputs.now.network.now in
    let l = c.args.likeness.now in
    let table = c.args.ribs.now.rows in
    let css = c.in_ok-choices.choices.items in
    let same : c.deref.result.now ≡ c.deref-2.result.now = c.deref.ensures.value ∙ sym c.deref-2.ensures.value in
    made_choices routers l table c.args.router.0 c.deref-2.result.now css (c.in_ok-choices.ensures.count ∙ ap (λ (ps : List Cidr). length ps) same)
    (subst (λ (ps : List Cidr). AreMade routers l table c.args.router.0 ps css) same c.in_ok-choices.ensures.made)

pub returns-clause-own : goal.returns-clause-own
returns-clause-own c =
    let routers = c.args.inputs.now.network.now in
    let l = c.args.likeness.now in
    let table = c.args.ribs.now.rows in
    let router = c.args.router.0 in
    let css = c.in_ok-choices.choices.items in
    let ps = c.deref-2.result.now in
    let items = c.in_ok-prefixes.prefixes.items in
    let networks = c.networks_of.result.now in
    let same : c.deref.result.now ≡ ps = c.deref.ensures.value ∙ sym c.deref-2.ensures.value in
    let own = networks_at routers router in
    subst (AreOwnRows routers l table router) (sym c.in_ok-rows.ensures.rows)
    (own_are routers l table router ps css (up ps items networks own c.deref-2.ensures.value c.in_ok-prefixes.ensures c.networks_of.ensures) (c.in_ok-choices.ensures.count ∙ ap (λ (qs : List Cidr). length qs) same)
    (subst (λ (qs : List Cidr). AreMade routers l table router qs css) same c.in_ok-choices.ensures.made)
    (they_are ps items networks own c.deref-2.ensures.value c.in_ok-prefixes.ensures c.networks_of.ensures))
