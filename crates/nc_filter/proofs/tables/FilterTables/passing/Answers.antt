use Rattle.std.proofs.Common.{◌≡◌, ◌<◌, ℕ, List, Option, Some, length, ap, sym, ◌∙◌, arith}
use Rattle.std.specs.Prelude.{slice_get}
use Rattle.std.specs.Option.{option_map_or}
use Rattle.std.proofs.lemmas.Option.{slice_get-get_or, slice_get_within}
use Rattle.nc_types.specs.declared.addr.Addr.{Addr}
use Rattle.nc_types.specs.Config.{ConfigView, config_view}
use Rattle.nc_tables.specs.Filters.{group_of, passing, passing_by}
use Rattle.nc_tables.specs.declared.filters.Passing.TheVariants.{Free}
use Rattle.nc_filter.specs.Tables.{AreFilters, IsOf}
use Rattle.nc_filter.specs.declared.tables.FilterTables.{FilterTables}
use Rattle.nc_filter.specs.declared.tables.RouterFilters.{RouterFilters}
use Rattle.std.specs.List.{slice_index_or}
use Rattle.nc_filter.proofs.Saying.{gate_itself, gated, unfiltered}
use Rattle.nc_filter.proofs.tables.FilterTables.passing.Goals as goal

-- the tables of a router
tables_of : (routers : List ConfigView) (tables : FilterTables) → AreFilters routers tables → (router : ℕ) (c : ConfigView) (filters : RouterFilters) → slice_get routers router ≡ Some c
    → filters ≡ slice_index_or tables.routers.items router filters → IsOf c filters
tables_of routers tables are router c filters at read =
    let within : router < length tables.routers.items = omega (arith, slice_get_within routers router c at, are.count) in
    are.each router c filters at (slice_get-get_or tables.routers.items router filters within ∙ ap Some (sym read))

pub passing_in-requires-clause-index : goal.passing_in-requires-clause-index
passing_in-requires-clause-index c =
    (tables_of c.args.network.now c.args.self.now c.requires c.args.router.0 (config_view c.in-Some.config.now) c.index-filters.result.now (sym c.in-Some.ensures.config) c.index-filters.ensures).index

pub passing_in-requires-clause-gate : goal.passing_in-requires-clause-gate
passing_in-requires-clause-gate c =
    let view = config_view c.in-Some.config.now in
    let tables = tables_of c.args.network.now c.args.self.now c.requires c.args.router.0 view c.index-filters.result.now (sym c.in-Some.ensures.config) c.index-filters.ensures in
    gate_itself view (group_of view c.args.iface.0 c.args.inward) c.in-Some-gate_at.gate (sym (c.gate_at.ensures view tables) ∙ c.in-Some-gate_at.is)

pub returns-in_default-gate_at-clause-passing : goal.returns-in_default-gate_at-clause-passing
returns-in_default-gate_at-clause-passing c =
    let view = config_view c.in-Some.config.now in
    let tables = tables_of c.args.network.now c.args.self.now c.requires c.args.router.0 view c.index-filters.result.now (sym c.in-Some.ensures.config) c.index-filters.ensures in
    unfiltered c.args.from.0 c.args.to.0 view c.args.iface.0 c.args.inward (sym (c.gate_at.ensures view tables) ∙ c.in_default-gate_at.is)
    ∙ ap (λ (o : Option ConfigView). option_map_or (λ d. passing c.args.from.0 c.args.to.0 d c.args.iface.0 c.args.inward) o Free) c.in-Some.ensures.config

pub returns-clause-passing : goal.returns-clause-passing
returns-clause-passing c =
    let view = config_view c.in-Some.config.now in
    let tables = tables_of c.args.network.now c.args.self.now c.requires c.args.router.0 view c.index-filters.result.now (sym c.in-Some.ensures.config) c.index-filters.ensures in
    let gate = c.in-Some-gate_at.gate in
    let kept = c.turn_to.new.self in
    let said = c.in_ok-passing.ensures.passing
    ∙ ap (λ (a : Addr). option_map_or (passing_by a.0 kept.to.0 view gate.group) (slice_get view.groups gate.group) Free) c.turn_to.ensures.from
    ∙ ap (λ (a : Addr). option_map_or (passing_by c.args.from.0 a.0 view gate.group) (slice_get view.groups gate.group) Free) c.turn_to.ensures.to in
    gated c.args.from.0 c.args.to.0 view c.args.iface.0 c.args.inward gate c.in_ok-passing.passing (sym (c.gate_at.ensures view tables) ∙ c.in-Some-gate_at.is) said
    ∙ ap (λ (o : Option ConfigView). option_map_or (λ d. passing c.args.from.0 c.args.to.0 d c.args.iface.0 c.args.inward) o Free) c.in-Some.ensures.config
