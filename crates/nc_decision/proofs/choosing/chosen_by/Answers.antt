use Rattle.std.proofs.Common.{◌+◌, ◌++◌, ◌≤◌, ℕ, Bool, false, ◌==◌, eqb-true, List, Option, All, length, sym, ap, subst, ◌∙◌, arith}
use Rattle.std.specs.List.{filter_map, slice_get}
use Rattle.std.specs.Option.{option_map_or}
use Rattle.std.proofs.lemmas.List.{length-append, map-id}
use Rattle.nc_types.specs.Cidr.{Cidr}
use Rattle.nc_types.specs.Config.{ConfigView, ProcessView, process_view}
use Rattle.nc_types.specs.declared.TheConstants.{MULTIPATH_LIMIT}
use Rattle.nc_types.specs.declared.config.AggregateStatement.{AggregateStatement}
use Rattle.nc_types.specs.declared.config.Neighbor.{Neighbor}
use Rattle.nc_types.specs.declared.config.NetworkStatement.{NetworkStatement}
use Rattle.nc_types.proofs.Members.{all_in, all_by_in, in_by_filter_map, in_by_get}
use Rattle.nc_tables.specs.declared.base.BaseRow.{BaseRow}
use Rattle.nc_tables.specs.declared.bgp.Chosen.{Chosen}
use Rattle.nc_tables.specs.declared.bgp.SessionRow.{SessionRow}
use Rattle.nc_tables.specs.Rounds.{BgpRowView, aggregate_at, candidates_at, entry_at, made_from, origin_at}
use Rattle.nc_tables.specs.Choice.{choose}
use Rattle.nc_message.specs.Inputs.{IsOf}
use Rattle.nc_decision.proofs.Distinct.{choose_few, made_few}
use Rattle.nc_decision.proofs.Making.{made_fewer}
use Rattle.nc_decision.proofs.choosing.chosen_by.Goals as goal

module _ (routers : List ConfigView) (tables : List (List BaseRow)) (sessions : List (List SessionRow)) (table : List (List BgpRowView)) (router : ℕ) (p : ProcessView) (prefix : Cidr) where
  abbrev of_networks : ℕ → NetworkStatement → Option Chosen
  of_networks place n = origin_at routers tables sessions table router place n prefix

  abbrev of_aggregates : ℕ → AggregateStatement → Option Chosen
  of_aggregates place a = aggregate_at routers tables sessions table router place a prefix

  abbrev of_neighbors : ℕ → Neighbor → Option Chosen
  of_neighbors place n = entry_at routers tables sessions table router place prefix

  -- there are no more candidates than statements
  few_candidates : length (candidates_at routers tables sessions table router p prefix) ≤ length p.networks + (length p.aggregates + length p.neighbors)
  few_candidates =
      let ns = made_from of_networks 0 p.networks in
      let gs = made_from of_aggregates 0 p.aggregates in
      let es = made_from of_neighbors 0 p.neighbors in
      omega (arith, length-append ns (gs ++ es), length-append gs es, made_fewer of_networks 0 p.networks, made_fewer of_aggregates 0 p.aggregates, made_fewer of_neighbors 0 p.neighbors)

-- what is told of the process is so
pub best_alone-requires-clause-single : goal.best_alone-requires-clause-single
best_alone-requires-clause-single c =
    let single : Option ProcessView → Bool = λ o. option_map_or (λ p. p.max_paths == 1) o false in
    eqb-true c.args.process.now.max_paths 1
    (sym (c.is_single.ensures ∙ c.requires.peerings.alone.single ∙ ap single (c.requires.peerings.process ∙ c.requires.process)) ∙ c.if-is_single.true)

pub choose-requires : goal.choose-requires
choose-requires c =
    omega (
      arith,
      ap (length {A = Chosen}) c.deref.ensures.value,
      ap (length {A = Chosen}) c.in_ok-feasible.ensures.candidates,
      few_candidates c.args.inputs.now.network.now c.args.inputs.now.base.now c.args.inputs.now.sessions.now c.args.ribs.now.rows c.args.router.0 (process_view c.args.process.now) c.args.of.now.prefix,
      c.requires.few,
    )

pub returns-clause-chosen : goal.returns-clause-chosen
returns-clause-chosen c =
    let all = candidates_at c.args.inputs.now.network.now c.args.inputs.now.base.now c.args.inputs.now.sessions.now c.args.ribs.now.rows c.args.router.0 (process_view c.args.process.now) c.args.of.now.prefix in
    c.in_ok-chosen-2.ensures
    ∙ c.in_ok-entries.ensures
    ∙ ap (λ (l : List Chosen). filter_map (slice_get l) c.deref-3.result.now) (c.deref-2.ensures.value ∙ c.in_ok-feasible.ensures.candidates)
    ∙ ap (filter_map (slice_get all))
    (c.deref-3.ensures.value ∙ c.in_ok-places.ensures
    ∙ ap (λ (l : List Chosen). choose l c.args.process.now.max_paths c.args.process.now.relax) (map-id c.deref.result.now ∙ c.deref.ensures.value ∙ c.in_ok-feasible.ensures.candidates))

pub returns-clause-own : goal.returns-clause-own
returns-clause-own c =
    let p = c.args.of.now.prefix in
    let feasible = c.deref-2.result.now in
    let places = c.deref-3.result.now in
    let own : All (IsOf p) feasible = subst (All (IsOf p)) (sym c.deref-2.ensures.value) c.in_ok-feasible.ensures.own in
    let each : All (IsOf p) (filter_map (slice_get feasible) places) =
    all_by_in (IsOf p) (filter_map (slice_get feasible) places) (λ z i. let from = in_by_filter_map (slice_get feasible) places z i in all_in (IsOf p) feasible own z (in_by_get feasible from.0 z from.2)) in
    subst (All (IsOf p)) (sym (c.in_ok-chosen-2.ensures ∙ c.in_ok-entries.ensures)) each

pub returns-clause-few : goal.returns-clause-few
returns-clause-few c =
    let feasible = c.deref-2.result.now in
    let places = c.deref-3.result.now in
    let some : length places ≤ MULTIPATH_LIMIT =
    subst (λ (l : List ℕ). length l ≤ MULTIPATH_LIMIT) (sym (c.deref-3.ensures.value ∙ c.in_ok-places.ensures))
    (choose_few _ c.args.process.now.max_paths MULTIPATH_LIMIT c.args.process.now.relax c.requires.formed.paths.1 (omega arith)) in
    omega (arith, ap (length {A = Chosen}) (c.in_ok-chosen-2.ensures ∙ c.in_ok-entries.ensures), made_few (slice_get feasible) places, some)
