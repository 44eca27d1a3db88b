use Rattle.std.proofs.Common.{◌++◌, List, [], ap, slice_index_or, ◌∙◌}
use Rattle.nc_tables.specs.declared.bgp.Chosen.{Chosen}
use Rattle.nc_tables.specs.Rounds.{has_longer}
use Rattle.nc_decision.specs.Beginning.{aggregates_of, has_base_row, networks_of}
use Rattle.nc_decision.proofs.candidates.begun_routes.Goals as goal

pub returns : goal.returns
returns c =
    let p = c.args.prefix in
    let own = networks_of (has_base_row c.args.inputs.now.base.now c.args.router.0 p) p c.args.process.now.networks.items in
    let inside = aggregates_of (has_longer (slice_index_or c.args.ribs.now.rows c.args.router.0 []) p) p c.args.process.now.aggregates.items in
    c.in_ok-add_aggregate.ensures
    ∙ ap (λ (l : List Chosen). l ++ inside) (c.in_ok-add_network.ensures ∙ ap (λ (l : List Chosen). l ++ own) c.new-begun.ensures.items)
