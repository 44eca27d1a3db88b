use Rattle.std.proofs.lemmas.List.{length-map}
use Rattle.std.proofs.Common.{map, arith, List, subst}
use Rattle.nc_types.specs.declared.config.RouterConfig.{RouterConfig}
use Rattle.nc_types.specs.Config.{config_view}
use Rattle.nc_types.specs.Tables.{AreTables}
use Rattle.nc_types.proofs.Counting.{each_few, each_few_interfaces, all_few}
use Rattle.nc_types.proofs.network.Network.new.Goals as goal

pub make_tables-requires-clause-elements : goal.make_tables-requires-clause-elements
make_tables-requires-clause-elements c =
    rw c.deref.ensures.value (λ k d lt. omega (arith, each_few c.args.routers.items c.requires.valid.each c.requires.lines k d lt))

pub make_tables-requires-clause-count : goal.make_tables-requires-clause-count
make_tables-requires-clause-count c =
    rw c.deref.ensures.value (omega (arith, all_few c.args.routers.items c.requires.valid.each c.requires.lines c.requires.few))

pub invariant_of-result : goal.invariant_of-result
invariant_of-result c = record {
  count = omega (arith, c.requires.few, length-map c.args.routers.items config_view);
  valid = c.requires.valid;
  few = all_few c.args.routers.items c.requires.valid.each c.requires.lines c.requires.few;
  served = subst (λ (rs : List RouterConfig). AreTables (map config_view rs) c.in_ok-tables.tables) c.deref.ensures.value c.in_ok-tables.ensures;
}

pub make_tables-requires-clause-interfaces : goal.make_tables-requires-clause-interfaces
make_tables-requires-clause-interfaces c =
    rw c.deref.ensures.value (λ k d lt. omega (arith, each_few_interfaces c.args.routers.items c.requires.valid.each c.requires.lines k d lt))
