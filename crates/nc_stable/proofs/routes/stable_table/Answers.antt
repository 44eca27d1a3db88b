use Rattle.std.proofs.Common.{length, ap, ◌∙◌}
use Rattle.std.proofs.lemmas.List.{length-map}
use Rattle.std.proofs.lemmas.List.FromFn.{length-map-range_with_len}
use Rattle.nc_tables.specs.Base.{base_table}
use Rattle.nc_stable.proofs.routes.stable_table.Goals as goal

pub settle_table-requires : goal.settle_table-requires
settle_table-requires c = record {
  inputs = record {
    base = ap length c.requires.base ∙ length-map c.args.network.now base_table;
    sessions = ap length c.requires.sessions ∙ length-map-range_with_len _ 0 (length c.args.network.now);
    policies = c.requires.policies;
    adjacencies = c.requires.adjacencies;
  };
}
