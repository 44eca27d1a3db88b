use Rattle.std.proofs.Common.{◌∙◌}
use Rattle.std.proofs.lemmas.List.Filters.{dedup_is}
use Rattle.nc_tables.specs.Base.{same_prefix}
use Rattle.nc_main_rib.proofs.Ascending.{sorted_is}
use Rattle.nc_main_rib.proofs.prefixes.in_order.Goals as goal

pub returns : goal.returns
returns c =
    dedup_is same_prefix c.sort.new.self.items c.dedup.new.self.items c.dedup.ensures.filtered
    ∙ sorted_is c.args.prefixes.items c.sort.new.self.items c.in_ok-sort.ensures.permutation c.in_ok-sort.ensures.sorted
