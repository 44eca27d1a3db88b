use Rattle.std.proofs.Common.{◌-◌, ◌++◌, List, sym, ap, ◌∙◌}
use Rattle.nc_tables.specs.declared.bgp.MainRow.{MainRow}
use Rattle.nc_tables.specs.Main.{nearer}
use Rattle.nc_main_rib.specs.Sides.{bgp_rows, chosen_of}
use Rattle.nc_main_rib.proofs.Parts.{base_is}
use Rattle.nc_main_rib.proofs.tables.add_prefix.Goals as goal

pub returns-clause-rows : goal.returns-clause-rows
returns-clause-rows c =
    let prefix = c.args.prefix in
    let found = c.rows_on-found.result in
    c.in_ok-add_rows.ensures
    ∙ ap (λ (l : List MainRow). c.args.main.now.items ++ nearer l (bgp_rows prefix c.args.discard (chosen_of c.args.chosen)))
    (sym (base_is c.args.base.now prefix found.from (found.to - found.from) c.rows_on-found.ensures.rows))
