use Rattle.std.proofs.Common.{◌≡◌, ◌-◌, suc, sym, ap, ◌∙◌, arith}
use Rattle.nc_graph.specs.Lists.{start_of}
use Rattle.nc_graph.proofs.ListLemmas.{start_of-next}
use Rattle.nc_graph.proofs.lists.start_of.Goals as goal

pub returns-else-number-eq0 : goal.returns-else-number-eq0
returns-else-number-eq0 c =
    let some : c.args.number ≡ suc (c.args.number - 1) = omega arith in
    sym (start_of-next 0 c.args.ends.now (c.args.number - 1) 0 (omega arith)) ∙ ap (start_of 0 c.args.ends.now) (sym some)
