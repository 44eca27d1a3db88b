use Rattle.std.proofs.Common.{length, ap, arith}
use Rattle.std.proofs.lemmas.Grind.{common_steps}
use Rattle.nc_graph.proofs.ListLemmas.{length-lists_by}
use Rattle.nc_graph.proofs.lists.Lists.len.Goals as goal

pub returns : goal.returns
returns g c =
    let count = length-lists_by c.self.inside.items.items 0 c.self.inside.ends.items in
    let view = ap length c.self.view_is in
    grind (arith, common_steps)
