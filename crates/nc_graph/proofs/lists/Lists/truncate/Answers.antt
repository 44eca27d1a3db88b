use Rattle.std.proofs.Common.{◌≡◌, ◌≤◌, length, take, sym, ap, ◌∙◌, arith}
use Rattle.std.proofs.lemmas.Grind.{common_steps}
use Rattle.std.proofs.lemmas.List.{take_all}
use Rattle.nc_graph.specs.Lists.{start_of}
use Rattle.nc_graph.proofs.ListLemmas.{length-lists_by, AreEnds-first, lists_by-first}
use Rattle.nc_graph.proofs.lists.Lists.truncate.Goals as goal

pub invariant_of-self : goal.invariant_of-self
invariant_of-self g c =
    let items : c.truncate.new.self.items ≡ take (start_of 0 c.self.inside.ends.items c.args.len) c.self.inside.items.items = grind (arith, common_steps) in
    let ends : c.truncate-then-len.new.self.items ≡ take c.args.len c.self.inside.ends.items = grind (arith, common_steps) in
    AreEnds-first c.self.inside.items.items c.self.inside.ends.items c.self.invariant c.args.len c.truncate.new.self.items c.truncate-then-len.new.self.items items ends

pub returns-then-len : goal.returns-then-len
returns-then-len g c =
    let items : c.truncate.new.self.items ≡ take (start_of 0 c.self.inside.ends.items c.args.len) c.self.inside.items.items = grind (arith, common_steps) in
    let ends : c.truncate-then-len.new.self.items ≡ take c.args.len c.self.inside.ends.items = grind (arith, common_steps) in
    lists_by-first c.self.inside.items.items c.self.inside.ends.items c.self.invariant c.args.len c.truncate.new.self.items c.truncate-then-len.new.self.items items ends
    ∙ ap (take c.args.len) c.self.view_is

pub returns-else-len : goal.returns-else-len
returns-else-len g c =
    let count = length-lists_by c.self.inside.items.items 0 c.self.inside.ends.items in
    let view = ap length c.self.view_is in
    let few : length c.args.self.now ≤ c.args.len = grind (arith, common_steps) in
    sym (take_all c.args.len c.args.self.now few)
