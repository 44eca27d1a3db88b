use Rattle.std.proofs.Common.{◌≡◌, ◌++◌, ◌∷◌, [], length, sym, ap, ◌∙◌, subst, arith}
use Rattle.std.proofs.lemmas.Grind.{common_steps}
use Rattle.std.proofs.lemmas.List.{length-append}
use Rattle.nc_graph.specs.Lists.{AreEnds}
use Rattle.nc_graph.proofs.ListLemmas.{AreEnds-push, lists_by-pushed}
use Rattle.nc_graph.proofs.lists.Lists.push.Goals as goal

pub invariant_of-self-2 : goal.invariant_of-self-2
invariant_of-self-2 g c =
    let items : c.extend_from_slice.new.self.items ≡ c.self.inside.items.items ++ c.args.list.now = grind (arith, common_steps) in
    let longer = ap length items ∙ length-append c.self.inside.items.items c.args.list.now in
    let ends : c.push.new.self.items ≡ c.self.inside.ends.items ++ length c.extend_from_slice.new.self.items ∷ [] = grind (arith, common_steps) in
    subst (λ es. AreEnds 0 es (length c.extend_from_slice.new.self.items)) (sym ends)
    (AreEnds-push 0 c.self.inside.ends.items (length c.self.inside.items.items) (length c.extend_from_slice.new.self.items) c.self.invariant (omega arith))

pub returns-clause-pushed : goal.returns-clause-pushed
returns-clause-pushed g c =
    let items : c.extend_from_slice.new.self.items ≡ c.self.inside.items.items ++ c.args.list.now = grind (arith, common_steps) in
    let longer = ap length items ∙ length-append c.self.inside.items.items c.args.list.now in
    let ends : c.push.new.self.items ≡ c.self.inside.ends.items ++ length c.extend_from_slice.new.self.items ∷ [] = grind (arith, common_steps) in
    lists_by-pushed c.self.inside.items.items c.args.list.now c.self.inside.ends.items c.self.invariant
    c.extend_from_slice.new.self.items c.push.new.self.items items ends
    ∙ ap (λ ls. ls ++ c.args.list.now ∷ []) c.self.view_is
