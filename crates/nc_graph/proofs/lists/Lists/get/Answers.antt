use Rattle.std.proofs.Common.{◌≡◌, ◌+◌, ◌<◌, Some, length, slice_get, suc, sym, ap, ◌∙◌, arith}
use Rattle.std.proofs.lemmas.Grind.{common_steps}
use Rattle.nc_graph.specs.Lists.{between, start_of}
use Rattle.nc_graph.proofs.ListLemmas.{length-lists_by, slice_get-lists_by}
use Rattle.nc_graph.proofs.lists.Lists.get.Goals as goal

pub bounds_of-from-requires-clause-number : goal.bounds_of-from-requires-clause-number
bounds_of-from-requires-clause-number g c =
    let count = length-lists_by c.self.inside.items.items 0 c.self.inside.ends.items in
    let view = ap length c.self.view_is in
    grind (arith, common_steps)

pub returns : goal.returns
returns g c =
    let items = c.self.inside.items.items in
    let ends = c.self.inside.ends.items in
    let count = length-lists_by items 0 ends in
    let view = ap length c.self.view_is in
    let within : c.args.number < length ends = grind (arith, common_steps) in
    let next : c.args.number + 1 ≡ suc c.args.number = omega arith in
    let from : c.bounds_of-from.result.0 ≡ start_of 0 ends c.args.number = grind (arith, common_steps) in
    let to : c.bounds_of-from.result.1 ≡ start_of 0 ends (suc c.args.number) = c.bounds_of-from.ensures.to ∙ ap (start_of 0 c.deref.result.now) next ∙ ap (λ es. start_of 0 es (suc c.args.number)) c.deref.ensures.value in
    let all : c.deref-2.result.now ≡ items = c.deref-2.ensures.value in
    ap (λ ls. slice_get ls c.args.number) (sym c.self.view_is)
    ∙ slice_get-lists_by items 0 ends c.args.number within
    ∙ (λ i. Some (between (sym all i) (sym from i) (sym to i)))
