use Rattle.std.proofs.Common.{◌≡◌, ◌+◌, ◌≤◌, suc, sym, ap, ◌∙◌, subst, arith}
use Rattle.nc_graph.specs.Lists.{start_of}
use Rattle.nc_graph.proofs.ListLemmas.{start_of-next, start_of-order, start_of-within}
use Rattle.nc_graph.proofs.lists.bounds_of.Goals as goal

pub returns-clause-to : goal.returns-clause-to
returns-clause-to c =
    let next : suc c.args.number ≡ c.args.number + 1 = omega arith in
    sym (start_of-next 0 c.args.ends.now c.args.number 0 c.requires.number) ∙ ap (start_of 0 c.args.ends.now) next

pub returns-clause-order : goal.returns-clause-order
returns-clause-order c =
    let before = start_of-order 0 c.args.ends.now c.args.count c.requires.ends c.args.number in
    let next = start_of-next 0 c.args.ends.now c.args.number 0 c.requires.number in
    let from = c.start_of.ensures in omega arith

pub returns-clause-within : goal.returns-clause-within
returns-clause-within c =
    subst (λ n. n ≤ c.args.count) (start_of-next 0 c.args.ends.now c.args.number 0 c.requires.number)
    (start_of-within 0 c.args.ends.now c.args.count c.requires.ends (suc c.args.number))
