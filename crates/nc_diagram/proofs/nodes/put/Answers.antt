use Rattle.std.proofs.Common.{◌≡◌, ◌<◌, length, get_or, sym, ap, subst, ◌∙◌, arith}
use Rattle.nc_diagram.specs.declared.node.Node.{Node}
use Rattle.nc_diagram.specs.Index.{home, IsFreeFrom}
use Rattle.nc_diagram.proofs.SlotLemmas.{AreFor-put, home-within}
use Rattle.nc_diagram.proofs.nodes.put.Goals as goal

pub free_from-at-requires-clause-from : goal.free_from-at-requires-clause-from
free_from-at-requires-clause-from c =
    let none : Node = record { variable = 0; low = 0; high = 0 } in
    let count_of : c.len.result ≡ length c.args.slots.now.items = omega (arith, c.len.ensures, c.args.slots.now.ok.0) in
    let some : 0 < c.len.result = omega (arith, count_of, c.requires.room) in
    let within : c.home.result < c.len.result = subst (λ at. at < c.len.result) (sym c.home.ensures) (home-within (get_or c.args.nodes.now c.args.index none) c.len.result some) in
    subst (λ all. c.home.result < length all) (sym c.deref.ensures.value) (omega (arith, within, count_of))

pub returns-clause-are : goal.returns-clause-are
returns-clause-are c =
    let slots = c.args.slots.now.items in
    let nodes = c.args.nodes.now in
    let index = c.args.index in
    let none : Node = record { variable = 0; low = 0; high = 0 } in
    let node = get_or nodes index none in
    let at = c.free_from-at.result in
    let there : at < length slots = subst (λ all. at < length all) c.deref.ensures.value c.free_from-at.ensures.within in
    let count_of : c.len.result ≡ length slots = omega (arith, c.len.ensures, c.args.slots.now.ok.0) in
    let free : IsFreeFrom slots index (home node (length slots)) at =
    subst (λ from. IsFreeFrom slots index from at) (c.home.ensures ∙ ap (home node) count_of)
    (subst (λ all. IsFreeFrom all index c.home.result at) c.deref.ensures.value c.free_from-at.ensures.first) in
    AreFor-put slots nodes index at none c.requires.within there c.requires.room free c.requires.older
