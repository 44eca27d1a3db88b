use Rattle.std.proofs.Common.{◌≡◌, ◌+◌, ◌<◌, length, get_or, Contains, sym, subst, arith}
use Rattle.nc_diagram.specs.declared.node.Node.{Node}
use Rattle.nc_diagram.proofs.SlotLemmas.{AreFor-clear, AreFor-has, AreFor-some, home-within}
use Rattle.nc_diagram.proofs.nodes.clear.Goals as goal

pub slot_of-at-requires-clause-from : goal.slot_of-at-requires-clause-from
slot_of-at-requires-clause-from c =
    let slots = c.args.slots.now.items in
    let nodes = c.args.nodes.now in
    let none : Node = record { variable = 0; low = 0; high = 0 } in
    let count_of : c.len.result ≡ length slots = omega (arith, c.len.ensures, c.args.slots.now.ok.0) in
    let some : 0 < c.len.result = omega (arith, count_of, AreFor-some slots nodes c.args.index c.requires.within c.requires.newest) in
    let within : c.home.result < c.len.result = subst (λ at. at < c.len.result) (sym c.home.ensures) (home-within (get_or nodes c.args.index none) c.len.result some) in
    subst (λ all. c.home.result < length all) (sym c.deref.ensures.value) (omega (arith, within, count_of))

pub slot_of-at-requires-clause-some : goal.slot_of-at-requires-clause-some
slot_of-at-requires-clause-some c =
    subst (λ all. Contains all (c.args.index + 1)) (sym c.deref.ensures.value)
    (AreFor-has c.args.slots.now.items c.args.nodes.now c.args.index c.requires.within c.requires.newest)

pub returns : goal.returns
returns c =
    let slots = c.args.slots.now.items in
    let at = c.slot_of-at.result in
    let there : at < length slots = subst (λ all. at < length all) c.deref.ensures.value c.slot_of-at.ensures.within in
    let number : get_or slots at 0 ≡ c.args.index + 1 = subst (λ all. get_or all at 0 ≡ c.args.index + 1) c.deref.ensures.value c.slot_of-at.ensures.there in
    AreFor-clear slots c.args.nodes.now c.args.index at c.requires.within there number c.requires.newest
