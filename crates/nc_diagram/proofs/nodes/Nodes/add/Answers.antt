use Rattle.std.proofs.Common.{◌≡◌, ◌+◌, ◌*◌, ◌≤◌, [], ◌∷◌, ◌++◌, length, take, sym, ap, subst, ◌∙◌, arith}
use Rattle.std.proofs.lemmas.List.{take_at}
use Rattle.nc_diagram.specs.Index.{AreFor}
use Rattle.nc_diagram.proofs.nodes.Nodes.add.Goals as goal
use Rattle.nc_diagram.proofs.nodes.Nodes.add.Goals.{After-deref-2}

-- the index of the node that is added
as_many : (c : After-deref-2) → c.len-count.result ≡ length c.self.inside.list.items
as_many c = omega (arith, c.len-count.ensures, c.self.inside.list.ok.0)

pub put-requires-clause-narrow : goal.put-requires-clause-narrow
put-requires-clause-narrow c = omega (arith, as_many c, ap length c.self.view_is, c.requires)

pub put-requires-clause-older : goal.put-requires-clause-older
put-requires-clause-older c =
    let slots = c.make_room.new.slots.items in
    let nodes = c.self.inside.list.items in
    let index = c.len-count.result in
    subst (λ all. AreFor slots (take index all)) (sym (c.deref-2.ensures.value ∙ c.in_ok-push.ensures.items))
    (subst (AreFor slots) (sym (take_at nodes (c.args.node ∷ []) index (sym (as_many c)))) (subst (AreFor slots) c.deref.ensures.value c.make_room.ensures.are))

pub put-requires-clause-room : goal.put-requires-clause-room
put-requires-clause-room c =
    subst (λ count. 4 * (count + 1) ≤ 3 * length c.make_room.new.slots.items) (ap length c.deref.ensures.value ∙ sym (as_many c)) c.in_ok-make_room.ensures.room

pub invariant_of-self : goal.invariant_of-self
invariant_of-self c = subst (AreFor c.make_room.new.slots.items) c.deref.ensures.value c.make_room.ensures.are

pub returns-clause-added : goal.returns-clause-added
returns-clause-added c = c.in_ok-push.ensures.items ∙ ap (λ nodes. nodes ++ c.args.node ∷ []) c.self.view_is
