use Rattle.std.proofs.Common.{◌≡◌, ◌-◌, length, reverse, drop, sym, ap, subst, ◌∙◌}
use Rattle.std.proofs.lemmas.List.{length-reverse}
use Rattle.nc_diagram.specs.Diagrams.{Diagrams, IsStore}
use Rattle.nc_diagram.proofs.RecentLemmas.{AreKept-none}
use Rattle.nc_diagram.proofs.StoreLemmas.{reverse-take, IsStore-drop}
use Rattle.nc_diagram.proofs.store.Store.roll_back.Goals as goal
use Rattle.nc_diagram.proofs.store.Store.roll_back.Goals.{After-truncate}

-- the nodes that are left
left : (c : After-truncate) → reverse c.truncate.new.self ≡ drop (length (reverse c.self.inside.nodes) - c.args.mark) (reverse c.self.inside.nodes)
left c =
    let keys = c.self.inside.nodes in
    ap reverse c.truncate.ensures ∙ reverse-take c.args.mark keys ∙ ap (λ k. drop (k - c.args.mark) (reverse keys)) (sym (length-reverse keys))

pub invariant_of-self : goal.invariant_of-self
invariant_of-self c =
    let nodes = reverse c.self.inside.nodes in
    let after = reverse c.truncate.new.self in (
      subst (λ ns. IsStore (record { nodes = ns; limit = c.self.inside.limit })) (sym (left c))
          (IsStore-drop (length nodes - c.args.mark) nodes c.self.inside.limit c.self.invariant.0),
      AreKept-none after c.clear.new.self c.new.result.slots.items c.new-2.result.slots.items c.clear.ensures c.new.ensures c.new-2.ensures,
    )

pub returns-clause-nodes : goal.returns-clause-nodes
returns-clause-nodes c =
    subst (λ (d : Diagrams). reverse c.truncate.new.self ≡ drop (length d.nodes - c.args.mark) d.nodes) c.self.view_is (left c)
