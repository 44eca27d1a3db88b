use Rattle.std.proofs.Common.{◌≡◌, ◌<◌, [], ◌∷◌, ◌++◌, length, cond, sym, ap, ◌∙◌, subst, arith}
use Rattle.std.specs.List.{list_any, All}
use Rattle.indexmap.specs.IndexSet.{insert_key}
use Rattle.std.proofs.lemmas.Grind.{common_steps}
use Rattle.nc_graph.specs.Nodes.{IsGraph}
use Rattle.nc_graph.proofs.NodeLemmas.{IsGraph-with_node, same_nodes}
use Rattle.nc_graph.proofs.graph.Graph.place.Goals as goal

pub invariant_of-self-2 : goal.invariant_of-self-2
invariant_of-self-2 g c =
    let new = ap (λ n. list_any (g.F.PartialEq.eq c.args.fact) n.facts) c.self.view_is ∙ c.requires.new in
    let inserted : c.insert_full.new.self.keys ≡ insert_key g.F.PartialEq.eq c.self.inside.facts.keys c.args.fact = grind (arith, common_steps) in
    let keys = inserted ∙ ap (λ b. cond b c.self.inside.facts.keys (c.self.inside.facts.keys ++ c.args.fact ∷ [])) new in
    let kinds : c.push-2.new.self.items ≡ c.self.inside.kinds.items ++ c.args.kind ∷ [] = grind (arith, common_steps) in
    let parents : c.push.new.self ≡ c.self.inside.parents ++ c.args.parents.now ∷ [] = grind (arith, common_steps) in
    subst IsGraph (sym (same_nodes c.self.inside.limit keys kinds parents))
    (IsGraph-with_node _ c.self.invariant c.args.fact c.args.kind c.args.parents.now c.requires.shape
    (subst (λ n. All (λ p. p.0 < length n.facts) c.args.parents.now) (sym c.self.view_is) c.requires.within)
    (subst (λ n. length n.facts < n.limit) (sym c.self.view_is) c.requires.room))
