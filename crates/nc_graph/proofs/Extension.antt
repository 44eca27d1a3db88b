-- What a graph has of its nodes a graph that extends it has too.
use Rattle.std.proofs.Common.{◌≡◌, ℕ, Bool, true, [], length, map, get_or, nat_lt, sym, ap, ◌∙◌, arith}
use Rattle.std.proofs.lemmas.Bool.{lt-ltb, ltb-true}
use Rattle.std.proofs.lemmas.List.{get_or-take}
use Rattle.std.specs.List.{list_any, list_all}
use Rattle.nc_graph.specs.declared.node.NodeKind.TheVariants as kind
use Rattle.nc_graph.specs.declared.node.NodeId.{NodeId}
use Rattle.nc_graph.specs.Flow.{by_kind}
use Rattle.nc_graph.specs.Derivation.{carried}
use Rattle.nc_graph.specs.Nodes.{Nodes, node_flow, IsGraph, Extends}
use Rattle.nc_graph.proofs.Members.{any_same, all_same}
use Rattle.nc_graph.proofs.DerivationLaws.{by_rank, carried-step}
use Rattle.nc_graph.proofs.WalkLemmas.{prefix-length}

module _ {F : Type 0} (old new : Nodes F) (is : IsGraph old) (longer : IsGraph new) (ext : Extends old new) where
  pub holds-new : (i : ℕ) → nat_lt i (length old.facts) ≡ true → nat_lt i (length new.facts) ≡ true
  holds-new i h =
      let lt = ltb-true i (length old.facts) h in
      let all = prefix-length old.facts new.facts ext.facts in
      lt-ltb i (length new.facts) (omega arith)

  pub kind-same : (i : ℕ) → nat_lt i (length old.facts) ≡ true → (node_flow new).kind i ≡ (node_flow old).kind i
  kind-same i h =
      sym (get_or-take (length old.facts) new.kinds i kind.Every (ltb-true i (length old.facts) h)) ∙ ap (λ ks. get_or ks i kind.Every) ext.kinds

  pub parents-same : (i : ℕ) → nat_lt i (length old.facts) ≡ true → (node_flow new).parents i ≡ (node_flow old).parents i
  parents-same i h =
      ap (map (λ (p : NodeId). p.0)) (sym (get_or-take (length old.facts) new.parents i [] (ltb-true i (length old.facts) h)) ∙ ap (λ ps. get_or ps i []) ext.parents)

  pub carried-same : (x : ℕ → Bool) (i : ℕ) → nat_lt i (length old.facts) ≡ true → carried (node_flow new) x i ≡ carried (node_flow old) x i
  carried-same x = by_rank (node_flow old) is.flow (λ i. carried (node_flow new) x i ≡ carried (node_flow old) x i) (λ i h below.
      let ps = (node_flow old).parents i in
      carried-step (node_flow new) longer.flow x i (holds-new i h)
      ∙ ap (λ k. by_kind k x (list_all (carried (node_flow new) x) ((node_flow new).parents i)) (list_any (carried (node_flow new) x) ((node_flow new).parents i))) (kind-same i h)
      ∙ ap (λ qs. by_kind ((node_flow old).kind i) x (list_all (carried (node_flow new) x) qs) (list_any (carried (node_flow new) x) qs)) (parents-same i h)
      ∙ ap (λ b. by_kind ((node_flow old).kind i) x b (list_any (carried (node_flow new) x) ps)) (all_same (carried (node_flow new) x) (carried (node_flow old) x) ps below)
      ∙ ap (λ b. by_kind ((node_flow old).kind i) x (list_all (carried (node_flow old) x) ps) b) (any_same (carried (node_flow new) x) (carried (node_flow old) x) ps below)
      ∙ sym (carried-step (node_flow old) is.flow x i h))
