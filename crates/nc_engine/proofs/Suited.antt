-- The tests of a suite, by their nodes and by their facts.
use Rattle.std.proofs.Common.{◌≡◌, ℕ, ◌<◌, Bool, true, false, if◌then◌else◌, List, [], ◌∷◌, length, map, All, Some, Bor, refl, ap, ◌∙◌}
use Rattle.std.specs.Prelude.{slice_get}
use Rattle.std.proofs.lemmas.List.Elements.{All-nil, All-cons, All-head, All-tail}
use Rattle.nc_graph.specs.Nodes.{Nodes, AreNodesOf}
use Rattle.nc_graph.specs.declared.node.NodeId.{NodeId}
use Rattle.nc_graph.proofs.NodeLemmas.{nodes_of-within}
use Rattle.nc_fact.specs.declared.fact.Fact.{Fact}
use Rattle.nc_engine.specs.declared.work.KeptTest.{KeptTest as Made}
use Rattle.nc_engine.specs.Session.{live_each}
use Rattle.nc_engine.specs.Work.{HaveNodes, nodes_each, test_view}

-- what is so of each item of a list that is made of another one is so of what each of that makes
pub all-made : {A B : Type 0} (P : B → Type 0) (f : A → B) (xs : List A) → All P (map f xs) → All (λ x. P (f x)) xs
all-made P f [] all = All-nil (λ x. P (f x))
all-made P f (x ∷ xs) all = All-cons (λ y. P (f y)) x xs (All-head P (f x) (map f xs) all) (all-made P f xs (All-tail P (f x) (map f xs) all))

-- the numbers of nodes behind references are those of the nodes
pub numbers-behind : (xs : List (Bor (List NodeId))) → map (λ t. map (λ p. p.0) t.now) xs ≡ map (λ ids. map (λ p. p.0) ids) (map (λ t. t.now) xs)
numbers-behind [] = refl
numbers-behind (x ∷ xs) = ap (λ (rest : List (List ℕ)). map (λ p. p.0) x.now ∷ rest) (numbers-behind xs)

module _ (n : Nodes Fact) where
  within-one : (t : Made) (live : Bool) → AreNodesOf n t.nodes.items t.facts.items → All (λ p. p.0 < length n.facts) (if live then t.nodes.items else [])
  within-one t true are = nodes_of-within n.facts t.nodes.items t.facts.items are
  within-one t false are = All-nil (λ (p : NodeId). p.0 < length n.facts)

  -- the nodes of each test are nodes of the graph
  pub each-within : (tests : List Made) → HaveNodes n tests → All (All (λ p. p.0 < length n.facts)) (nodes_each tests)
  each-within [] have = All-nil (All (λ (p : NodeId). p.0 < length n.facts))
  each-within (t ∷ tests) have =
      All-cons (All (λ (p : NodeId). p.0 < length n.facts)) (if t.live then t.nodes.items else []) (nodes_each tests)
      (within-one t t.live (All-head (λ (u : Made). AreNodesOf n u.nodes.items u.facts.items) t tests have))
      (each-within tests (All-tail (λ (u : Made). AreNodesOf n u.nodes.items u.facts.items) t tests have))

  of-one : (t : Made) (live : Bool) → AreNodesOf n t.nodes.items t.facts.items → AreNodesOf n (if live then t.nodes.items else []) (if live then t.facts.items else [])
  of-one t true are = are
  of-one t false are = refl

  -- and are those of its facts
  pub each-of : (tests : List Made) → HaveNodes n tests
      → map (λ ids. map (λ p. slice_get n.facts p.0) ids) (nodes_each tests) ≡ map (λ fs. map Some fs) (live_each (map test_view tests))
  each-of [] have = refl
  each-of (t ∷ tests) have =
      ap (λ first. first ∷ map (λ ids. map (λ p. slice_get n.facts p.0) ids) (nodes_each tests)) (of-one t t.live (All-head (λ (u : Made). AreNodesOf n u.nodes.items u.facts.items) t tests have))
      ∙ ap (λ rest. map Some (if t.live then t.facts.items else []) ∷ rest) (each-of tests (All-tail (λ (u : Made). AreNodesOf n u.nodes.items u.facts.items) t tests have))
