-- A graph's nodes carry what their facts do.
use Rattle.std.proofs.Common.{◌≡◌, ◌↔◌, ℕ, inl, inr, Bool, true, not, ◌||◌, ◌&&◌, List, [], ◌∷◌, length, map, get_or, Some, slice_get, nat_eq, sym, ap, ◌∙◌, refl}
use Rattle.std.proofs.lemmas.Bool.{lt-ltb}
use Rattle.std.proofs.lemmas.Option.{slice_get_within}
use Rattle.std.specs.List.{list_any, list_all}
use Rattle.nc_graph.specs.declared.node.NodeId.{NodeId}
use Rattle.nc_graph.specs.Flow.{Flow, IsFlow, by_kind}
use Rattle.nc_graph.specs.Derivation.{all_but, IsStrong, IsInSome, Carries, carried, occurs}
use Rattle.nc_graph.specs.Nodes.{Nodes, node_flow, IsGraph, Mirrors}
use Rattle.nc_graph.proofs.Members.{In}
use Rattle.nc_graph.proofs.DerivationLaws.{by_rank, carried-step, occurs-step, strong-carried, Carries-is, IsStrong-is, IsInSome-is}

module _ {F : Type 0} (n : Nodes F) (p : ℕ → Bool) (q : F → Bool) where
  -- the test of each node is that of its fact
  abbrev pub Agree : List NodeId → Type 0
  Agree ids = (i : ℕ) (f : F) → In i (map (λ d. d.0) ids) → slice_get n.facts i ≡ Some f → p i ≡ q f

  pub all_agree : (ids : List NodeId) (fs : List F) → map (λ d. slice_get n.facts d.0) ids ≡ map Some fs → Agree ids → list_all p (map (λ d. d.0) ids) ≡ list_all q fs
  all_agree [] [] e h = refl
  all_agree [] (f ∷ fs) e h = absurd (cc)
  all_agree (d ∷ ds) [] e h = absurd (cc)
  all_agree (d ∷ ds) (f ∷ fs) e h =
      let here : slice_get n.facts d.0 ≡ Some f = cc in
      let rest : map (λ d. slice_get n.facts d.0) ds ≡ map Some fs = cc in
      ap (λ b. b && list_all p (map (λ d. d.0) ds)) (h d.0 f (inl refl) here) ∙ ap (λ b. q f && b) (all_agree ds fs rest (λ i x j. h i x (inr j)))

  pub any_agree : (ids : List NodeId) (fs : List F) → map (λ d. slice_get n.facts d.0) ids ≡ map Some fs → Agree ids → list_any p (map (λ d. d.0) ids) ≡ list_any q fs
  any_agree [] [] e h = refl
  any_agree [] (f ∷ fs) e h = absurd (cc)
  any_agree (d ∷ ds) [] e h = absurd (cc)
  any_agree (d ∷ ds) (f ∷ fs) e h =
      let here : slice_get n.facts d.0 ≡ Some f = cc in
      let rest : map (λ d. slice_get n.facts d.0) ds ≡ map Some fs = cc in
      ap (λ b. b || list_any p (map (λ d. d.0) ds)) (h d.0 f (inl refl) here) ∙ ap (λ b. q f || b) (any_agree ds fs rest (λ i x j. h i x (inr j)))

module _ {F : Type 0} (g : Flow F) (law : IsFlow g) (n : Nodes F) (is : IsGraph n) (m : Mirrors g n) where
  -- a node that a fact has is one of the graph's
  node-holds : (i : ℕ) (f : F) → slice_get n.facts i ≡ Some f → (node_flow n).holds i ≡ true
  node-holds i f at = lt-ltb i (length n.facts) (slice_get_within n.facts i f at)

  pub carried-node : (x : ℕ → Bool) (i : ℕ) (f : F) → slice_get n.facts i ≡ Some f → carried (node_flow n) x i ≡ carried g x f
  carried-node x i f at = by_rank (node_flow n) is.flow (λ i. (f : F) → slice_get n.facts i ≡ Some f → carried (node_flow n) x i ≡ carried g x f) step i (node-holds i f at) f at
    where
      step : (i : ℕ) → (node_flow n).holds i ≡ true → ((p : ℕ) → In p ((node_flow n).parents i) → (f : F) → slice_get n.facts p ≡ Some f → carried (node_flow n) x p ≡ carried g x f)
          → (f : F) → slice_get n.facts i ≡ Some f → carried (node_flow n) x i ≡ carried g x f
      step i h ih f at =
          let w = m.each i f at in
          let ids = get_or n.parents i [] in
          let ps = (node_flow n).parents i in
          let agree = λ (j : ℕ) (y : F) (k : In j ps) (a : slice_get n.facts j ≡ Some y). ih j k y a in
          carried-step (node_flow n) is.flow x i h
          ∙ ap (λ k. by_kind k x (list_all (carried (node_flow n) x) ps) (list_any (carried (node_flow n) x) ps)) w.kind
          ∙ ap (λ b. by_kind (g.kind f) x b (list_any (carried (node_flow n) x) ps)) (all_agree n (carried (node_flow n) x) (carried g x) ids (g.parents f) w.parents agree)
          ∙ ap (λ b. by_kind (g.kind f) x (list_all (carried g x) (g.parents f)) b) (any_agree n (carried (node_flow n) x) (carried g x) ids (g.parents f) w.parents agree)
          ∙ sym (carried-step g law x f w.holds)

  occurs-node : (e : ℕ) (i : ℕ) (f : F) → slice_get n.facts i ≡ Some f → occurs (node_flow n) e i ≡ occurs g e f
  occurs-node e i f at = by_rank (node_flow n) is.flow (λ i. (f : F) → slice_get n.facts i ≡ Some f → occurs (node_flow n) e i ≡ occurs g e f) step i (node-holds i f at) f at
    where
      step : (i : ℕ) → (node_flow n).holds i ≡ true → ((p : ℕ) → In p ((node_flow n).parents i) → (f : F) → slice_get n.facts p ≡ Some f → occurs (node_flow n) e p ≡ occurs g e f)
          → (f : F) → slice_get n.facts i ≡ Some f → occurs (node_flow n) e i ≡ occurs g e f
      step i h ih f at =
          let w = m.each i f at in
          let ids = get_or n.parents i [] in
          let ps = (node_flow n).parents i in
          let agree = λ (j : ℕ) (y : F) (k : In j ps) (a : slice_get n.facts j ≡ Some y). ih j k y a in
          occurs-step (node_flow n) is.flow e i h
          ∙ ap (λ k. by_kind k (nat_eq e) (list_any (occurs (node_flow n) e) ps) (list_any (occurs (node_flow n) e) ps)) w.kind
          ∙ ap (λ b. by_kind (g.kind f) (nat_eq e) b b) (any_agree n (occurs (node_flow n) e) (occurs g e) ids (g.parents f) w.parents agree)
          ∙ sym (occurs-step g law e f w.holds)

  -- so what a node's derivations have is what those of its fact do
  pub Carries-node : (x : ℕ → Bool) (i : ℕ) (f : F) → slice_get n.facts i ≡ Some f → Carries (node_flow n) x i ↔ Carries g x f
  Carries-node x i f at =
      let here = Carries-is (node_flow n) is.flow x i (node-holds i f at) in
      let there = Carries-is g law x f (m.each i f at).holds in
      (λ c. there.1 (sym (carried-node x i f at) ∙ here.0 c), λ c. here.1 (carried-node x i f at ∙ there.0 c))

  pub IsStrong-node : (e : ℕ) (i : ℕ) (f : F) → slice_get n.facts i ≡ Some f → IsStrong (node_flow n) e i ↔ IsStrong g e f
  IsStrong-node e i f at =
      let holds = (m.each i f at).holds in
      let here = IsStrong-is (node_flow n) is.flow e i (node-holds i f at) in
      let there = IsStrong-is g law e f holds in
      let same = strong-carried (node_flow n) is.flow e i (node-holds i f at) ∙ ap not (carried-node (all_but e) i f at) ∙ sym (strong-carried g law e f holds) in
      (λ s. there.1 (sym same ∙ here.0 s), λ s. here.1 (same ∙ there.0 s))

  pub IsInSome-node : (e : ℕ) (i : ℕ) (f : F) → slice_get n.facts i ≡ Some f → IsInSome (node_flow n) e i ↔ IsInSome g e f
  IsInSome-node e i f at =
      let here = IsInSome-is (node_flow n) is.flow e i (node-holds i f at) in
      let there = IsInSome-is g law e f (m.each i f at).holds in
      (λ s. there.1 (sym (occurs-node e i f at) ∙ here.0 s), λ s. here.1 (occurs-node e i f at ∙ there.0 s))
