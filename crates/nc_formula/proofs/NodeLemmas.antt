-- A node's diagram by those of its parents: what it means, and of which bases it is made.
use Rattle.std.proofs.Common.{◌≡◌, ℕ, ◌<◌, inl, inr, Bool, true, false, cond, ◌&&◌, ◌||◌, List, [], ◌∷◌, length, map, take, slice_get, Option, Some, Result, Ok, Err, nat_eq, sym, ap, subst, ◌∙◌, refl, All, IfOk, OnOk, OnErr, if◌then◌else◌}
use Rattle.std.proofs.lemmas.Bool.{lt-ltb, eqb-true}
use Rattle.std.proofs.lemmas.List.{take-map}
use Rattle.std.specs.Option.{option_map_or}
use Rattle.nc_graph.specs.declared.node.NodeKind.{NodeKind}
use Rattle.nc_graph.specs.declared.node.NodeKind.TheVariants as kind
use Rattle.nc_graph.specs.declared.node.NodeId.{NodeId}
use Rattle.nc_graph.specs.Flow.{Flow, by_kind}
use Rattle.nc_graph.specs.Nodes.{Nodes, node_flow, IsGraph}
use Rattle.nc_graph.proofs.Members.{In, of_all, all_from}
use Rattle.nc_graph.proofs.Parents.{in-map, kind-at, parents-at}
use Rattle.nc_graph.proofs.DerivationLaws.{carried-step}
use Rattle.nc_graph.proofs.WalkLemmas.{prefix-in}
use Rattle.nc_diagram.specs.declared.node.Node.{Node}
use Rattle.nc_diagram.specs.declared.fault.StoreFault.{StoreFault}
use Rattle.nc_diagram.specs.Sets.{Members, Same, has}
use Rattle.nc_diagram.specs.Diagrams.{Diagrams, meaning, Means, Adds, IsReduced}
use Rattle.nc_diagram.proofs.Canonicity.{canonical}
use Rattle.nc_formula.specs.Parts.{carrying, carrying_each, carrying_one, carrying_first, IsBaseOf, IsBaseOfTest, Gains}
use Rattle.nc_formula.specs.Formulas.{known, IsKnown, StillKnown, IsDiagram, AreFormulas, HasReference, known_value, each_known, one_known, IsFirstEachKnown, IsFirstOneKnown}
use Rattle.nc_formula.proofs.GainLemmas.{Bases, Within, gains-none, gains-adds}

-- the outcome of an operation under another name of its function, and what it gains at each outcome
pub means-same : (d : Diagrams) (r : Result ℕ StoreFault) (f h : Members → Bool) → IfOk r (λ x. Means d x f) → Same f h → IfOk r (λ x. Means d x h)
means-same d (Ok x) f h m e = record { belongs = m.belongs; means = λ s. m.means s ∙ e s }
means-same d (Err x) f h m e = tt

pub gains-operated : (A : Bases) (r : Result ℕ StoreFault) (f : Members → Bool) (old new : Diagrams) → A f → OnOk r (Adds f old new) → OnErr r (new ≡ old) → Gains A old new
gains-operated A (Ok x) f old new base adds err = gains-adds A f old new base adds
gains-operated A (Err x) f old new base adds err = subst (Gains A old) (sym err) (gains-none A old)

-- formulas stay true of a store that gained nodes
pub formulas-stay : (A : Bases) (g : Flow ℕ) (old new : Diagrams) (table : List (Option ℕ)) → Gains A old new → AreFormulas g old.nodes table → AreFormulas g new.nodes table
formulas-stay A g old new table gained are = record {
  each = λ i r e.
      let d = are.each i r e in
      let more = gained.unchanged r d.belongs in
      record { holds = d.holds; belongs = more.0; means = λ s. more.1 s ∙ d.means s };
}

-- and of a table that knows the same
pub formulas-alike : (g : Flow ℕ) (nodes : List Node) (before after : List (Option ℕ)) → ((i : ℕ) → known after i ≡ known before i) → AreFormulas g nodes before → AreFormulas g nodes after
formulas-alike g nodes before after same are = record { each = λ i r e. are.each i r (sym (same i) ∙ e) }

module _ (g : Flow ℕ) (nodes : List Node) (before after : List (Option ℕ)) (node r : ℕ)
    (learned : (i : ℕ) → known after i ≡ (if nat_eq i node then Some r else known before i))
    (are : AreFormulas g nodes before) (is : IsDiagram g nodes node r) where
  -- one more formula
  pub formulas-learned : AreFormulas g nodes after
  formulas-learned = record {
    each = λ i q e. elim (nat_eq i node) as (λ b. nat_eq i node ≡ b → (cond b (Some r) (known before i) ≡ Some q) → IsDiagram g nodes i q) [
      | true ↦ λ t h. (let same : r ≡ q = cc in subst (λ j. IsDiagram g nodes j q) (sym (eqb-true i node t)) (subst (IsDiagram g nodes node) same is))
      | false ↦ λ t h. are.each i q h
    ] refl (sym (learned i) ∙ e);
  }

  -- keeps what was known, since a function has one reference
  pub still-learned : IsReduced nodes → StillKnown before after
  still-learned reduced i q e =
      learned i ∙ elim (nat_eq i node) as (λ b. nat_eq i node ≡ b → cond b (Some r) (known before i) ≡ Some q) [
        | true ↦ λ t. ap Some (canonical nodes reduced r q is.belongs (are.each i q e).belongs (λ s. is.means s ∙ ap (λ j. carrying g j s) (sym (eqb-true i node t)) ∙ sym ((are.each i q e).means s)))
        | false ↦ λ t. e
      ] refl

module _ (g : Flow ℕ) (nodes : List Node) (table : List (Option ℕ)) (are : AreFormulas g nodes table) where
  value-is : (i : ℕ) → IsKnown table i → Same (known_value nodes table i) (carrying g i)
  value-is i known s = ap (λ o. option_map_or (λ r. meaning nodes r s) o true) known.1 ∙ (are.each i known.0 known.1).means s

  -- what is known of nodes is what carries them
  pub each-is : (ids : List NodeId) → ((p : NodeId) → In p ids → IsKnown table p.0) → Same (each_known nodes table ids) (carrying_each g (map (λ p. p.0) ids))
  each-is [] h s = refl
  each-is (p ∷ ps) h s = ap (λ b. b && each_known nodes table ps s) (value-is p.0 (h p (inl refl)) s) ∙ ap (λ b. carrying g p.0 s && b) (each-is ps (λ q i. h q (inr i)) s)

  one-is : (ids : List NodeId) → ((p : NodeId) → In p ids → IsKnown table p.0) → Same (one_known nodes table ids) (carrying_one g (map (λ p. p.0) ids))
  one-is [] h s = refl
  one-is (p ∷ ps) h s = ap (λ b. b || one_known nodes table ps s) (value-is p.0 (h p (inl refl)) s) ∙ ap (λ b. carrying g p.0 s || b) (one-is ps (λ q i. h q (inr i)) s)

  -- and so of the first of them
  first-each : (ids : List NodeId) → ((p : NodeId) → In p ids → IsKnown table p.0) → (k : ℕ) → Same (each_known nodes table (take k ids)) (carrying_each g (take k (map (λ p. p.0) ids)))
  first-each ids h k s = each-is (take k ids) (λ p i. h p (prefix-in k ids p i)) s ∙ ap (λ is. carrying_each g is s) (sym (take-map (λ (p : NodeId). p.0) k ids))

  first-one : (ids : List NodeId) → ((p : NodeId) → In p ids → IsKnown table p.0) → (k : ℕ) → Same (one_known nodes table (take k ids)) (carrying_one g (take k (map (λ p. p.0) ids)))
  first-one ids h k s = one-is (take k ids) (λ p i. h p (prefix-in k ids p i)) s ∙ ap (λ is. carrying_one g is s) (sym (take-map (λ (p : NodeId). p.0) k ids))

  -- the first facts of a test together
  pub test-bases : (ids : List NodeId) → ((p : NodeId) → In p ids → IsKnown table p.0) → Within (IsFirstEachKnown nodes table ids) (IsBaseOfTest g (map (λ p. p.0) ids))
  test-bases ids h b (k, e) = inr (k, λ s. e s ∙ first-each ids h k s)

  -- a reference of the store is known for each
  pub have-references : (ids : List NodeId) → ((p : NodeId) → In p ids → IsKnown table p.0) → All (λ p. HasReference table nodes p.0) ids
  have-references ids h = all_from (λ p. HasReference table nodes p.0) ids (λ p i. let k = h p i in (k.0, k.1, (are.each p.0 k.0 k.1).belongs))

module _ {F : Type 0} (n : Nodes F) (is : IsGraph n) (i : ℕ) (valid : i < length n.facts) (k : NodeKind) (at : slice_get n.kinds i ≡ Some k) where
  by-parents : (s : Members) → carrying (node_flow n) i s
      ≡ by_kind k (has s) (carrying_each (node_flow n) ((node_flow n).parents i) s) (carrying_one (node_flow n) ((node_flow n).parents i) s)
  by-parents s =
      let ps = (node_flow n).parents i in
      carried-step (node_flow n) is.flow (has s) i (lt-ltb i (length n.facts) valid)
      ∙ ap (λ v. by_kind v (has s) (carrying_each (node_flow n) ps s) (carrying_one (node_flow n) ps s)) (kind-at n i k at)

  first-is : (j : ℕ) (s : Members) → carrying_first (node_flow n) i j s
      ≡ by_kind k (has s) (carrying_each (node_flow n) (take j ((node_flow n).parents i)) s) (carrying_one (node_flow n) (take j ((node_flow n).parents i)) s)
  first-is j s =
      let ps = take j ((node_flow n).parents i) in
      ap (λ v. by_kind v (has s) (carrying_each (node_flow n) ps s) (carrying_one (node_flow n) ps s)) (kind-at n i k at)

  -- a leaf is carried by the sets with its element
  pub leaf-is : (e : ℕ) → k ≡ kind.Leaf e → Same (λ s. has s e) (carrying (node_flow n) i)
  leaf-is e q s =
      let ps = (node_flow n).parents i in
      sym (by-parents s ∙ ap (λ v. by_kind v (has s) (carrying_each (node_flow n) ps s) (carrying_one (node_flow n) ps s)) q)

  pub leaf-base : (e : ℕ) → k ≡ kind.Leaf e → IsBaseOf (node_flow n) i (λ s. has s e)
  leaf-base e q = inl (leaf-is e q)

  module _ (nodes : List Node) (table : List (Option ℕ)) (are : AreFormulas (node_flow n) nodes table) (ps : List NodeId) (parents : slice_get n.parents i ≡ Some ps)
      (below : All (IsKnown table) ((node_flow n).parents i)) where
    pub each-known : (p : NodeId) → In p ps → IsKnown table p.0
    each-known p within = of_all (IsKnown table) ((node_flow n).parents i) p.0 below (subst (In p.0) (sym (parents-at n i ps parents)) (in-map ps p within))

    pub references : All (λ p. HasReference table nodes p.0) ps
    references = have-references (node_flow n) nodes table are ps each-known

    -- a conjunctive node by all of its parents
    pub every-is : k ≡ kind.Every → Same (each_known nodes table ps) (carrying (node_flow n) i)
    every-is q s =
        let qs = (node_flow n).parents i in
        each-is (node_flow n) nodes table are ps each-known s
        ∙ ap (λ is. carrying_each (node_flow n) is s) (sym (parents-at n i ps parents))
        ∙ sym (by-parents s ∙ ap (λ v. by_kind v (has s) (carrying_each (node_flow n) qs s) (carrying_one (node_flow n) qs s)) q)

    pub every-bases : k ≡ kind.Every → Within (IsFirstEachKnown nodes table ps) (IsBaseOf (node_flow n) i)
    every-bases q b (j, e) = inr (
      j,
      λ s.
          let qs = take j ((node_flow n).parents i) in
          e s ∙ first-each (node_flow n) nodes table are ps each-known j s
          ∙ ap (λ is. carrying_each (node_flow n) (take j is) s) (sym (parents-at n i ps parents))
          ∙ sym (first-is j s ∙ ap (λ v. by_kind v (has s) (carrying_each (node_flow n) qs s) (carrying_one (node_flow n) qs s)) q),
    )

    -- a disjunctive node by some of them
    pub any-is : k ≡ kind.Any → Same (one_known nodes table ps) (carrying (node_flow n) i)
    any-is q s =
        let qs = (node_flow n).parents i in
        one-is (node_flow n) nodes table are ps each-known s
        ∙ ap (λ is. carrying_one (node_flow n) is s) (sym (parents-at n i ps parents))
        ∙ sym (by-parents s ∙ ap (λ v. by_kind v (has s) (carrying_each (node_flow n) qs s) (carrying_one (node_flow n) qs s)) q)

    pub any-bases : k ≡ kind.Any → Within (IsFirstOneKnown nodes table ps) (IsBaseOf (node_flow n) i)
    any-bases q b (j, e) = inr (
      j,
      λ s.
          let qs = take j ((node_flow n).parents i) in
          e s ∙ first-one (node_flow n) nodes table are ps each-known j s
          ∙ ap (λ is. carrying_one (node_flow n) (take j is) s) (sym (parents-at n i ps parents))
          ∙ sym (first-is j s ∙ ap (λ v. by_kind v (has s) (carrying_each (node_flow n) qs s) (carrying_one (node_flow n) qs s)) q),
    )
