-- The first element that is strong for a test and may be cut is the least cut of the test.
use Rattle.std.proofs.Common.{◌≡◌, ◌↔◌, ℕ, ◌+◌, ◌<◌, Bool, true, false, not, ◌&&◌, ◌||◌, nat_eq, List, [], ◌∷◌, ◌++◌, length, map, take, get_or, append-nil, Option, Some, None, IfSome, inl, inr, refl, sym, ap, subst, ◌∙◌, slice_get, arith}
use Rattle.std.specs.List.{flat_map, list_any}
use Rattle.std.proofs.lemmas.Bool.{cases_lt, eqb-true, eq-eqb, lt-ltb, true≢false}
use Rattle.std.proofs.lemmas.Grind.{flat_map-append}
use Rattle.std.proofs.lemmas.List.{get_or_past, take_more}
use Rattle.std.proofs.lemmas.Option.{slice_get_within}
use Rattle.nc_types.specs.Config.{ConfigView}
use Rattle.nc_types.specs.Network.{element_count}
use Rattle.nc_graph.specs.declared.node.NodeId.{NodeId}
use Rattle.nc_graph.specs.Flow.{Flow, IsFlow}
use Rattle.nc_graph.specs.Derivation.{Carries, carried, all_but as all_elements_but}
use Rattle.nc_graph.specs.Nodes.{Nodes, node_flow, IsGraph, Mirrors, AreNodesOf}
use Rattle.nc_graph.proofs.DerivationLaws.{strong-carried}
use Rattle.nc_graph.proofs.NodeLaws.{carried-node}
use Rattle.nc_graph.proofs.Members.{In, any_in, in_any, in_flat_map, flat_map_in, of_all, all_from}
use Rattle.nc_graph.proofs.WalkLemmas.{Contains-in}
use Rattle.nc_diagram.specs.Sets.{Members, has, all_but}
use Rattle.nc_cut.specs.Cuts as plain
use Rattle.nc_formula.specs.Parts.{carrying_each}
use Rattle.nc_formula.proofs.LawLemmas.{alike_but}
use Rattle.nc_marks.specs.Kept.{Kept, AreKept, strong_at}
use Rattle.nc_marks.specs.Sets.{has as has_element}
use Rattle.nc_fact.specs.declared.fact.Fact.{Fact}
use Rattle.nc_engine.specs.Cuts.{is_kept, may_be_cut}
use Rattle.nc_engine.proofs.Carrying.{Hold, carry-to}
use Rattle.nc_engine.proofs.Cuttable.{free_count}
use Rattle.nc_engine.proofs.Cutting.{free_from, free_of}

-- what may be cut is an element
pub cut_within : (routers : List ConfigView) (names : List (List ℕ)) (v : ℕ) → may_be_cut routers names v ≡ true → v < element_count routers
cut_within routers names v may = elim (cases_lt v (element_count routers)) [
  | inl lt ↦ lt
  | inr past ↦
      absurd (true≢false (sym may ∙ sym (free_of routers names v)
      ∙ get_or_past (free_from (is_kept routers names) 0 routers) v false (omega (arith, past, free_count (is_kept routers names) 0 routers))))
]

-- the sets of one node more are listed
pub sets_more : (free : List Bool) (sets : NodeId → List ℕ) (ids : List NodeId) (k : ℕ) (d : NodeId) (set : List ℕ) (o : Option ℕ) → k < length ids → set ≡ sets (get_or ids k d)
    → plain.IsFirstFree free (flat_map sets (take k ids) ++ set) o → plain.IsFirstFree free (flat_map sets (take (k + 1) ids)) o
sets_more free sets ids k d set o lt same is =
    subst (λ (listed : List ℕ). plain.IsFirstFree free listed o)
    (ap (λ (l : List ℕ). flat_map sets (take k ids) ++ l) (same ∙ sym (append-nil (sets (get_or ids k d))))
    ∙ sym (flat_map-append sets (take k ids) (get_or ids k d ∷ [])) ∙ ap (flat_map sets) (sym (take_more ids k d lt))) is

-- a set has what is in its list
has-in : (set : List ℕ) (e : ℕ) → has_element set e ≡ true → In e set
has-in set e there = let r = any_in (nat_eq e) set there in subst (λ x. In x set) (sym (eqb-true e r.0 r.2)) r.1

in-has : (set : List ℕ) (e : ℕ) → In e set → has_element set e ≡ true
in-has set e there = in_any (nat_eq e) set e there (eq-eqb e e refl)

not_true : (b : Bool) → not b ≡ true → b ≡ false
not_true true is = absurd (true≢false (sym is))
not_true false is = refl

not_both : (a b : Bool) → (not a || not b) ≡ not (a && b)
not_both true b = refl
not_both false b = refl

-- all elements are in the set of all
has_all : (e : ℕ) → has (all_but []) e ≡ true
unfolding all_but
has_all e = get_or_past [] e true (omega arith)

module _ (g : Flow Fact) (law : IsFlow g) (n : Nodes Fact) (is : IsGraph n) (m : Mirrors g n) (k : Kept) (live : List ℕ) (elements : ℕ)
    (kept : AreKept (node_flow n) (length n.facts) live elements k) where
  -- an element is in the set of a node where without it the node's fact isn't carried
  of-node : (e i : ℕ) (f : Fact) → e < elements → slice_get n.facts i ≡ Some f → has_element (strong_at k i) e ≡ not (carried g (has (all_but (e ∷ []))) f)
  of-node e i f lt at =
      let within : i < length n.facts = slice_get_within n.facts i f at in
      kept.sets i within e lt
      ∙ strong-carried (node_flow n) is.flow e i (lt-ltb i (length n.facts) within)
      ∙ ap not (carried-node g law n is m (all_elements_but e) i f at ∙ sym (ap (λ x. carried g x f) (λ j v. alike_but e v j)))

  -- it is in that of some node of a test where without it the test isn't carried
  of-test : (e : ℕ) → e < elements → (ids : List NodeId) (facts : List Fact) → AreNodesOf n ids facts
      → list_any (λ p. has_element (strong_at k p.0) e) ids ≡ not (carrying_each g facts (all_but (e ∷ [])))
  of-test e lt [] [] are = refl
  of-test e lt [] (f ∷ facts) are = absurd cc
  of-test e lt (p ∷ ids) [] are = absurd cc
  of-test e lt (p ∷ ids) (f ∷ facts) are =
      let first : slice_get n.facts p.0 ≡ Some f = cc in
      let rest : map (λ d. slice_get n.facts d.0) ids ≡ map Some facts = cc in
      ap (λ b. b || list_any (λ d. has_element (strong_at k d.0) e) ids) (of-node e p.0 f lt first)
      ∙ ap (λ b. not (carried g (has (all_but (e ∷ []))) f) || b) (of-test e lt ids facts rest)
      ∙ not_both (carried g (has (all_but (e ∷ []))) f) (carrying_each g facts (all_but (e ∷ [])))

  module _ (evaluated : (x : ℕ → Bool) (f : Fact) → g.holds f ≡ true → Carries g x f ↔ (carried g x f ≡ true))
      (one_variable : (f : Members → Bool) (free : List Bool) (v : ℕ) → f (all_but []) ≡ true → plain.is_free free v ≡ true → f (all_but (v ∷ [])) ≡ false
      → ((w : ℕ) → w < v → plain.is_free free w ≡ true → f (all_but (w ∷ [])) ≡ true) → plain.IsLeastCut f free (v ∷ []))
      (ids : List NodeId) (facts : List Fact) (are : AreNodesOf n ids facts) (hold : Hold g facts)
      (free : List Bool) (within : (e : ℕ) → plain.is_free free e ≡ true → e < elements) where
    alone : (v : ℕ) → plain.IsFirstFree free (flat_map (λ p. strong_at k p.0) ids) (Some v) → plain.IsLeastCut (carrying_each g facts) free (v ∷ [])
    alone v first = one_variable (carrying_each g facts) free v all first.1 never before
      where
        strongs : NodeId → List ℕ
        strongs p = strong_at k p.0

        all : carrying_each g facts (all_but []) ≡ true
        all = carry-to g evaluated facts hold (all_but []) (all_from (λ f. Carries g (has (all_but [])) f) facts (λ f i. ([], λ e stands. has_all e)))

        never : carrying_each g facts (all_but (v ∷ [])) ≡ false
        never =
            let r = flat_map_in strongs ids v (Contains-in (flat_map strongs ids) v first.0) in
            not_true (carrying_each g facts (all_but (v ∷ [])))
            (sym (of-test v (within v first.1) ids facts are) ∙ in_any (λ p. has_element (strong_at k p.0) v) ids r.0 r.1 (in-has (strongs r.0) v r.2))

        before : (w : ℕ) → w < v → plain.is_free free w ≡ true → carrying_each g facts (all_but (w ∷ [])) ≡ true
        before w lt may = on (carrying_each g facts (all_but (w ∷ []))) refl
          where
            on : (b : Bool) → carrying_each g facts (all_but (w ∷ [])) ≡ b → carrying_each g facts (all_but (w ∷ [])) ≡ true
            on true so = so
            on false so =
                let r = any_in (λ p. has_element (strong_at k p.0) w) ids (of-test w (within w may) ids facts are ∙ ap not so) in
                let there : In w (flat_map strongs ids) = in_flat_map strongs ids r.0 w r.1 (has-in (strongs r.0) w r.2) in
                absurd (true≢false (sym may ∙ of_all (λ u. u < v → plain.is_free free u ≡ false) (flat_map strongs ids) w first.2 there lt))

    pub first-alone : (o : Option ℕ) → plain.IsFirstFree free (flat_map (λ p. strong_at k p.0) ids) o → IfSome o (λ v. plain.IsLeastCut (carrying_each g facts) free (v ∷ []))
    first-alone None none = tt
    first-alone (Some v) first = alone v first
