-- The walk that makes formulas: what its tasks are to it, and that each step keeps it and falls.
use Rattle.std.proofs.Common.{◌≡◌, ℕ, ◌<◌, inl, inr, true, List, [], ◌∷◌, ◌++◌, length, map, reverse, Option, sym, ap, subst, ◌∙◌, refl, All}
use Rattle.std.proofs.lemmas.Bool.{lt-ltb}
use Rattle.std.proofs.lemmas.List.{reverse-append, map-append}
use Rattle.std.proofs.lemmas.List.Elements.{All-map}
use Rattle.nc_graph.specs.declared.node.NodeId.{NodeId}
use Rattle.nc_graph.specs.Flow.{Flow, IsFlow}
use Rattle.nc_graph.specs.Nodes.{Nodes, node_flow, IsGraph}
use Rattle.nc_graph.specs.Closure.{IsReachedFrom}
use Rattle.nc_graph.specs.Walk.{Step, visit, number, expanded}
use Rattle.nc_graph.proofs.Members.{In, of_all}
use Rattle.nc_graph.proofs.WalkLemmas.{in-reverse, reverse-in, fact_of, Waits, Waits-more, Waits-visits, Sound, reached-parent, reached-itself, reached-holds}
use Rattle.nc_graph.proofs.StackLemmas.{reverse-map}
use Rattle.nc_graph.proofs.Weights.{weight, skip-lighter, infer-lighter}
use Rattle.nc_formula.specs.declared.walk.Task.{Task}
use Rattle.nc_formula.specs.declared.walk.Task.TheVariants.{Need, Make}
use Rattle.nc_formula.specs.Formulas.{IsKnown, StillKnown}
use Rattle.nc_formula.specs.Tasks.{Opens}

module _ (g : Flow ℕ) where
  -- a task as a step of a walk through the nodes, and the steps of a stack, the next one first
  abbrev pub step_of : Task → Step ℕ
  step_of (Need p) = visit p.0
  step_of (Make p) = number p.0 (g.kind p.0) (g.parents p.0)

  abbrev pub steps : List Task → List (Step ℕ)
  steps ts = reverse (map step_of ts)

  pub steps-push : (ts : List Task) (t : Task) → steps (ts ++ t ∷ []) ≡ step_of t ∷ steps ts
  steps-push ts t = ap reverse (map-append step_of ts (t ∷ [])) ∙ reverse-append (map step_of ts) (step_of t ∷ [])

  needs-are : (ids : List NodeId) → map step_of (map Need ids) ≡ map visit (map (λ p. p.0) ids)
  needs-are [] = refl
  needs-are (p ∷ ps) = ap (λ st. visit p.0 ∷ st) (needs-are ps)

  pub steps-needs : (ts : List Task) (ids : List NodeId) → steps (ts ++ map Need ids) ≡ map visit (reverse (map (λ p. p.0) ids)) ++ steps ts
  steps-needs ts ids =
      ap reverse (map-append step_of ts (map Need ids)) ∙ reverse-append (map step_of ts) (map step_of (map Need ids))
      ∙ ap (λ st. reverse st ++ steps ts) (needs-are ids) ∙ ap (λ st. st ++ steps ts) (reverse-map visit (map (λ p. p.0) ids))

  -- the last task, by what it is
  pub steps-pop : (ts rest : List Task) (t u : Task) → ts ≡ rest ++ t ∷ [] → t ≡ u → steps ts ≡ step_of u ∷ steps rest
  steps-pop ts rest t u e s = ap steps (e ∙ ap (λ v. rest ++ v ∷ []) s) ∙ steps-push rest u

  -- what holds between two steps: those to be made find their parents known, where those of `done` are by now, and at the end
  -- the roots are; and the node of each step is reached
  pub record IsMaking (roots : List ℕ) (table : List (Option ℕ)) (st : List (Step ℕ)) : Type 0 where
    pub done : List ℕ
    pub known : (i : ℕ) → In i done → IsKnown table i
    pub waits : Waits roots done st
    pub sound : Sound g roots st

  sound-visits : (roots : List ℕ) (rest : List (Step ℕ)) (qs : List ℕ) → ((q : ℕ) → In q qs → IsReachedFrom g roots q) → Sound g roots rest → Sound g roots (map visit qs ++ rest)
  sound-visits roots rest [] all s = s
  sound-visits roots rest (q ∷ qs) all s = (all q (inl refl), tt, sound-visits roots rest qs (λ x i. all x (inr i)) s)

  module _ (roots : List ℕ) (table : List (Option ℕ)) where
    pub begins : (ids : List NodeId) → roots ≡ map (λ p. p.0) ids → (ts : List Task) → ts ≡ [] ++ map Need ids → IsMaking roots table (steps ts)
    begins ids e ts are = subst (IsMaking roots table) (sym (ap steps are ∙ steps-needs [] ids ∙ ap (λ is. map visit (reverse is) ++ []) (sym e))) (record {
      done = [];
      known = λ i j. absurd j;
      waits = Waits-visits roots [] (reverse roots) [] (λ d sub new x i. new x (reverse-in roots x i));
      sound = sound-visits roots [] (reverse roots) (λ q i. reached-itself g roots q (in-reverse roots q i)) tt;
    })

    -- a node that is known is left
    skips : (i : ℕ) (st : List (Step ℕ)) → IsKnown table i → IsMaking roots table (visit i ∷ st) → IsMaking roots table st
    skips i st k m = record {
      done = i ∷ m.done;
      known = λ j within. elim within [ inl e ↦ subst (IsKnown table) e k | inr w ↦ m.known j w ];
      waits = m.waits;
      sound = m.sound.2;
    }

    -- a node is to be made after its parents
    expands : (i : ℕ) (st : List (Step ℕ)) → IsMaking roots table (visit i ∷ st) → IsMaking roots table (expanded g i st)
    expands i st m =
        let ps = g.parents i in
        let rest : List (Step ℕ) = number i (g.kind i) ps ∷ st in
        record {
          done = m.done;
          known = m.known;
          waits = Waits-visits roots rest (reverse ps) m.done (λ d sub new. (
            λ x w. new x (reverse-in ps x w),
            Waits-more roots st (i ∷ m.done) (i ∷ d) (λ x w. elim w [ inl e ↦ inl e | inr w' ↦ inr (sub x w') ]) m.waits,
          ));
          sound = sound-visits roots rest (reverse ps) (λ q w. reached-parent g roots i q m.sound.0 (in-reverse ps q w)) (m.sound.0, (refl, refl), m.sound.2);
        }

    -- the parents of a node that is to be made are known
    pub parents-known : (i : ℕ) (st : List (Step ℕ)) → IsMaking roots table (number i (g.kind i) (g.parents i) ∷ st) → (p : ℕ) → In p (g.parents i) → IsKnown table p
    parents-known i st m p within = m.known p (m.waits.0 p within)

    -- a node is made
    pub makes : (next : List (Option ℕ)) (i : ℕ) (st : List (Step ℕ)) → StillKnown table next → IsKnown next i → IsMaking roots table (number i (g.kind i) (g.parents i) ∷ st) → IsMaking roots next st
    makes next i st still k m = record {
      done = i ∷ m.done;
      known = λ j within. elim within [ inl e ↦ subst (IsKnown next) e k | inr w ↦ (let old = m.known j w in (old.0, still j old.0 old.1)) ];
      waits = m.waits.1;
      sound = m.sound.2;
    }

    -- where nothing is left to do, the roots are known
    pub ends : IsMaking roots table [] → (x : ℕ) → In x roots → IsKnown table x
    ends m x i = m.known x (m.waits x i)

    -- the nodes of steps hold
    pub step-holds : IsFlow g → ((x : ℕ) → In x roots → g.holds x ≡ true) → (s : Step ℕ) (st : List (Step ℕ)) → IsMaking roots table (s ∷ st) → g.holds (fact_of s) ≡ true
    step-holds law hold s st m = reached-holds g law roots hold (fact_of s) m.sound.0

-- nodes of the graph hold
pub roots-hold : {F : Type 0} (n : Nodes F) (ids : List NodeId) → All (λ p. p.0 < length n.facts) ids → (x : ℕ) → In x (map (λ p. p.0) ids) → (node_flow n).holds x ≡ true
roots-hold n ids valid x i = lt-ltb x (length n.facts) (of_all (λ i. i < length n.facts) (map (λ p. p.0) ids) x (All-map (λ i. i < length n.facts) (λ p. p.0) ids valid) i)

-- a node that is needed is seen to
pub opened : {F : Type 0} (n : Nodes F) (is : IsGraph n) (roots : List ℕ) (hold : (x : ℕ) → In x roots → (node_flow n).holds x ≡ true) (table : List (Option ℕ)) (node : NodeId) (old new : List Task)
    → Opens n table node old new → IsMaking (node_flow n) roots table (visit node.0 ∷ steps (node_flow n) old)
    → IsMaking (node_flow n) roots table (steps (node_flow n) new) × (weight (node_flow n) (steps (node_flow n) new) < weight (node_flow n) (visit node.0 ∷ steps (node_flow n) old))
opened n is roots hold table node old new (inl known) m =
    let g = node_flow n in
    let same = ap (steps g) (sym known.1) in (
      subst (IsMaking g roots table) same (skips g roots table node.0 (steps g old) known.0 m),
      subst (λ (st : List (Step ℕ)). weight g st < weight g (visit node.0 ∷ steps g old)) same (skip-lighter g node.0 (steps g old)),
    )
opened n is roots hold table node old new (inr more) m =
    let g = node_flow n in
    let same : expanded g node.0 (steps g old) ≡ steps g new =
    sym (ap (steps g) more ∙ steps-needs g (old ++ Make node ∷ []) _ ∙ ap (λ st. map visit (reverse (g.parents node.0)) ++ st) (steps-push g old (Make node))) in (
      subst (IsMaking g roots table) same (expands g roots table node.0 (steps g old) m),
      subst (λ (st : List (Step ℕ)). weight g st < weight g (visit node.0 ∷ steps g old)) same
          (infer-lighter g is.flow node.0 (steps g old) (step-holds g roots table is.flow hold (visit node.0) (steps g old) m)),
    )
