-- The state of a walk, and that each step keeps it.
use Rattle.std.proofs.Common.{◌≡◌, ℕ, ◌+◌, ◌-◌, ◌^◌, ◌<◌, ◌≤◌, inl, inr, Bool, true, false, List, [], ◌∷◌, ◌++◌, length, map, reverse, take, Some, slice_get, sym, ap, ◌∙◌, subst, refl, arith, append_assoc}
use Rattle.std.proofs.lemmas.List.{length-append, take-append-le, length_push, take_all, append-nil, nil_from_length}
use Rattle.std.proofs.lemmas.List.Elements.{All-from_recursion}
use Rattle.std.specs.List.{list_any, All, AllByRecursion, IsDistinct}
use Rattle.nc_graph.specs.declared.node.NodeKind.{NodeKind}
use Rattle.nc_graph.specs.declared.node.NodeKind.TheVariants.{Leaf, Every, Any}
use Rattle.nc_graph.specs.declared.node.NodeId.{NodeId}
use Rattle.nc_graph.specs.Flow.{Flow, IsFlow, raised}
use Rattle.nc_graph.specs.Closure.{IsReachedFrom, IsClosure, ReachesMoreThan}
use Rattle.nc_graph.specs.Nodes.{Nodes, IsGraph, Mirrors, HasShape, AreNodesOf, with_node, Extends}
use Rattle.nc_graph.specs.Tasks.{last_of, before_last}
use Rattle.nc_graph.specs.Walk.{Step, visit, number, expanded}
use Rattle.nc_graph.proofs.Members.{In, in_left, in_right, in_parts}
use Rattle.nc_graph.proofs.DerivationLaws.{parent_lower}
use Rattle.nc_graph.proofs.NodeLemmas.{nodes_of-length, nodes_of-within, IsGraph-with_node, Mirrors-with_node}
use Rattle.nc_graph.proofs.GatherLemmas.{Are-more, Are-turned, parents_enough, last-are, before-are, placed-are}
use Rattle.nc_graph.proofs.WalkLemmas.{Contains-in, in-Contains, Apart, Apart-push, Apart-distinct, distinct-Apart, absent-from_in, in-reverse, reverse-in, open_facts, fact_of, open-visits, Gathers, Gathers-visits, Ranked, Sound, reached-parent, reached-itself, reached-holds, reached-closed, Mirrors-closed, fact_of_node, prefix-length, prefix-in}

-- what holds between two steps of a walk from the roots, which began at the graph `old` with `before` facts inferred: the graph is n, the nodes that are kept are ids, the steps are st, `found` facts are numbered or inferred, and `count` were inferred
pub record Walk {F : Type 0} (g : Flow F) (old : Nodes F) (roots : List F) (before : ℕ) (n : Nodes F) (ids : List NodeId) (st : List (Step F)) (found count : ℕ) : Type 0 where
  pub graph : IsGraph n
  pub mirrors : Mirrors g n
  pub extends : Extends old n
  pub reached : (f : F) → In f n.facts → IsReachedFrom g (old.facts ++ roots) f
  pub sound : Sound g (old.facts ++ roots) st
  pub kept : List F
  pub are : AreNodesOf n ids kept
  pub gathers : Gathers roots kept st
  pub ranked : Ranked g st
  pub apart : Apart (open_facts st ++ n.facts)
  pub all_found : found ≡ length (open_facts st) + length n.facts
  pub room : found ≤ n.limit
  pub counted : count ≡ raised before (found - length old.facts)

module _ {F : Type 0} (g : Flow F) (law : IsFlow g) (old : Nodes F) (roots : List F) (before : ℕ)
    (roots-hold : (x : F) → In x (old.facts ++ roots) → g.holds x ≡ true) where
  -- the facts of steps hold
  pub step-holds : (s : Step F) (st : List (Step F)) → Sound g (old.facts ++ roots) (s ∷ st) → g.holds (fact_of s) ≡ true
  step-holds s st w = reached-holds g law (old.facts ++ roots) roots-hold (fact_of s) w.0

  -- the node of a fact that has one is kept
  pub skip : (f : F) (st : List (Step F)) (n : Nodes F) (ids : List NodeId) (found count : ℕ) → Walk g old roots before n ids (visit f ∷ st) found count → (p : NodeId) → slice_get n.facts p.0 ≡ Some f
      → Walk g old roots before n (ids ++ p ∷ []) st found count
  skip f st n ids found count w p at = record {
    graph = w.graph;
    mirrors = w.mirrors;
    extends = w.extends;
    reached = w.reached;
    sound = w.sound.2;
    kept = w.kept ++ f ∷ [];
    are = Are-more n.facts f ids w.kept p w.are at;
    gathers = w.gathers;
    ranked = w.ranked.1;
    apart = w.apart;
    all_found = w.all_found;
    room = w.room;
    counted = w.counted;
  }

  -- a fact that is visited and has no node is in no numbering either
  pub fresh : (f : F) (st : List (Step F)) (n : Nodes F) (ids : List NodeId) (found count : ℕ) → Walk g old roots before n ids (visit f ∷ st) found count → (In f n.facts → ⊥) → In f (open_facts st ++ n.facts) → ⊥
  fresh f st n ids found count w absent i =
      elim (in_parts (open_facts st) n.facts f i) [ inl j ↦ absurd (let low = w.ranked.0 f j in omega arith) | inr j ↦ absent j ]

  sound-visits : (from : List F) (rest : List (Step F)) (qs : List F) → ((q : F) → In q qs → IsReachedFrom g from q) → Sound g from rest → Sound g from (map visit qs ++ rest)
  sound-visits from rest [] all s = s
  sound-visits from rest (q ∷ qs) all s = (all q (inl refl), tt, sound-visits from rest qs (λ x i. all x (inr i)) s)

  ranked-visits : (rest : List (Step F)) (qs : List F) → ((q : F) → In q qs → (h : F) → In h (open_facts rest) → g.rank q < g.rank h) → Ranked g rest → Ranked g (map visit qs ++ rest)
  ranked-visits rest [] low r = r
  ranked-visits rest (q ∷ qs) low r =
      (λ h i. low q (inl refl) h (subst (In h) (open-visits qs rest) i), ranked-visits rest qs (λ x i. low x (inr i)) r)

  -- a fact is inferred
  pub infers : (f : F) (st : List (Step F)) (n : Nodes F) (ids : List NodeId) (found count : ℕ) → Walk g old roots before n ids (visit f ∷ st) found count → (In f n.facts → ⊥) → found < n.limit
      → Walk g old roots before n ids (expanded g f st) (found + 1) (raised count 1)
  infers f st n ids found count w absent room =
      let ps = g.parents f in
      let holds = step-holds (visit f) st w.sound in
      let rest : List (Step F) = number f (g.kind f) ps ∷ st in
      let opened : open_facts (expanded g f st) ≡ f ∷ open_facts st = open-visits (reverse ps) rest in
      record {
        graph = w.graph;
        mirrors = w.mirrors;
        extends = w.extends;
        reached = w.reached;
        sound = sound-visits (old.facts ++ roots) rest (reverse ps) (λ q i. reached-parent g (old.facts ++ roots) f q w.sound.0 (in-reverse ps q i)) (w.sound.0, (refl, refl), w.sound.2);
        kept = w.kept;
        are = w.are;
        gathers = Gathers-visits roots rest (reverse ps) w.kept (w.kept, refl, w.gathers);
        ranked = ranked-visits rest (reverse ps)
            (λ q i h j. let low = parent_lower g law f q holds (in-reverse ps q i) in elim j [ inl e ↦ subst (λ y. g.rank q < g.rank y) e low | inr j' ↦ let up = w.ranked.0 h j' in omega arith ])
            (w.ranked.0, w.ranked.1);
        apart = subst (λ fs. Apart (fs ++ n.facts)) (sym opened) (fresh f st n ids found count w absent, w.apart);
        all_found = (let a = w.all_found in let b = ap length opened in omega arith);
        room = omega arith;
        counted = (let a = w.counted in let b = w.all_found in let c = prefix-length old.facts n.facts w.extends.facts in omega arith);
      }

  -- what numbering asks of a fact
  pub record IsPlaceable (eq : F → F → Bool) (n : Nodes F) (ids : List NodeId) (f : F) (k : NodeKind) (c : ℕ) : Type 0 where
    pub enough : c ≤ length ids
    pub shape : HasShape k (last_of c ids)
    pub within : All (λ p. p.0 < length n.facts) (last_of c ids)
    pub new : list_any (eq f) n.facts ≡ false
    pub room : length n.facts < n.limit

  -- nodes have the shape that their facts have
  has_shape : (n : Nodes F) (ids : List NodeId) (f : F) (k : NodeKind) → g.holds f ≡ true → k ≡ g.kind f → AreNodesOf n ids (g.parents f) → HasShape k ids
  has_shape n ids f k h is are =
      let many = nodes_of-length n.facts ids (g.parents f) are in
      elim k as (λ v. v ≡ g.kind f → HasShape v ids)
      [ Leaf e ↦ λ q. nil_from_length ids (many ∙ ap length (law.bare f e h (sym q))) | Every ↦ λ q. tt | Any ↦ λ q. let some = law.chosen f h (sym q) in omega arith ] is

  -- the nodes of the parents of a fact that is to be numbered
  parents-are : (f : F) (k : NodeKind) (ps : List F) (c : ℕ) → c ≡ length ps → (st : List (Step F)) (n : Nodes F) (ids : List NodeId) (found count : ℕ)
      → Walk g old roots before n ids (number f k ps ∷ st) found count → AreNodesOf n (last_of c ids) (g.parents f)
  parents-are f k ps c same st n ids found count w =
      let r = w.gathers in
      subst (AreNodesOf n (last_of c ids)) w.sound.1.1 (last-are n.facts ids r.0 ps c (w.are ∙ ap (map Some) r.1) same)

  pub placeable : (eq : F → F → Bool) → ((x y : F) → eq x y ≡ true → x ≡ y) → (f : F) (k : NodeKind) (ps : List F) (c : ℕ) → c ≡ length ps → (st : List (Step F)) (n : Nodes F) (ids : List NodeId) (found count : ℕ)
      → Walk g old roots before n ids (number f k ps ∷ st) found count → IsPlaceable eq n ids f k c
  placeable eq exact f k ps c same st n ids found count w =
      let r = w.gathers in
      let are = parents-are f k ps c same st n ids found count w in
      record {
        enough = parents_enough n.facts ids r.0 ps c (w.are ∙ ap (map Some) r.1) same;
        shape = has_shape n (last_of c ids) f k (step-holds (number f k ps) st w.sound) w.sound.1.0 are;
        within = nodes_of-within n.facts (last_of c ids) (g.parents f) are;
        new = absent-from_in eq exact n.facts f (λ i. w.apart.0 (in_right (open_facts st) n.facts f i));
        room = (let a = w.all_found in let r = w.room in omega arith);
      }

  extends-more : (n : Nodes F) (f : F) (k : NodeKind) (ids : List NodeId) → IsGraph n → Extends old n → Extends old (with_node n f k ids)
  extends-more n f k ids is e =
      let l = prefix-length old.facts n.facts e.facts in
      record {
        facts = take-append-le (length old.facts) n.facts (f ∷ []) l ∙ e.facts;
        kinds = take-append-le (length old.facts) n.kinds (k ∷ []) (let a = is.kinds in omega arith) ∙ e.kinds;
        parents = take-append-le (length old.facts) n.parents (ids ∷ []) (let a = is.parents in omega arith) ∙ e.parents;
        limit = e.limit;
      }

  -- a fact is numbered
  pub numbers : (f : F) (k : NodeKind) (ps : List F) (c : ℕ) → c ≡ length ps → (st : List (Step F)) (n m : Nodes F) (ids new : List NodeId) (found count : ℕ)
      → Walk g old roots before n ids (number f k ps ∷ st) found count → m ≡ with_node n f k (last_of c ids) → new ≡ before_last c ids ++ record { 0 = length n.facts } ∷ []
      → Walk g old roots before m new st found count
  numbers f k ps c same st n m ids new found count w made left = subst (λ v. Walk g old roots before v new st found count) (sym made) (record {
    graph = IsGraph-with_node n w.graph f k (last_of c ids) shape within (let x = w.all_found in let r = w.room in omega arith);
    mirrors = Mirrors-with_node n w.graph f k (last_of c ids) shape within g holds w.sound.1.0 parents w.mirrors;
    extends = extends-more n f k (last_of c ids) w.graph w.extends;
    reached = λ x i. elim (in_parts n.facts (f ∷ []) x i) [ inl j ↦ w.reached x j | inr j ↦ elim j [ inl e ↦ subst (IsReachedFrom g (old.facts ++ roots)) e w.sound.0 | inr z ↦ absurd z ] ];
    sound = w.sound.2;
    kept = w.gathers.0 ++ f ∷ [];
    are = ap (map (λ p. slice_get (n.facts ++ f ∷ []) p.0)) left ∙ placed-are n.facts f (before_last c ids) w.gathers.0
        (before-are n.facts ids w.gathers.0 ps c (w.are ∙ ap (map Some) w.gathers.1) same);
    gathers = w.gathers.2;
    ranked = w.ranked.1;
    apart = subst Apart (append_assoc (open_facts st) n.facts (f ∷ [])) (Apart-push (open_facts st ++ n.facts) f w.apart.0 w.apart.1);
    all_found = (let x = w.all_found in let l = length_push n.facts f in omega arith);
    room = w.room;
    counted = w.counted;
  })
    where
      holds : g.holds f ≡ true
      holds = step-holds (number f k ps) st w.sound

      parents : AreNodesOf n (last_of c ids) (g.parents f)
      parents = parents-are f k ps c same st n ids found count w

      shape : HasShape k (last_of c ids)
      shape = has_shape n (last_of c ids) f k holds w.sound.1.0 parents

      within : All (λ p. p.0 < length n.facts) (last_of c ids)
      within = nodes_of-within n.facts (last_of c ids) (g.parents f) parents

  -- the walk begins with the roots to be visited
  pub begins : (eq : F → F → Bool) → ((x : F) → eq x x ≡ true) → (st : List (Step F)) → st ≡ map visit (reverse roots) → IsGraph old → IsDistinct eq old.facts → Mirrors g old → before < 2 ^ 64
      → Walk g old roots before old [] st (length old.facts) before
  begins eq alike st e is distinct m small = subst (λ s. Walk g old roots before old [] s (length old.facts) before) (append-nil (map visit (reverse roots)) ∙ sym e) (record {
    graph = is;
    mirrors = m;
    extends = record { facts = take_all-own old.facts; kinds = take_all (length old.facts) old.kinds (let a = is.kinds in omega arith); parents = take_all (length old.facts) old.parents (let a = is.parents in omega arith); limit = refl };
    reached = λ f i. reached-itself g (old.facts ++ roots) f (in_left old.facts roots f i);
    sound = sound-visits (old.facts ++ roots) [] (reverse roots) (λ q i. reached-itself g (old.facts ++ roots) q (in_right old.facts roots q (in-reverse roots q i))) tt;
    kept = [];
    are = refl;
    gathers = Gathers-visits roots [] (reverse roots) [] refl;
    ranked = ranked-visits [] (reverse roots) (λ q i h j. absurd j) tt;
    apart = subst (λ fs. Apart (fs ++ old.facts)) (sym (open-visits (reverse roots) [])) (distinct-Apart eq alike old.facts distinct);
    all_found = (let a = ap length (open-visits (reverse roots) []) in omega arith);
    room = is.fits;
    counted = omega arith;
  })
    where
      take_all-own : (xs : List F) → take (length xs) xs ≡ xs
      take_all-own xs = take_all (length xs) xs (omega arith)

  -- where one more is to be inferred and there is no room, more are reached than fit
  pub exceeds : (f : F) (st : List (Step F)) (n : Nodes F) (ids : List NodeId) (found count : ℕ) → Walk g old roots before n ids (visit f ∷ st) found count → (In f n.facts → ⊥) → n.limit ≤ found
      → ReachesMoreThan g old.limit (old.facts ++ roots)
  exceeds f st n ids found count w absent full = record {
    some = f ∷ open_facts st ++ n.facts;
    distinct = Apart-distinct g.same (λ x y. (law.same x y).0) (f ∷ open_facts st ++ n.facts) (fresh f st n ids found count w absent, w.apart);
    reached = All-from_recursion (IsReachedFrom g (old.facts ++ roots)) (f ∷ open_facts st ++ n.facts)
        (w.sound.0, of-in (open_facts st ++ n.facts) (λ x i. elim (in_parts (open_facts st) n.facts x i) [ inl j ↦ open-reached st w.sound.2 x j | inr j ↦ w.reached x j ]));
    more = (let a = w.all_found in let b = length-append (open_facts st) n.facts in let c = w.extends.limit in omega arith);
  }
    where
      of-in : (xs : List F) → ((x : F) → In x xs → IsReachedFrom g (old.facts ++ roots) x) → AllByRecursion (IsReachedFrom g (old.facts ++ roots)) xs
      of-in [] h = tt
      of-in (x ∷ xs) h = (h x (inl refl), of-in xs (λ y i. h y (inr i)))

      open-reached : (st : List (Step F)) → Sound g (old.facts ++ roots) st → (x : F) → In x (open_facts st) → IsReachedFrom g (old.facts ++ roots) x
      open-reached [] s x i = absurd i
      open-reached (visit h ∷ st) s x i = open-reached st s.2 x i
      open-reached (number h k ps ∷ st) s x i = elim i [ inl e ↦ subst (IsReachedFrom g (old.facts ++ roots)) e s.0 | inr j ↦ open-reached st s.2 x j ]

  -- where nothing is left to do, the graph has the closure
  pub ends : (n : Nodes F) (ids : List NodeId) (found count : ℕ) → Walk g old roots before n ids [] found count → IsClosure g (old.facts ++ roots) n.facts
  ends n ids found count w = record {
    distinct = Apart-distinct g.same (λ x y. (law.same x y).0) n.facts w.apart;
    exact = λ h. (λ c. w.reached h (Contains-in n.facts h c), λ r. in-Contains n.facts h (reached-closed g law (old.facts ++ roots) n.facts had (Mirrors-closed g n w.mirrors) h r));
  }
    where
      had : (x : F) → In x (old.facts ++ roots) → In x n.facts
      had x i = elim (in_parts old.facts roots x i) [ inl j ↦ prefix-in (length old.facts) n.facts x (subst (In x) (sym w.extends.facts) j) | inr j ↦ fact_of_node g n ids w.kept w.are x (subst (In x) (sym w.gathers) (reverse-in roots x j)) ]

  -- the facts inferred are the new nodes, then
  pub counts : (n : Nodes F) (ids : List NodeId) (found count : ℕ) → Walk g old roots before n ids [] found count → count ≡ raised before (length n.facts - length old.facts)
  counts n ids found count w = let a = w.counted in let b = w.all_found in omega arith

  -- and the nodes that are kept are those of the roots, the last first
  pub answers : (n : Nodes F) (ids : List NodeId) (found count : ℕ) → Walk g old roots before n ids [] found count → AreNodesOf n (reverse ids) roots
  answers n ids found count w = Are-turned n.facts ids roots (w.are ∙ ap (map Some) w.gathers)
