-- What a walk through a flow graph keeps, step by step.
use Rattle.std.proofs.Common.{◌≡◌, ℕ, suc, zero, ◌<◌, ◌≤◌, inl, inr, Bool, true, false, List, [], ◌∷◌, ◌++◌, length, map, reverse, take, get_or, Some, slice_get, Contains, sym, ap, ◌∙◌, subst, refl, arith, append_assoc}
use Rattle.std.proofs.lemmas.Bool.{false≢true}
use Rattle.std.proofs.lemmas.List.{length-take, reverse-append, append-nil}
use Rattle.std.proofs.lemmas.Option.{slice_get-get_or}
use Rattle.std.specs.List.{list_any, All, AllByRecursion, IsDistinct}
use Rattle.nc_graph.specs.declared.node.NodeId.{NodeId}
use Rattle.nc_graph.specs.Flow.{Flow, IsFlow}
use Rattle.nc_graph.specs.Closure.{Reaches, itself, by_parent, IsReachedFrom}
use Rattle.nc_graph.specs.Nodes.{Nodes, Mirrors}
use Rattle.nc_graph.specs.Walk.{Step, visit, number}
use Rattle.nc_graph.proofs.Members.{In, any_in, in_any, get_in, in_left, in_right, in_parts, of_all}
use Rattle.nc_graph.proofs.DerivationLaws.{parent_holds}

-- between `Contains` and membership by recursion
pub Contains-in : {X : Type 0} (xs : List X) (x : X) → Contains xs x → In x xs
Contains-in xs x h = get_in xs h.0 x (slice_get-get_or xs h.0 x h.1 ∙ ap Some h.2)

pub in-Contains : {X : Type 0} (xs : List X) (x : X) → In x xs → Contains xs x
in-Contains [] x i = absurd i
in-Contains (y ∷ ys) x i = elim i [ inl e ↦ (0, omega arith, e) | inr i' ↦ let r = in-Contains ys x i' in (suc r.0, omega (arith, r.1), r.2) ]

-- no element twice
abbrev pub Apart : {X : Type 0} → List X → Type 0
Apart [] = Unit {0}
Apart (x ∷ xs) = (In x xs → ⊥) × Apart xs

pub Apart-push : {X : Type 0} (xs : List X) (y : X) → (In y xs → ⊥) → Apart xs → Apart (xs ++ y ∷ [])
Apart-push [] y n a = (λ i. i, tt)
Apart-push (x ∷ xs) y n a =
    (λ i. elim (in_parts xs (y ∷ []) x i) [ inl j ↦ a.0 j | inr j ↦ elim j [ inl e ↦ n (inl (sym e)) | inr z ↦ z ] ], Apart-push xs y (λ i. n (inr i)) a.1)

pub Apart-right : {X : Type 0} (xs ys : List X) → Apart (xs ++ ys) → Apart ys
Apart-right [] ys a = a
Apart-right (x ∷ xs) ys a = Apart-right xs ys a.1

-- as the tests of equality have it
module _ {X : Type 0} (same : X → X → Bool) where
  pub Apart-distinct : ((x y : X) → same x y ≡ true → x ≡ y) → (xs : List X) → Apart xs → IsDistinct same xs
  unfolding IsDistinct
  Apart-distinct exact [] a = tt
  Apart-distinct exact (x ∷ xs) a = (others xs a.0, Apart-distinct exact xs a.1)
    where
      others : (ys : List X) → (In x ys → ⊥) → AllByRecursion (λ y. same x y ≡ false) ys
      others [] n = tt
      others (y ∷ ys) n =
          (elim (same x y) as (λ b. same x y ≡ b → b ≡ false) [ true ↦ λ e. absurd (n (inl (sym (exact x y e)))) | false ↦ λ e. refl ] refl, others ys (λ i. n (inr i)))

  pub distinct-Apart : ((x : X) → same x x ≡ true) → (xs : List X) → IsDistinct same xs → Apart xs
  unfolding IsDistinct
  distinct-Apart alike [] d = tt
  distinct-Apart alike (x ∷ xs) d = (apart xs d.0, distinct-Apart alike xs d.1)
    where
      apart : (ys : List X) → AllByRecursion (λ y. same x y ≡ false) ys → In x ys → ⊥
      apart [] a i = i
      apart (y ∷ ys) a i = elim i [ inl e ↦ false≢true (sym (subst (λ z. same x z ≡ false) e a.0) ∙ alike x) | inr i' ↦ apart ys a.1 i' ]

  pub absent-from_in : ((x y : X) → same x y ≡ true → x ≡ y) → (xs : List X) (x : X) → (In x xs → ⊥) → list_any (same x) xs ≡ false
  absent-from_in exact xs x n =
      elim (list_any (same x) xs) as (λ b. list_any (same x) xs ≡ b → b ≡ false)
      [ true ↦ λ e. (let r = any_in (same x) xs e in absurd (n (subst (λ y. In y xs) (sym (exact x r.0 r.2)) r.1))) | false ↦ λ e. refl ] refl

  pub in-from_any : ((x y : X) → same x y ≡ true → x ≡ y) → (xs : List X) (x : X) → list_any (same x) xs ≡ true → In x xs
  in-from_any exact xs x h = let r = any_in (same x) xs h in subst (λ y. In y xs) (sym (exact x r.0 r.2)) r.1

pub in-reverse : {X : Type 0} (xs : List X) (x : X) → In x (reverse xs) → In x xs
in-reverse [] x i = i
in-reverse (y ∷ ys) x i =
    elim (in_parts (reverse ys) (y ∷ []) x (subst (In x) (reverse-append (y ∷ []) ys) i))
    [ inl j ↦ inr (in-reverse ys x j) | inr j ↦ elim j [ inl e ↦ inl e | inr z ↦ absurd z ] ]

pub reverse-in : {X : Type 0} (xs : List X) (x : X) → In x xs → In x (reverse xs)
reverse-in [] x i = i
reverse-in (y ∷ ys) x i =
    subst (In x) (sym (reverse-append (y ∷ []) ys))
    (elim i [ inl e ↦ in_right (reverse ys) (y ∷ []) x (inl e) | inr i' ↦ in_left (reverse ys) (y ∷ []) x (reverse-in ys x i') ])

module _ {F : Type 0} where
  -- the facts that were inferred and have no number yet
  abbrev pub open_facts : List (Step F) → List F
  open_facts [] = []
  open_facts (visit f ∷ st) = open_facts st
  open_facts (number f k ps ∷ st) = f ∷ open_facts st

  -- the fact of a step
  abbrev pub fact_of : Step F → F
  fact_of (visit f) = f
  fact_of (number f k ps) = f

  -- each numbering finds the parents numbered, where those of `done` are by now, and at the end the roots are
  abbrev pub Waits : List F → List F → List (Step F) → Type 0
  Waits roots done [] = (x : F) → In x roots → In x done
  Waits roots done (visit f ∷ st) = Waits roots (f ∷ done) st
  Waits roots done (number f k ps ∷ st) = ((x : F) → In x ps → In x done) × Waits roots (f ∷ done) st

  pub Waits-more : (roots : List F) (st : List (Step F)) (d d' : List F) → ((x : F) → In x d → In x d') → Waits roots d st → Waits roots d' st
  Waits-more roots [] d d' more w = λ x i. more x (w x i)
  Waits-more roots (visit f ∷ st) d d' more w = Waits-more roots st (f ∷ d) (f ∷ d') (λ x i. elim i [ inl e ↦ inl e | inr i' ↦ inr (more x i') ]) w
  Waits-more roots (number f k ps ∷ st) d d' more w =
      (λ x i. more x (w.0 x i), Waits-more roots st (f ∷ d) (f ∷ d') (λ x i. elim i [ inl e ↦ inl e | inr i' ↦ inr (more x i') ]) w.1)

  pub Waits-visits : (roots : List F) (rest : List (Step F)) (qs d : List F)
      → ((d' : List F) → ((x : F) → In x d → In x d') → ((x : F) → In x qs → In x d') → Waits roots d' rest) → Waits roots d (map visit qs ++ rest)
  Waits-visits roots rest [] d w = w d (λ x i. i) (λ x i. absurd i)
  Waits-visits roots rest (q ∷ qs) d w =
      Waits-visits roots rest qs (q ∷ d) (λ d' old new. w d' (λ x i. old x (inr i)) (λ x i. elim i [ inl e ↦ old x (inl e) | inr i' ↦ new x i' ]))

  -- the facts whose nodes are kept, the newest last: each numbering takes its parents, the first one last, and puts the fact in their place, and at the end the roots are left
  abbrev pub Gathers : List F → List F → List (Step F) → Type 0
  Gathers roots kept [] = kept ≡ reverse roots
  Gathers roots kept (visit f ∷ st) = Gathers roots (kept ++ f ∷ []) st
  Gathers roots kept (number f k ps ∷ st) = (others : List F) × (kept ≡ others ++ reverse ps) × Gathers roots (others ++ f ∷ []) st

  pub Gathers-visits : (roots : List F) (rest : List (Step F)) (qs kept : List F) → Gathers roots (kept ++ qs) rest → Gathers roots kept (map visit qs ++ rest)
  Gathers-visits roots rest [] kept w = subst (λ xs. Gathers roots xs rest) (append-nil kept) w
  Gathers-visits roots rest (q ∷ qs) kept w = Gathers-visits roots rest qs (kept ++ q ∷ []) (subst (λ xs. Gathers roots xs rest) (sym (append_assoc kept (q ∷ []) qs)) w)

  pub open-visits : (qs : List F) (rest : List (Step F)) → open_facts (map visit qs ++ rest) ≡ open_facts rest
  open-visits [] rest = refl
  open-visits (q ∷ qs) rest = open-visits qs rest

  module _ (g : Flow F) where
    -- a step's fact is below each fact that waits further down
    abbrev pub Ranked : List (Step F) → Type 0
    Ranked [] = Unit {0}
    Ranked (s ∷ st) = ((h : F) → In h (open_facts st) → g.rank (fact_of s) < g.rank h) × Ranked st

    -- what is numbered has the kind and the parents of its fact
    abbrev pub IsInferred : Step F → Type 0
    IsInferred (visit f) = Unit {0}
    IsInferred (number f k ps) = (k ≡ g.kind f) × (ps ≡ g.parents f)

    -- each step's fact is reached
    abbrev pub Sound : List F → List (Step F) → Type 0
    Sound from [] = Unit {0}
    Sound from (s ∷ st) = IsReachedFrom g from (fact_of s) × IsInferred s × Sound from st

-- what is reached
module _ {F : Type 0} (g : Flow F) where
  Reaches-parent : {r f : F} → Reaches g r f → (p : F) → In p (g.parents f) → Reaches g r p
  Reaches-parent (itself f) p i = by_parent f p p (in-Contains (g.parents f) p i) (itself p)
  Reaches-parent (by_parent f q h c w) p i = by_parent f q p c (Reaches-parent w p i)

  pub reached-parent : (from : List F) (f p : F) → IsReachedFrom g from f → In p (g.parents f) → IsReachedFrom g from p
  reached-parent from f p r i = (r.0, r.1, Reaches-parent r.2 p i)

  pub reached-itself : (from : List F) (f : F) → In f from → IsReachedFrom g from f
  reached-itself from f i = (f, in-Contains from f i, itself f)

  module _ (law : IsFlow g) where
    Reaches-holds : {r f : F} → Reaches g r f → g.holds r ≡ true → g.holds f ≡ true
    Reaches-holds (itself f) h = h
    Reaches-holds (by_parent f q x c w) h = Reaches-holds w (parent_holds g law f q h (Contains-in (g.parents f) q c))

    -- what is reached from facts that hold holds
    pub reached-holds : (from : List F) → ((x : F) → In x from → g.holds x ≡ true) → (f : F) → IsReachedFrom g from f → g.holds f ≡ true
    reached-holds from all f r = Reaches-holds r.2 (all r.0 (Contains-in from r.0 r.1))

    -- a list that has the facts of `from` and the parents of each has all that is reached
    closed-reaches : (fs : List F) → ((f p : F) → In f fs → In p (g.parents f) → In p fs) → {r f : F} → Reaches g r f → In r fs → In f fs
    closed-reaches fs closed (itself f) i = i
    closed-reaches fs closed (by_parent f q x c w) i = closed-reaches fs closed w (closed f q i (Contains-in (g.parents f) q c))

    pub reached-closed : (from fs : List F) → ((x : F) → In x from → In x fs) → ((f p : F) → In f fs → In p (g.parents f) → In p fs) → (f : F) → IsReachedFrom g from f → In f fs
    reached-closed from fs sub closed f r = closed-reaches fs closed r.2 (sub r.0 (Contains-in from r.0 r.1))

-- a parent of a node's fact is a node's fact
module _ {F : Type 0} (g : Flow F) (n : Nodes F) where
  pub fact_of_node : (ids : List NodeId) (ps : List F) → map (λ p. slice_get n.facts p.0) ids ≡ map Some ps → (x : F) → In x ps → In x n.facts
  fact_of_node [] [] e x i = absurd i
  fact_of_node [] (p ∷ ps) e x i = absurd (cc)
  fact_of_node (d ∷ ds) [] e x i = absurd i
  fact_of_node (d ∷ ds) (p ∷ ps) e x i =
      let here : slice_get n.facts d.0 ≡ Some p = cc in
      let rest : map (λ p. slice_get n.facts p.0) ds ≡ map Some ps = cc in
      elim i [ inl s ↦ subst (λ y. In y n.facts) s (get_in n.facts d.0 p here) | inr i' ↦ fact_of_node ds ps rest x i' ]

  pub Mirrors-closed : Mirrors g n → (f p : F) → In f n.facts → In p (g.parents f) → In p n.facts
  Mirrors-closed m f p i j =
      let c = in-Contains n.facts f i in
      let at = slice_get-get_or n.facts c.0 f c.1 ∙ ap Some c.2 in
      fact_of_node (get_or n.parents c.0 []) (g.parents f) (m.each c.0 f at).parents p j

  pub Mirrors-holds : Mirrors g n → (f : F) → In f n.facts → g.holds f ≡ true
  Mirrors-holds m f i =
      let c = in-Contains n.facts f i in (m.each c.0 f (slice_get-get_or n.facts c.0 f c.1 ∙ ap Some c.2)).holds

-- a list that begins with another is as long
pub prefix-length : {X : Type 0} (xs ys : List X) → take (length xs) ys ≡ xs → length xs ≤ length ys
prefix-length xs ys e = let l = length-take (length xs) ys in let m = ap length e in omega arith

pub prefix-in : {X : Type 0} (n : ℕ) (xs : List X) (x : X) → In x (take n xs) → In x xs
prefix-in zero xs x i = absurd i
prefix-in (suc n) [] x i = i
prefix-in (suc n) (y ∷ ys) x i = elim i [ inl e ↦ inl e | inr i' ↦ inr (prefix-in n ys x i') ]

-- an element that no test finds is not there
pub absent-in : {X : Type 0} (same : X → X → Bool) → ((x : X) → same x x ≡ true) → (xs : List X) (x : X) → list_any (same x) xs ≡ false → In x xs → ⊥
absent-in same alike xs x h i = false≢true (sym h ∙ in_any (same x) xs x i (alike x))

-- what a walk begins with holds
pub roots-hold : {F : Type 0} (g : Flow F) (old : Nodes F) (roots : List F) → All (λ f. g.holds f ≡ true) roots → Mirrors g old → (x : F) → In x (old.facts ++ roots) → g.holds x ≡ true
roots-hold g old roots all m x i =
    elim (in_parts old.facts roots x i) [ inl j ↦ Mirrors-holds g old m x j | inr j ↦ of_all (λ f. g.holds f ≡ true) roots x all j ]
