-- Which elements no node is, and that these stand in no derivation of a root.
use Rattle.std.proofs.Common.{◌≡◌, ◌↔◌, ℕ, suc, zero, ◌+◌, ◌<◌, inl, inr, Bool, true, false, ◌||◌, cond, List, [], ◌∷◌, ◌++◌, length, take, get_or, slice_index, slice_get, Contains, Some, sym, ap, ◌∙◌, subst, refl, arith, nat_eq}
use Rattle.std.proofs.lemmas.Bool.{eqb-true, eq-eqb, cases_lt, false≢true}
use Rattle.std.proofs.lemmas.List.{length_push, get_or_append_left, get_or_push, get_or_default}
use Rattle.std.proofs.lemmas.List.Elements.{Contains-append_left, Contains-push, Contains-push_cases, Contains-get_or}
use Rattle.std.proofs.lemmas.Option.{slice_get-get_or, slice_get_within, get_or_from_slice_get}
use Rattle.std.proofs.lemmas.List.Folds.{list_any_more}
use Rattle.std.specs.List.{Any, list_any}
use Rattle.std.specs.List.Sorted.{IsStrictlyIncreasing}
use Rattle.nc_graph.specs.declared.node.NodeKind.{NodeKind}
use Rattle.nc_graph.specs.declared.node.NodeKind.TheVariants.{Leaf, Every, Any as OfAny}
use Rattle.nc_graph.specs.Closure.{Reaches, itself, by_parent, IsClosure}
use Rattle.nc_graph.specs.Derivation.{IsInSome, occurs}
use Rattle.nc_graph.specs.Flow.{Flow, IsFlow, by_kind}
use Rattle.nc_graph.specs.Nodes.{Nodes, IsGraph, Mirrors}
use Rattle.nc_graph.proofs.DerivationLaws.{by_rank, parent_holds, occurs-step, IsInSome-is}
use Rattle.nc_graph.proofs.Members.{In, any_in, in_any}
use Rattle.nc_graph.proofs.WalkLemmas.{Contains-in, in-Contains}
use Rattle.nc_marks.specs.Reach.{is_leaf_of}
use Rattle.nc_suite.proofs.TouchLemmas.{or-moved}
use Rattle.nc_suite.specs.Dead.{Misses, HasNode, HaveNoNode, AreDead}

-- ---- the elements that are missed

pub misses-same : (P Q : ℕ → Type 0) (n : ℕ) (xs : List ℕ) → ((e : ℕ) → e < n → P e ↔ Q e) → Misses P n xs → Misses Q n xs
misses-same P Q n xs both m = record {
  ascends = m.ascends;
  exact = λ e. (
    λ c. (let h = (m.exact e).0 c in (h.0, λ q. h.1 ((both e h.0).1 q))),
    λ h. (m.exact e).1 (h.0, λ p. h.1 ((both e h.0).0 p)),
  );
}

pub misses-none : (P : ℕ → Type 0) → Misses P 0 []
misses-none P = record {
  ascends = λ k lt. absurd (omega arith);
  exact = λ e. (λ c. let lt : c.0 < 0 = c.1 in absurd (omega arith), λ h. let lt : e < 0 = h.0 in absurd (omega arith));
}

ascends-push : (k : ℕ) (xs : List ℕ) → IsStrictlyIncreasing xs → ((x : ℕ) → Contains xs x → x < k) → IsStrictlyIncreasing (xs ++ k ∷ [])
ascends-push k xs up below j lt =
    let long = length_push xs k in
    elim (cases_lt (j + 1) (length xs)) [
      | inl early ↦ subst (λ m. m < slice_index (xs ++ k ∷ []) (j + 1)) (sym (get_or_append_left xs (k ∷ []) 0 j (omega arith)))
          (subst (λ m. slice_index xs j < m) (sym (get_or_append_left xs (k ∷ []) 0 (j + 1) early)) (up j early))
      | inr late ↦ let last : length xs ≡ j + 1 = omega arith in
          subst (λ m. m < slice_index (xs ++ k ∷ []) (j + 1)) (sym (get_or_append_left xs (k ∷ []) 0 j (omega arith)))
          (subst (λ m. slice_index xs j < m) (sym (get_or_push xs k 0 (j + 1) last)) (below (slice_index xs j) (Contains-get_or xs j 0 (omega arith))))
    ]

-- one more element
pub misses-more : (M : ℕ → Bool) (k : ℕ) (xs next : List ℕ) → next ≡ cond (M k) xs (xs ++ k ∷ []) → Misses (λ e. M e ≡ true) k xs → Misses (λ e. M e ≡ true) (k + 1) next
misses-more M k xs next made m = subst (Misses (λ e. M e ≡ true) (k + 1)) (sym made) (by_cases (M k) refl)
  where
    before : (e : ℕ) → e < k + 1 → (e ≡ k → ⊥) → e < k
    before e lt ne = grind arith

    by_cases : (b : Bool) → M k ≡ b → Misses (λ e. M e ≡ true) (k + 1) (cond b xs (xs ++ k ∷ []))
    by_cases true s = record {
      ascends = m.ascends;
      exact = λ e. (
        λ c. (let h = (m.exact e).0 c in let lt : e < k = h.0 in (omega arith, h.1)),
        λ h. (m.exact e).1 (before e h.0 (λ e2. h.1 (ap M e2 ∙ s)), h.1),
      );
    }
    by_cases false s = record {
      ascends = ascends-push k xs m.ascends (λ x c. ((m.exact x).0 c).0);
      exact = λ e. (
        λ c. elim (Contains-push_cases xs k e c) [
          | inl old ↦ (let h = (m.exact e).0 old in let lt : e < k = h.0 in (omega arith, h.1))
          | inr new ↦ (omega (arith, new), λ yes. false≢true (sym s ∙ ap M new ∙ yes))
        ],
        λ h. elim (cases_lt e k) [
          | inl low ↦ Contains-append_left xs (k ∷ []) e ((m.exact e).1 (low, h.1))
          | inr high ↦ (let lt : e < k + 1 = h.0 in let same : k ≡ e = omega arith in subst (Contains (xs ++ k ∷ [])) same (Contains-push xs k))
        ],
      );
    }

-- ---- the elements of nodes

leaf-is : (e : ℕ) (k : NodeKind) → is_leaf_of e k ≡ true → k ≡ Leaf e
leaf-is e (Leaf m) h = ap Leaf (sym (eqb-true e m h))
leaf-is e Every h = absurd (cc)
leaf-is e OfAny h = absurd (cc)

-- one more node
pub flags-more : (p : NodeKind → Bool) (kinds : List NodeKind) (i : ℕ) (k : NodeKind) → slice_get kinds i ≡ Some k → (old now new : Bool) → now ≡ (list_any p (take i kinds) || old) → new ≡ (p k || now)
    → new ≡ (list_any p (take (i + 1) kinds) || old)
flags-more p kinds i k at old now new first second =
    second ∙ ap (λ b. p k || b) first ∙ sym (or-moved (p k) (list_any p (take i kinds)) old)
    ∙ sym (ap (λ b. b || old) (list_any_more p kinds i k (slice_get_within kinds i k at) ∙ ap (λ m. list_any p (take i kinds) || p m) (get_or_from_slice_get kinds i k k at)))

module _ {F : Type 0} (n : Nodes F) (is : IsGraph n) where
  pub node-found : (e : ℕ) → (list_any (is_leaf_of e) n.kinds ≡ true) ↔ HasNode n e
  node-found e = (to, from)
    where
      to : list_any (is_leaf_of e) n.kinds ≡ true → HasNode n e
      to h =
          let r = any_in (is_leaf_of e) n.kinds h in
          let c = in-Contains n.kinds r.0 r.1 in
          let lt : c.0 < length n.facts = subst (λ m. c.0 < m) is.kinds c.1 in
          (c.0, lt, get_or_default n.kinds c.0 Every r.0 c.1 ∙ c.2 ∙ leaf-is e r.0 r.2)

      from : HasNode n e → list_any (is_leaf_of e) n.kinds ≡ true
      from h =
          let lt : h.0 < length n.kinds = subst (λ m. h.0 < m) (sym is.kinds) h.1 in
          in_any (is_leaf_of e) n.kinds (get_or n.kinds h.0 Every) (Contains-in n.kinds (get_or n.kinds h.0 Every) (Contains-get_or n.kinds h.0 Every lt))
          (ap (is_leaf_of e) h.2 ∙ eq-eqb e e refl)

-- ---- the elements of what is reached from roots

module _ {F : Type 0} (g : Flow F) (law : IsFlow g) where
  reaches-on : {f p : F} → Reaches g f p → (h : F) → Contains (g.parents p) h → Reaches g f h
  reaches-on (itself f) h c = by_parent f h h c (itself h)
  reaches-on (by_parent f q p w rest) h c = by_parent f q h w (reaches-on rest h c)

  occurs-up : (e : ℕ) (f p : F) → g.holds f ≡ true → In p (g.parents f) → occurs g e p ≡ true → occurs g e f ≡ true
  occurs-up e f p hold within o = occurs-step g law e f hold ∙ by_cases (g.kind f) refl
    where
      some : list_any (occurs g e) (g.parents f) ≡ true
      some = in_any (occurs g e) (g.parents f) p within o

      by_cases : (k : NodeKind) → g.kind f ≡ k → by_kind k (nat_eq e) (list_any (occurs g e) (g.parents f)) (list_any (occurs g e) (g.parents f)) ≡ true
      by_cases (Leaf m) s = let none : In p [] = subst (λ xs. In p xs) (law.bare f m hold s) within in absurd none
      by_cases Every s = some
      by_cases OfAny s = some

  occurs-reached : (e : ℕ) {f h : F} → Reaches g f h → g.holds f ≡ true → occurs g e h ≡ true → occurs g e f ≡ true
  occurs-reached e (itself f) hold o = o
  occurs-reached e (by_parent f p h w rest) hold o =
      let within = Contains-in (g.parents f) p w in
      occurs-up e f p hold within (occurs-reached e rest (parent_holds g law f p hold within) o)

  module _ (n : Nodes F) (m : Mirrors g n) (roots : List F) (closure : IsClosure g roots n.facts) where
    -- the node of a fact that is reached
    place-of : (f : F) → Contains n.facts f → (i : ℕ) × (slice_get n.facts i ≡ Some f)
    place-of f c = (c.0, slice_get-get_or n.facts c.0 f c.1 ∙ ap Some c.2)

    fact-holds : (f : F) → Contains n.facts f → g.holds f ≡ true
    fact-holds f c = let p = place-of f c in (m.each p.0 f p.1).holds

    root-in : (r : F) → Contains roots r → Contains n.facts r
    root-in r c = (closure.exact r).1 (r, c, itself r)

    -- below a fact where an element occurs there is its leaf
    found-below : (e : ℕ) (r : F) → Contains roots r → (f : F) → g.holds f ≡ true → Reaches g r f → occurs g e f ≡ true → HasNode n e
    found-below e r root = by_rank g law (λ f. Reaches g r f → occurs g e f ≡ true → HasNode n e)
        (λ f hold below reached o. at f below reached (sym (occurs-step g law e f hold) ∙ o) (g.kind f) refl)
      where
        at : (f : F) → ((p : F) → In p (g.parents f) → Reaches g r p → occurs g e p ≡ true → HasNode n e) → Reaches g r f
            → by_kind (g.kind f) (nat_eq e) (list_any (occurs g e) (g.parents f)) (list_any (occurs g e) (g.parents f)) ≡ true → (k : NodeKind) → g.kind f ≡ k → HasNode n e
        at f below reached o (Leaf l) s =
            let p = place-of f ((closure.exact f).1 (r, root, reached)) in
            let same : nat_eq e l ≡ true = subst (λ k. by_kind k (nat_eq e) (list_any (occurs g e) (g.parents f)) (list_any (occurs g e) (g.parents f)) ≡ true) s o in
            (p.0, slice_get_within n.facts p.0 f p.1, (m.each p.0 f p.1).kind ∙ s ∙ ap Leaf (sym (eqb-true e l same)))
        at f below reached o Every s =
            let q = any_in (occurs g e) (g.parents f) (subst (λ k. by_kind k (nat_eq e) (list_any (occurs g e) (g.parents f)) (list_any (occurs g e) (g.parents f)) ≡ true) s o) in
            below q.0 q.1 (reaches-on reached q.0 (in-Contains (g.parents f) q.0 q.1)) q.2
        at f below reached o OfAny s =
            let q = any_in (occurs g e) (g.parents f) (subst (λ k. by_kind k (nat_eq e) (list_any (occurs g e) (g.parents f)) (list_any (occurs g e) (g.parents f)) ≡ true) s o) in
            below q.0 q.1 (reaches-on reached q.0 (in-Contains (g.parents f) q.0 q.1)) q.2

    -- an element has a node exactly where it stands in some derivation of a root
    pub node-some : (e : ℕ) → HasNode n e ↔ Any (IsInSome g e) roots
    node-some e = (to, from)
      where
        to : HasNode n e → Any (IsInSome g e) roots
        to h =
            let i = h.0 in
            let f = fact-at n.facts i h.1 in
            let w = m.each i f.0 f.1 in
            let reached = (closure.exact f.0).0 (index-in n.facts i f.0 f.1) in
            let root = Contains-in roots reached.0 reached.1 in
            let hold = fact-holds reached.0 (root-in reached.0 reached.1) in
            let here : occurs g e f.0 ≡ true = occurs-step g law e f.0 w.holds
            ∙ ap (λ k. by_kind k (nat_eq e) (list_any (occurs g e) (g.parents f.0)) (list_any (occurs g e) (g.parents f.0))) (sym w.kind ∙ h.2) ∙ eq-eqb e e refl in
            let some = (IsInSome-is g law e reached.0 hold).1 (occurs-reached e reached.2 hold here) in
            (reached.1.0, reached.0, reached.1.1, reached.1.2, some)
          where
            fact-at : (xs : List F) (i : ℕ) → i < length xs → (f : F) × (slice_get xs i ≡ Some f)
            fact-at [] i lt = absurd (omega arith)
            fact-at (x ∷ xs) zero lt = (x, refl)
            fact-at (x ∷ xs) (suc i) lt = fact-at xs i (omega arith)

            index-in : (xs : List F) (i : ℕ) (f : F) → slice_get xs i ≡ Some f → Contains xs f
            index-in [] i f at = absurd (cc)
            index-in (x ∷ xs) zero f at = (0, omega arith, cc)
            index-in (x ∷ xs) (suc i) f at = let r = index-in xs i f at in (suc r.0, omega (arith, r.1), r.2)

        from : Any (IsInSome g e) roots → HasNode n e
        from a =
            let root : Contains roots a.1 = (a.0, a.2, a.3) in
            let hold = fact-holds a.1 (root-in a.1 root) in
            found-below e a.1 root a.1 hold (itself a.1) ((IsInSome-is g law e a.1 hold).0 a.4)

    pub no-node-dead : (elements : ℕ) (listed : List ℕ) → HaveNoNode n elements listed → AreDead g roots elements listed
    no-node-dead elements listed = misses-same (HasNode n) (λ e. Any (IsInSome g e) roots) elements listed (λ e lt. node-some e)
