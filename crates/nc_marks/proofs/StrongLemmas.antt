-- The set of a node's strong elements is made of those of its parents.
use Rattle.std.proofs.Common.{◌≡◌, ℕ, ◌+◌, ◌<◌, ◌≤◌, inl, inr, Bool, true, ◌||◌, List, [], ◌∷◌, ◌++◌, length, get_or, map, Some, slice_get, sym, ap, ◌∙◌, subst, refl, arith, nat_eq, nat_lt, All}
use Rattle.std.proofs.lemmas.Bool.{cases_lt}
use Rattle.std.proofs.lemmas.List.{length-map, get_or_append_left, get_or_push}
use Rattle.std.proofs.lemmas.List.Folds.{list_all-map}
use Rattle.std.specs.List.{list_any, list_all}
use Rattle.nc_graph.specs.declared.node.NodeKind.{NodeKind}
use Rattle.nc_graph.specs.declared.node.NodeKind.TheVariants.{Leaf, Every, Any}
use Rattle.nc_graph.specs.declared.node.NodeId.{NodeId}
use Rattle.nc_graph.specs.Flow.{by_kind}
use Rattle.nc_graph.specs.Derivation.{strong}
use Rattle.nc_graph.specs.Nodes.{Nodes, node_flow, IsGraph}
use Rattle.nc_graph.proofs.Members.{In, any_same, all_same, of_all, all_from}
use Rattle.nc_graph.proofs.Parents.{in-map, parents-at}
use Rattle.nc_graph.proofs.DerivationLaws.{strong-step}
use Rattle.nc_marks.specs.Sets.{Table, has, has_at, Grows, IsAt, in_some, in_each}

-- the same set by another test
pub at-same : (t : Table) (place : ℕ) (p q : ℕ → Bool) → IsAt t place p → ((e : ℕ) → e < t.width → p e ≡ q e) → IsAt t place q
at-same t place p q is same = record { within = is.within; exact = λ e lt. is.exact e lt ∙ same e lt }

pub any-map : (f : ℕ → Bool) (ps : List NodeId) → list_any f (map (λ p. p.0) ps) ≡ list_any (λ p. f p.0) ps
any-map f [] = refl
any-map f (p ∷ ps) = ap (λ b. f p.0 || b) (any-map f ps)

module _ {F : Type 0} (n : Nodes F) (is : IsGraph n) (i : ℕ) (h : nat_lt i (length n.facts) ≡ true) where
  through : (e : ℕ) (k : NodeKind) → (node_flow n).kind i ≡ k
      → strong (node_flow n) e i ≡ by_kind k (nat_eq e) (list_any (strong (node_flow n) e) ((node_flow n).parents i)) (list_all (strong (node_flow n) e) ((node_flow n).parents i))
  through e k s = strong-step (node_flow n) is.flow e i h ∙ ap (λ k. by_kind k (nat_eq e) (list_any (strong (node_flow n) e) ((node_flow n).parents i)) (list_all (strong (node_flow n) e) ((node_flow n).parents i))) s

  pub leaf-strong : (e m : ℕ) → (node_flow n).kind i ≡ Leaf m → nat_eq e m ≡ strong (node_flow n) e i
  leaf-strong e m s = sym (through e (Leaf m) s)

  pub some-parent : (ps : List NodeId) → slice_get n.parents i ≡ Some ps → (node_flow n).kind i ≡ Any → 0 < length ps
  some-parent ps at s =
      let some : 0 < length ((node_flow n).parents i) = is.flow.chosen i h s in
      let same : length ((node_flow n).parents i) ≡ length ps = ap length (parents-at n i ps at) ∙ length-map ps (λ p. p.0) in
      omega arith

  -- what holds of each parent's number
  pub of-parents : (P : ℕ → Type 0) (ps : List NodeId) → slice_get n.parents i ≡ Some ps → All P ((node_flow n).parents i) → All (λ p. P p.0) ps
  of-parents P ps at all = all_from (λ p. P p.0) ps (λ p within. of_all P ((node_flow n).parents i) p.0 all (subst (λ xs. In p.0 xs) (sym (parents-at n i ps at)) (in-map ps p within)))

  module _ (old : Table) (places : List ℕ) (ps : List NodeId) (at : slice_get n.parents i ≡ Some ps)
      (below : All (λ p. IsAt old (get_or places p 0) (λ e. strong (node_flow n) e p)) ((node_flow n).parents i)) where
    below-each : (p : NodeId) → In p ps → IsAt old (get_or places p.0 0) (λ e. strong (node_flow n) e p.0)
    below-each p within = of_all (λ p. IsAt old (get_or places p 0) (λ e. strong (node_flow n) e p)) ((node_flow n).parents i) p.0 below
        (subst (λ xs. In p.0 xs) (sym (parents-at n i ps at)) (in-map ps p within))

    pub every-strong : (node_flow n).kind i ≡ Every → (e : ℕ) → e < old.width → in_some old places ps e ≡ strong (node_flow n) e i
    every-strong s e lt =
        any_same (λ p. has_at old (get_or places p.0 0) e) (λ p. strong (node_flow n) e p.0) ps (λ p within. (below-each p within).exact e lt)
        ∙ sym (any-map (strong (node_flow n) e) ps) ∙ ap (list_any (strong (node_flow n) e)) (sym (parents-at n i ps at)) ∙ sym (through e Every s)

    pub any-strong : (node_flow n).kind i ≡ Any → (e : ℕ) → e < old.width → in_each old places ps e ≡ strong (node_flow n) e i
    any-strong s e lt =
        all_same (λ p. has_at old (get_or places p.0 0) e) (λ p. strong (node_flow n) e p.0) ps (λ p within. (below-each p within).exact e lt)
        ∙ sym (list_all-map (strong (node_flow n) e) (λ p. p.0) ps) ∙ ap (list_all (strong (node_flow n) e)) (sym (parents-at n i ps at)) ∙ sym (through e Any s)

-- an element is in the set of some tested node where it is strong for one
pub tested-strong : {F : Type 0} (n : Nodes F) (t : Table) (places : List ℕ) (ps : List NodeId) (e : ℕ) → e < t.width
    → All (λ p. IsAt t (get_or places p.0 0) (λ e. strong (node_flow n) e p.0)) ps → in_some t places ps e ≡ list_any (strong (node_flow n) e) (map (λ p. p.0) ps)
tested-strong n t places ps e lt all =
    any_same (λ p. has_at t (get_or places p.0 0) e) (λ p. strong (node_flow n) e p.0) ps
    (λ p within. (of_all (λ p. IsAt t (get_or places p.0 0) (λ e. strong (node_flow n) e p.0)) ps p all within).exact e lt)
    ∙ sym (any-map (strong (node_flow n) e) ps)

-- a set stays at its place in a table that grows
pub at-grown : (t next : Table) (place : ℕ) (passes : ℕ → Bool) → Grows t next → IsAt t place passes → IsAt next place passes
at-grown t next place passes grows is =
    let more : length t.sets ≤ length next.sets = grows.more in
    let within : place < length t.sets = is.within in
    record {
      within = omega arith;
      exact = λ e lt. ap (λ set. has set e) (grows.kept place within) ∙ is.exact e (subst (λ w. e < w) grows.width lt);
    }

-- one more place, of the set of the node that comes next; only the nodes of Q count
pub place-more : (Q : ℕ → Type 0) (passes : ℕ → ℕ → Bool) (t next : Table) (places more : List ℕ) (place number : ℕ) → length places ≡ number → Grows t next → more ≡ places ++ place ∷ []
    → ((i : ℕ) → i < number → Q i → IsAt t (get_or places i 0) (passes i)) → (Q number → IsAt next place (passes number))
    → (i : ℕ) → i < number + 1 → Q i → IsAt next (get_or more i 0) (passes i)
place-more Q passes t next places more place number long grows pushed old new i lt q = rw pushed (elim (cases_lt i number) [
  | inl early ↦ let below : i < length places = omega arith in
      subst (λ p. IsAt next p (passes i)) (sym (get_or_append_left places (place ∷ []) 0 i below)) (at-grown t next (get_or places i 0) (passes i) grows (old i early q))
  | inr late ↦ let last : i ≡ number = omega arith in
      let there : length places ≡ i = omega arith in
      subst (λ p. IsAt next p (passes i)) (sym (get_or_push places place 0 i there))
      (subst (λ j. IsAt next place (passes j)) (sym last) (new (subst Q last q)))
])

pub grows-none : (t : Table) → Grows t t
grows-none t = record { width = refl; more = omega arith; kept = λ place lt. refl }
