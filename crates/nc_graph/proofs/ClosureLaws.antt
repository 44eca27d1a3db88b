-- The laws of closures: each list of facts that hold has one, all of them are as long, and only they count what is reached.
use Rattle.std.proofs.Common.{◌≡◌, ◌↔◌, ℕ, suc, zero, ◌<◌, ◌≤◌, inl, inr, true, false, cond, List, [], ◌∷◌, ◌++◌, length, sym, ap, subst, refl, arith}
use Rattle.std.proofs.lemmas.List.{length-append}
use Rattle.std.proofs.lemmas.List.Elements.{All-from_recursion}
use Rattle.std.specs.List.{list_any, flat_map, All, AllByRecursion, IsDistinct}
use Rattle.nc_graph.specs.Flow.{Flow, IsFlow}
use Rattle.nc_graph.specs.Closure.{Reaches, itself, by_parent, IsReachedFrom, IsClosure, ReachesMoreThan}
use Rattle.nc_graph.proofs.Members.{In, in_left, in_right, in_parts, in_flat_map, flat_map_in, of_all}
use Rattle.nc_graph.proofs.DerivationLaws.{cover, cover-self, cover-covers}
use Rattle.nc_graph.proofs.WalkLemmas.{Contains-in, in-Contains, Apart, Apart-distinct, distinct-Apart, reached-closed, in-from_any, absent-in}

-- a list around one of its elements
abbrev Split : {X : Type 0} → X → List X → Type 0
Split {X} x ys = (a b : List X) × (ys ≡ a ++ x ∷ b)

split-at : {X : Type 0} (x : X) (ys : List X) → In x ys → Split x ys
split-at x [] i = absurd i
split-at x (y ∷ ys) i =
    elim i [ inl e ↦ ([], ys, ap (λ z. z ∷ ys) e) | inr i' ↦ let r = split-at x ys i' in (y ∷ r.0, r.1, ap (λ zs. y ∷ zs) r.2) ]

-- distinct elements of a list are no more than it has
pub Apart-shorter : {X : Type 0} (xs ys : List X) → Apart xs → ((x : X) → In x xs → In x ys) → length xs ≤ length ys
Apart-shorter [] ys a sub = omega arith
Apart-shorter (x ∷ xs) ys a sub =
    let s = split-at x ys (sub x (inl refl)) in
    let other : (z : _) → In z xs → In z (s.0 ++ s.1) = λ z i.
    elim (in_parts s.0 (x ∷ s.1) z (subst (In z) s.2 (sub z (inr i))))
    [ inl j ↦ in_left s.0 s.1 z j | inr j ↦ elim j [ inl e ↦ absurd (a.0 (subst (λ w. In w xs) (sym e) i)) | inr j' ↦ in_right s.0 s.1 z j' ] ] in
    let shorter = Apart-shorter xs (s.0 ++ s.1) a.1 other in
    let l = ap length s.2 in
    let m = length-append s.0 (x ∷ s.1) in
    let k = length-append s.0 s.1 in
    omega arith

module _ {F : Type 0} (g : Flow F) (law : IsFlow g) where
  alike : (x : F) → g.same x x ≡ true
  alike x = (law.same x x).1 refl

  -- distinct facts that are reached are no more than a closure has
  reached-shorter : (fs xs ys : List F) → IsClosure g fs xs → IsDistinct g.same ys → ((y : F) → In y ys → IsReachedFrom g fs y) → length ys ≤ length xs
  reached-shorter fs xs ys c d r = Apart-shorter ys xs (distinct-Apart g.same alike ys d) (λ y i. Contains-in xs y ((c.exact y).1 (r y i)))

  -- all closures of a list have one length
  pub IsClosure-length : (fs xs ys : List F) → IsClosure g fs xs → IsClosure g fs ys → length xs ≡ length ys
  IsClosure-length fs xs ys c d =
      let a = reached-shorter fs xs ys c d.distinct (λ y i. (d.exact y).0 (in-Contains ys y i)) in
      let b = reached-shorter fs ys xs d c.distinct (λ y i. (c.exact y).0 (in-Contains xs y i)) in
      omega arith

  -- more than n facts are reached exactly where a closure has more than n
  pub ReachesMoreThan-closure : (n : ℕ) (fs xs : List F) → IsClosure g fs xs → ReachesMoreThan g n fs ↔ (n < length xs)
  ReachesMoreThan-closure n fs xs c = (
    λ m. (let a = reached-shorter fs xs m.some c m.distinct (λ y i. of_all (IsReachedFrom g fs) m.some y m.reached i) in let b = m.more in omega arith),
    λ l. record {
      some = xs;
      distinct = c.distinct;
      reached = All-from_recursion (IsReachedFrom g fs) xs (each xs (λ x i. (c.exact x).0 (in-Contains xs x i)));
      more = l;
    },
  )
    where
      each : (ys : List F) → ((y : F) → In y ys → IsReachedFrom g fs y) → AllByRecursion (IsReachedFrom g fs) ys
      each [] h = tt
      each (y ∷ ys) h = (h y (inl refl), each ys (λ z i. h z (inr i)))

  -- xs, each fact once
  once : List F → List F
  once [] = []
  once (x ∷ xs) = cond (list_any (g.same x) (once xs)) (once xs) (x ∷ once xs)

  once-in : (xs : List F) (x : F) → In x (once xs) → In x xs
  unfolding once
  once-in [] x i = i
  once-in (y ∷ ys) x i =
      elim (list_any (g.same y) (once ys)) as (λ b. In x (cond b (once ys) (y ∷ once ys)) → In x (y ∷ ys))
      [ true ↦ λ j. inr (once-in ys x j) | false ↦ λ j. elim j [ inl e ↦ inl e | inr j' ↦ inr (once-in ys x j') ] ] i

  in-once : (xs : List F) (x : F) → In x xs → In x (once xs)
  unfolding once
  in-once [] x i = i
  in-once (y ∷ ys) x i =
      elim (list_any (g.same y) (once ys)) as (λ b. list_any (g.same y) (once ys) ≡ b → In x (cond b (once ys) (y ∷ once ys))) [
        | true ↦ λ e. elim i [ inl s ↦ subst (λ z. In z (once ys)) s (in-from_any g.same (λ a b. (law.same a b).0) (once ys) y e) | inr i' ↦ in-once ys x i' ]
        | false ↦ λ e. elim i [ inl s ↦ inl s | inr i' ↦ inr (in-once ys x i') ]
      ] refl

  Apart-once : (xs : List F) → Apart (once xs)
  unfolding once
  Apart-once [] = tt
  Apart-once (y ∷ ys) =
      elim (list_any (g.same y) (once ys)) as (λ b. list_any (g.same y) (once ys) ≡ b → Apart (cond b (once ys) (y ∷ once ys)))
      [ true ↦ λ e. Apart-once ys | false ↦ λ e. (absent-in g.same alike (once ys) y e, Apart-once ys) ] refl

-- what is in a cover is reached
module _ {F : Type 0} (g : Flow F) where
  cover-reached : (n : ℕ) (f h : F) → In h (cover g n f) → Reaches g f h
  unfolding cover
  cover-reached zero f h i = absurd i
  cover-reached (suc n) f h i =
      elim i [
        | inl e ↦ subst (Reaches g f) e (itself f)
        | inr i' ↦ let r = flat_map_in (cover g n) (g.parents f) h i' in by_parent f r.0 h (in-Contains (g.parents f) r.0 r.1) (cover-reached n r.0 h r.2)
      ]

module _ {F : Type 0} (g : Flow F) (law : IsFlow g) where
  -- all that is reached from the facts of a list
  all_below : List F → List F
  all_below fs = flat_map (λ f. cover g (suc (g.rank f)) f) fs

  -- each list of facts that hold has a closure
  pub IsClosure-exists : (fs : List F) → All (λ f. g.holds f ≡ true) fs → (xs : List F) × IsClosure g fs xs
  unfolding all_below
  IsClosure-exists fs hold = (
    once g law (all_below fs),
    record {
      distinct = Apart-distinct g.same (λ x y. (law.same x y).0) (once g law (all_below fs)) (Apart-once g law (all_below fs));
      exact = λ h. (
        λ c. (let r = flat_map_in (λ f. cover g (suc (g.rank f)) f) fs h (once-in g law (all_below fs) h (Contains-in (once g law (all_below fs)) h c)) in
            (r.0, in-Contains fs r.0 r.1, cover-reached g (suc (g.rank r.0)) r.0 h r.2)),
        λ r. in-Contains (once g law (all_below fs)) h (in-once g law (all_below fs) h (reached-closed g law fs (all_below fs) own closed h r)),
      );
    },
  )
    where
      own : (x : F) → In x fs → In x (all_below fs)
      own x i = in_flat_map (λ f. cover g (suc (g.rank f)) f) fs x x i (cover-self g law (suc (g.rank x)) x (omega arith))

      closed : (f p : F) → In f (all_below fs) → In p (g.parents f) → In p (all_below fs)
      closed f p i j =
          let r = flat_map_in (λ f. cover g (suc (g.rank f)) f) fs f i in
          in_flat_map (λ f. cover g (suc (g.rank f)) f) fs r.0 p r.1
          (cover-covers g law (suc (g.rank r.0)) r.0 (omega arith) (of_all (λ f. g.holds f ≡ true) fs r.0 hold r.1) f p r.2 j)
