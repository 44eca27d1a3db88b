-- How much a walk has still to do at most: a number that falls at each step.
use Rattle.std.proofs.Common.{◌≡◌, ℕ, suc, zero, ◌+◌, ◌<◌, ◌≤◌, inl, inr, true, List, [], ◌∷◌, ◌++◌, map, reverse, ap, refl, arith}
use Rattle.std.proofs.lemmas.List.{reverse-append}
use Rattle.nc_graph.specs.Flow.{Flow, IsFlow}
use Rattle.nc_graph.specs.Walk.{Step, visit, number, expanded}
use Rattle.nc_graph.proofs.Members.{In}
use Rattle.nc_graph.proofs.DerivationLaws.{parent_lower}

total : {F : Type 0} → (F → ℕ) → List F → ℕ
total c [] = 0
total c (x ∷ xs) = c x + total c xs

total-append : {F : Type 0} (c : F → ℕ) (xs ys : List F) → total c (xs ++ ys) ≡ total c xs + total c ys
unfolding total
total-append c [] ys = omega arith
total-append c (x ∷ xs) ys = let h = total-append c xs ys in omega arith

total-reverse : {F : Type 0} (c : F → ℕ) (xs : List F) → total c (reverse xs) ≡ total c xs
unfolding total
total-reverse c [] = refl
total-reverse c (x ∷ xs) =
    let e = ap (total c) (reverse-append (x ∷ []) xs) in
    let a = total-append c (reverse xs) (x ∷ []) in
    let h = total-reverse c xs in
    omega arith

total-le : {F : Type 0} (c d : F → ℕ) (xs : List F) → ((x : F) → In x xs → c x ≤ d x) → total c xs ≤ total d xs
unfolding total
total-le c d [] h = omega arith
total-le c d (x ∷ xs) h = let a = h x (inl refl) in let b = total-le c d xs (λ y i. h y (inr i)) in omega arith

module _ {F : Type 0} (g : Flow F) where
  -- the steps for a fact when each fact below it is inferred anew, down to the depth n
  cost_to : ℕ → F → ℕ
  cost_to zero f = 1
  cost_to (suc n) f = 2 + total (cost_to n) (g.parents f)

  cost_to-more : (n m : ℕ) → n ≤ m → (f : F) → cost_to n f ≤ cost_to m f
  unfolding cost_to
  cost_to-more zero zero l f = omega arith
  cost_to-more zero (suc m) l f = omega arith
  cost_to-more (suc n) zero l f = absurd (omega arith)
  cost_to-more (suc n) (suc m) l f = let h = total-le (cost_to n) (cost_to m) (g.parents f) (λ x i. cost_to-more n m (omega arith) x) in omega arith

  cost : F → ℕ
  cost f = cost_to (suc (g.rank f)) f

  -- at most so many steps are left
  pub weight : List (Step F) → ℕ
  weight [] = 0
  weight (visit f ∷ st) = cost f + weight st
  weight (number f k ps ∷ st) = 1 + weight st

  weight-visits : (qs : List F) (rest : List (Step F)) → weight (map visit qs ++ rest) ≡ total cost qs + weight rest
  unfolding weight total
  weight-visits [] rest = omega arith
  weight-visits (q ∷ qs) rest = let h = weight-visits qs rest in omega arith

  -- each step makes it less
  pub skip-lighter : (f : F) (st : List (Step F)) → weight st < weight (visit f ∷ st)
  unfolding weight cost cost_to
  skip-lighter f st = omega arith

  pub number-lighter : (f : F) (k : _) (ps : List F) (st : List (Step F)) → weight st < weight (number f k ps ∷ st)
  unfolding weight
  number-lighter f k ps st = omega arith

  pub infer-lighter : IsFlow g → (f : F) (st : List (Step F)) → g.holds f ≡ true → weight (expanded g f st) < weight (visit f ∷ st)
  unfolding weight cost cost_to
  infer-lighter law f st h =
      let ps = g.parents f in
      let a = weight-visits (reverse ps) (number f (g.kind f) ps ∷ st) in
      let b = total-reverse cost ps in
      let c = total-le cost (cost_to (g.rank f)) ps (λ p i. let low = parent_lower g law f p h i in cost_to-more (suc (g.rank p)) (g.rank f) low p) in
      omega arith
