-- Lists that rise: each item stands before each later one. Two that have the same members are one list.
use Rattle.std.proofs.Common.{◌≡◌, zero, suc, ◌<◌, Bool, true, false, cond, List, [], ◌∷◌, length, filter, refl, sym, ap, subst, ◌∙◌, arith, inl, inr}
use Rattle.std.specs.List.{AllPairs}
use Rattle.std.specs.Cmp.{IsTotalOrder}
use Rattle.std.specs.declared.cmp.Ordering.{Ordering}
use Rattle.std.specs.declared.cmp.Ordering.TheVariants.{Less, Equal, Greater}
use Rattle.std.specs.Ordering.{ordering_reverse, is_gt}
use Rattle.std.proofs.lemmas.Cmp.{tied_itself}
use Rattle.nc_types.proofs.Members.{In, contains_by_in, in_filter, in_by_filter}
use Rattle.nc_tables.specs.Order.{insert, in_order}
use Rattle.nc_tables.proofs.Ordered.{in_by_insert, in_by_order}

module _ {X : Type 0} where
  -- ---- lists that rise

  abbrev pub Rises : (X → X → Type 0) → List X → Type 0
  Rises before [] = Unit {0}
  Rises before (x ∷ xs) = ((z : X) → In z xs → before x z) × Rises before xs

  pub rises_by_pairs : (before : X → X → Type 0) (xs : List X) → AllPairs before xs → Rises before xs
  rises_by_pairs before [] pairs = tt
  rises_by_pairs before (x ∷ xs) pairs = (
    (λ z i. let c = contains_by_in xs z i in let lt : c.0 < length xs = c.1 in subst (λ (y : X). before x y) c.2 (pairs zero (suc c.0) z (omega arith) (omega arith))),
    rises_by_pairs before xs (λ i j d le lt. pairs (suc i) (suc j) d (omega arith) (omega arith)),
  )

  pub rises_more : (before after : X → X → Type 0) (xs : List X) → ((x z : X) → In x xs → In z xs → before x z → after x z) → Rises before xs → Rises after xs
  rises_more before after [] more r = tt
  rises_more before after (x ∷ xs) more r = ((λ z i. more x z (inl refl) (inr i) (r.0 z i)), rises_more before after xs (λ y z i j. more y z (inr i) (inr j)) r.1)

  pub rises_kept : (before : X → X → Type 0) (p : X → Bool) (xs : List X) → Rises before xs → Rises before (filter p xs)
  rises_kept before p [] r = tt
  rises_kept before p (x ∷ xs) r = by_test (rises_kept before p xs r.1) (p x)
    where
      by_test : Rises before (filter p xs) → (b : Bool) → Rises before (cond b (x ∷ filter p xs) (filter p xs))
      by_test rest true = ((λ z i. r.0 z (in_by_filter p xs z i).0), rest)
      by_test rest false = rest

  -- where the items that tie rise, for each item, each item that ties with an earlier one is behind it
  pub ties_rise : (before : X → X → Type 0) (tie : X → X → Bool) → ((x : X) → tie x x ≡ true) → (xs : List X) → ((w : X) → Rises before (filter (tie w) xs)) → Rises (λ x z. tie x z ≡ true → before x z) xs
  ties_rise before tie itself [] r = tt
  ties_rise before tie itself (x ∷ xs) r = (
    (λ z i t. (subst (λ (b : Bool). Rises before (cond b (x ∷ filter (tie x) xs) (filter (tie x) xs))) (itself x) (r x)).0 z (in_filter (tie x) xs z i t)),
    ties_rise before tie itself xs (λ w. rest w (tie w x) (r w)),
  )
    where
      rest : (w : X) (b : Bool) → Rises before (cond b (x ∷ filter (tie w) xs) (filter (tie w) xs)) → Rises before (filter (tie w) xs)
      rest w true q = q.1
      rest w false q = q

-- ---- orders

module _ {X : Type 0} (cmp : X → X → Ordering) (total : IsTotalOrder cmp) where
  abbrev pub Ascends : List X → Type 0
  Ascends xs = Rises (λ x z. cmp x z ≡ Less) xs

  never : (x : X) → cmp x x ≡ Less → ⊥
  never x e = absurd (less_equal (sym e ∙ tied_itself total x))
    where
      less_equal : Less ≡ Equal → ⊥
      less_equal f = absurd cc

  not_both : (x z : X) → cmp x z ≡ Less → cmp z x ≡ Less → ⊥
  not_both x z e f = never x (total.trans x z x e f)

  -- two lists that ascend and have the same members are one
  pub one_list : (xs ys : List X) → Ascends xs → Ascends ys → ((z : X) → In z xs → In z ys) → ((z : X) → In z ys → In z xs) → xs ≡ ys
  one_list [] [] r s to from = refl
  one_list [] (y ∷ ys) r s to from = absurd (from y (inl refl))
  one_list (x ∷ xs) [] r s to from = absurd (to x (inl refl))
  one_list (x ∷ xs) (y ∷ ys) r s to from =
      let first : x ≡ y = heads (to x (inl refl)) (from y (inl refl)) in
      let rest : xs ≡ ys = one_list xs ys r.1 s.1 (λ z i. later y x ys (r.0 z i) (sym first) (to z (inr i))) (λ z i. later x y xs (s.0 z i) first (from z (inr i))) in
      ap (λ (z : X). z ∷ xs) first ∙ ap (λ (l : List X). y ∷ l) rest
    where
      heads : In x (y ∷ ys) → In y (x ∷ xs) → x ≡ y
      heads (inl e) j = sym e
      heads (inr i) (inl e) = e
      heads (inr i) (inr j) = absurd (not_both x y (r.0 y j) (s.0 x i))

      later : {z : X} (a b : X) (zs : List X) → cmp b z ≡ Less → a ≡ b → In z (a ∷ zs) → In z zs
      later {z} a b zs less same (inl e) = absurd (never z (subst (λ (w : X). cmp w z ≡ Less) (sym same ∙ e) less))
      later a b zs less same (inr i) = i

  -- ---- the list in order

  greater : (x y : X) → is_gt (cmp x y) ≡ true → cmp y x ≡ Less
  greater x y e = total.antisymm y x ∙ by_order (cmp x y) e
    where
      by_order : (o : Ordering) → is_gt o ≡ true → ordering_reverse o ≡ Less
      by_order Less e = absurd cc
      by_order Equal e = absurd cc
      by_order Greater e = refl

  less : (o : Ordering) → is_gt o ≡ false → (o ≡ Equal → ⊥) → o ≡ Less
  less Less e differ = refl
  less Equal e differ = absurd (differ refl)
  less Greater e differ = absurd cc

  insert_ascends : (x : X) (ys : List X) → Ascends ys → ((z : X) → In z ys → cmp x z ≡ Equal → ⊥) → Ascends (insert cmp x ys)
  insert_ascends x [] r differ = ((λ z i. absurd i), tt)
  insert_ascends x (y ∷ ys) r differ = by_test (insert_ascends x ys r.1 (λ z i. differ z (inr i))) (is_gt (cmp x y)) refl
    where
      first : cmp x y ≡ Less → (z : X) → In z (y ∷ ys) → cmp x z ≡ Less
      first e z (inl same) = subst (λ (w : X). cmp x w ≡ Less) same e
      first e z (inr i) = total.trans x y z e (r.0 z i)

      second : cmp y x ≡ Less → (z : X) → In z (x ∷ ys) → cmp y z ≡ Less
      second e z (inl same) = subst (λ (w : X). cmp y w ≡ Less) same e
      second e z (inr i) = r.0 z i

      by_test : Ascends (insert cmp x ys) → (b : Bool) → is_gt (cmp x y) ≡ b → Ascends (cond b (y ∷ insert cmp x ys) (x ∷ (y ∷ ys)))
      by_test rest false e = (first (less (cmp x y) e (differ y (inl refl))), r)
      by_test rest true e = ((λ z i. second (greater x y e) z (in_by_insert cmp x ys z i)), rest)

  pub in_order_ascends : (xs : List X) → Rises (λ x z. cmp x z ≡ Equal → ⊥) xs → Ascends (in_order cmp xs)
  in_order_ascends [] r = tt
  in_order_ascends (x ∷ xs) r = insert_ascends x (in_order cmp xs) (in_order_ascends xs r.1) (λ z i. r.0 z (in_by_order cmp xs z i))
