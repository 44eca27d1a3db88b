-- Items of lists: of parts, of what a test lets pass, and of what is made of others.
use Rattle.std.proofs.Common.{◌≡◌, ◌⊎◌, ℕ, zero, suc, ◌<◌, Bool, true, false, cond, ◌||◌, nat_eq, List, [], ◌∷◌, ◌++◌, length, get_or, map, filter, Contains, Option, Some, None, All, refl, sym, ap, subst, ◌∙◌, arith, inl, inr}
use Rattle.std.specs.List.{cons_option, list_any, filter_map, flat_map, slice_get}
use Rattle.std.proofs.lemmas.Bool.{eq-eqb, eqb-true}
use Rattle.std.proofs.lemmas.List.Elements.{All-nil, All-cons, All-head, All-tail}

-- an item of a list
abbrev pub In : {X : Type 0} → X → List X → Type 0
In z [] = ⊥
In z (x ∷ xs) = (x ≡ z) ⊎ In z xs

module _ {X : Type 0} where
  pub in_at : (xs : List X) (k : ℕ) (d : X) → k < length xs → In (get_or xs k d) xs
  in_at [] k d lt = absurd (omega arith)
  in_at (x ∷ xs) zero d lt = inl refl
  in_at (x ∷ xs) (suc k) d lt = inr (in_at xs k d (omega arith))

  pub in_by_get : (xs : List X) (k : ℕ) (x : X) → slice_get xs k ≡ Some x → In x xs
  in_by_get [] k x e = absurd (cc)
  in_by_get (y ∷ xs) zero x e = inl (cc)
  in_by_get (y ∷ xs) (suc k) x e = inr (in_by_get xs k x e)

  pub in_by_contains : (xs : List X) (z : X) → Contains xs z → In z xs
  in_by_contains xs z c = subst (λ (y : X). In y xs) c.2 (in_at xs c.0 z c.1)

  pub contains_by_in : (xs : List X) (z : X) → In z xs → Contains xs z
  contains_by_in [] z h = absurd h
  contains_by_in (x ∷ xs) z (inl e) = (zero, (omega arith), e)
  contains_by_in (x ∷ xs) z (inr h) = let c = contains_by_in xs z h in (suc c.0, (let lt : c.0 < length xs = c.1 in omega arith), c.2)

  -- a list that has an item isn't empty
  pub some_in : (xs : List X) (z : X) → In z xs → 0 < length xs
  some_in [] z i = absurd i
  some_in (x ∷ xs) z i = omega arith

  -- ---- what holds of each item

  pub all_in : (P : X → Type 0) (xs : List X) → All P xs → (z : X) → In z xs → P z
  all_in P [] each z i = absurd i
  all_in P (x ∷ xs) each z (inl same) = subst P same (All-head P x xs each)
  all_in P (x ∷ xs) each z (inr i) = all_in P xs (All-tail P x xs each) z i

  pub all_by_in : (P : X → Type 0) (xs : List X) → ((z : X) → In z xs → P z) → All P xs
  all_by_in P [] each = All-nil P
  all_by_in P (x ∷ xs) each = All-cons P x xs (each x (inl refl)) (all_by_in P xs (λ z i. each z (inr i)))

  -- ---- joined lists

  pub in_left : (xs ys : List X) (z : X) → In z xs → In z (xs ++ ys)
  in_left [] ys z i = absurd i
  in_left (x ∷ xs) ys z (inl same) = inl same
  in_left (x ∷ xs) ys z (inr i) = inr (in_left xs ys z i)

  pub in_right : (xs ys : List X) (z : X) → In z ys → In z (xs ++ ys)
  in_right [] ys z i = i
  in_right (x ∷ xs) ys z i = inr (in_right xs ys z i)

  pub in_either : (xs ys : List X) (z : X) → In z (xs ++ ys) → In z xs ⊎ In z ys
  in_either [] ys z i = inr i
  in_either (x ∷ xs) ys z (inl same) = inl (inl same)
  in_either (x ∷ xs) ys z (inr i) = later (in_either xs ys z i)
    where
      later : In z xs ⊎ In z ys → In z (x ∷ xs) ⊎ In z ys
      later (inl j) = inl (inr j)
      later (inr j) = inr j

  -- ---- what a test lets pass

  pub in_filter : (p : X → Bool) (xs : List X) (z : X) → In z xs → p z ≡ true → In z (filter p xs)
  in_filter p [] z h e = absurd h
  in_filter p (x ∷ xs) z (inl same) e = subst (λ (b : Bool). In z (cond b (x ∷ filter p xs) (filter p xs))) (sym (ap p same ∙ e)) (inl same)
  in_filter p (x ∷ xs) z (inr h) e = by_test (p x) (in_filter p xs z h e)
    where
      by_test : (b : Bool) → In z (filter p xs) → In z (cond b (x ∷ filter p xs) (filter p xs))
      by_test true i = inr i
      by_test false i = i

  pub in_by_filter : (p : X → Bool) (xs : List X) (z : X) → In z (filter p xs) → In z xs × (p z ≡ true)
  in_by_filter p [] z h = absurd h
  in_by_filter p (x ∷ xs) z h = by_test (in_by_filter p xs z) (p x) refl h
    where
      later : In z xs × (p z ≡ true) → In z (x ∷ xs) × (p z ≡ true)
      later r = (inr r.0, r.1)

      by_test : (In z (filter p xs) → In z xs × (p z ≡ true)) → (b : Bool) → p x ≡ b → In z (cond b (x ∷ filter p xs) (filter p xs)) → In z (x ∷ xs) × (p z ≡ true)
      by_test rest true e (inl same) = (inl same, ap p (sym same) ∙ e)
      by_test rest true e (inr i) = later (rest i)
      by_test rest false e i = later (rest i)

  -- the item that lets a test of some item pass
  pub some_passes : (p : X → Bool) (xs : List X) → list_any p xs ≡ true → (z : X) × (In z xs) × (p z ≡ true)
  some_passes p [] e = absurd (cc)
  some_passes p (x ∷ xs) e = by_test (some_passes p xs) (p x) refl e
    where
      later : (z : X) × (In z xs) × (p z ≡ true) → (z : X) × (In z (x ∷ xs)) × (p z ≡ true)
      later r = (r.0, inr r.1, r.2)

      by_test : (list_any p xs ≡ true → (z : X) × (In z xs) × (p z ≡ true)) → (b : Bool) → p x ≡ b → (b || list_any p xs) ≡ true → (z : X) × (In z (x ∷ xs)) × (p z ≡ true)
      by_test rest true here e = (x, inl refl, here)
      by_test rest false here e = later (rest e)

  pub passes_some : (p : X → Bool) (xs : List X) (z : X) → In z xs → p z ≡ true → list_any p xs ≡ true
  passes_some p [] z i e = absurd i
  passes_some p (x ∷ xs) z (inl same) e = ap (λ (b : Bool). b || list_any p xs) (ap p same ∙ e)
  passes_some p (x ∷ xs) z (inr i) e = by_test (p x) (passes_some p xs z i e)
    where
      by_test : (b : Bool) → list_any p xs ≡ true → (b || list_any p xs) ≡ true
      by_test true rest = refl
      by_test false rest = rest

  -- ---- what is made of other items

  pub in_map : {Y : Type 0} (f : X → Y) (xs : List X) (z : X) → In z xs → In (f z) (map f xs)
  in_map f [] z i = absurd i
  in_map f (x ∷ xs) z (inl same) = inl (ap f same)
  in_map f (x ∷ xs) z (inr i) = inr (in_map f xs z i)

  pub in_by_map : {Y : Type 0} (f : Y → X) (ys : List Y) (z : X) → In z (map f ys) → (y : Y) × (In y ys) × (f y ≡ z)
  in_by_map f [] z i = absurd i
  in_by_map f (y ∷ ys) z (inl same) = (y, inl refl, same)
  in_by_map f (y ∷ ys) z (inr i) = let r = in_by_map f ys z i in (r.0, inr r.1, r.2)

  pub in_by_flat_map : {Y : Type 0} (f : Y → List X) (ys : List Y) (z : X) → In z (flat_map f ys) → (y : Y) × (In y ys) × (In z (f y))
  in_by_flat_map f [] z i = absurd i
  in_by_flat_map f (y ∷ ys) z i = by_part (in_by_flat_map f ys z) (in_either (f y) (flat_map f ys) z i)
    where
      by_part : (In z (flat_map f ys) → (w : _) × (In w ys) × (In z (f w))) → In z (f y) ⊎ In z (flat_map f ys) → (w : _) × (In w (y ∷ ys)) × (In z (f w))
      by_part rest (inl j) = (y, inl refl, j)
      by_part rest (inr j) = let r = rest j in (r.0, inr r.1, r.2)

  pub in_by_filter_map : {Y : Type 0} (f : Y → Option X) (ys : List Y) (z : X) → In z (filter_map f ys) → (y : Y) × (In y ys) × (f y ≡ Some z)
  in_by_filter_map f [] z i = absurd i
  in_by_filter_map f (y ∷ ys) z i = by_made (in_by_filter_map f ys z) (f y) refl i
    where
      later : (w : _) × (In w ys) × (f w ≡ Some z) → (w : _) × (In w (y ∷ ys)) × (f w ≡ Some z)
      later r = (r.0, inr r.1, r.2)

      by_made : (In z (filter_map f ys) → (w : _) × (In w ys) × (f w ≡ Some z)) → (o : Option X) → f y ≡ o → In z (cons_option o (filter_map f ys)) → (w : _) × (In w (y ∷ ys)) × (f w ≡ Some z)
      by_made rest None e j = later (rest j)
      by_made rest (Some x) e (inl same) = (y, inl refl, e ∙ ap Some same)
      by_made rest (Some x) e (inr j) = later (rest j)

-- a number of a list is among them
pub is_among : (n : ℕ) (ns : List ℕ) → In n ns → list_any (nat_eq n) ns ≡ true
is_among n ns i = passes_some (nat_eq n) ns n i (eq-eqb n n refl)

pub among_is : (n : ℕ) (ns : List ℕ) → list_any (nat_eq n) ns ≡ true → In n ns
among_is n ns e = let r = some_passes (nat_eq n) ns e in subst (λ (m : ℕ). In m ns) (sym (eqb-true n r.0 r.2)) r.1
