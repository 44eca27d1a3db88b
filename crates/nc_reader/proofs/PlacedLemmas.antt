-- Things to which places are given one by one.
use Rattle.std.proofs.Common.{◌≡◌, ℕ, zero, suc, ◌+◌, ◌<◌, ◌≤◌, List, [], ◌∷◌, length, take, set, get_or, refl, sym, ap, ◌∙◌, arith}
use Rattle.std.proofs.lemmas.List.{take_all}
use Rattle.nc_reader.specs.Configuration.{with_places}

module _ {T : Type 0} (placed : ℕ → T → T) where
  length_placed : (ks : List ℕ) (xs : List T) → length (with_places placed ks xs) ≡ length xs
  length_placed [] xs = refl
  length_placed (k ∷ ks) [] = refl
  length_placed (k ∷ ks) (x ∷ xs) = ap suc (length_placed ks xs)

  by_places : (i : ℕ) (ks : List ℕ) (xs : List T) (k : ℕ) (x : T) → i < length ks → i < length xs → k ≡ get_or ks i k → x ≡ get_or (with_places placed (take i ks) xs) i x
      → set (with_places placed (take i ks) xs) i (placed k x) ≡ with_places placed (take (suc i) ks) xs
  by_places i [] xs k x some within is at = absurd (omega arith)
  by_places i (a ∷ ks) [] k x some within is at = absurd (omega arith)
  by_places zero (a ∷ ks) (y ∷ xs) k x some within is at = ap (λ (n : ℕ). placed n x ∷ xs) is ∙ ap (λ (z : T). placed a z ∷ xs) at
  by_places (suc i) (a ∷ ks) (y ∷ xs) k x some within is at = ap (λ (zs : List T). placed a y ∷ zs) (by_places i ks xs k x (omega arith) (omega arith) is at)

  past : (i : ℕ) (ks : List ℕ) (xs : List T) → length xs ≤ i → with_places placed (take i ks) xs ≡ with_places placed (take (suc i) ks) xs
  past i [] xs over = ap (λ (ks : List ℕ). with_places placed ks xs) (take_all i [] (omega arith) ∙ sym (take_all (suc i) [] (omega arith)))
  past zero (a ∷ ks) [] over = refl
  past (suc i) (a ∷ ks) [] over = refl
  past zero (a ∷ ks) (y ∷ xs) over = absurd (omega (arith, over))
  past (suc i) (a ∷ ks) (y ∷ xs) over = ap (λ (zs : List T). placed a y ∷ zs) (past i ks xs (omega (arith, over)))

  -- the next place, where a thing is left and where none is
  pub placed_more : (i : ℕ) (ks : List ℕ) (xs things : List T) (k : ℕ) (x : T) → i < length ks → i < length things → k ≡ get_or ks i k → x ≡ get_or things i x
      → things ≡ with_places placed (take i ks) xs → set things i (placed k x) ≡ with_places placed (take (i + 1) ks) xs
  placed_more i ks xs things k x some within is at same =
      let next : suc i ≡ i + 1 = omega arith in
      let left : i < length xs = omega (arith, within, ap length same, length_placed (take i ks) xs) in
      ap (λ (zs : List T). set zs i (placed k x)) same ∙ by_places i ks xs k x some left is (at ∙ ap (λ (zs : List T). get_or zs i x) same) ∙ ap (λ (n : ℕ). with_places placed (take n ks) xs) next

  pub placed_past : (i : ℕ) (ks : List ℕ) (xs things : List T) → length things ≤ i → things ≡ with_places placed (take i ks) xs → things ≡ with_places placed (take (i + 1) ks) xs
  placed_past i ks xs things over same =
      let next : suc i ≡ i + 1 = omega arith in
      same ∙ past i ks xs (omega (arith, over, ap length same, length_placed (take i ks) xs)) ∙ ap (λ (n : ℕ). with_places placed (take n ks) xs) next
