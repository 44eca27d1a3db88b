-- Lists that lie one behind the other: each by its number, one more, and the first of them.
use Rattle.std.proofs.Common.{◌≡◌, ℕ, suc, zero, ◌-◌, ◌<◌, ◌≤◌, List, [], ◌∷◌, ◌++◌, length, get_or, Some, slice_get, sym, ap, ◌∙◌, subst, refl, arith, take, drop}
use Rattle.std.proofs.lemmas.List.{take-append-le, drop-append-le, length-append, length-drop, length-take, take-append-drop}
use Rattle.std.proofs.Math.Seq.{drop-append_seam, take-length}
use Rattle.nc_graph.specs.Lists.{between, lists_by, start_of, AreEnds}

-- the items begin no later than they end
pub AreEnds-bound : (from : ℕ) (ends : List ℕ) (count : ℕ) → AreEnds from ends count → from ≤ count
AreEnds-bound from [] count h = omega (arith, h)
AreEnds-bound from (e ∷ es) count h = let r = AreEnds-bound e es count h.1 in omega (arith, h.0)

-- each list ends where the next one begins
pub start_of-next : (from : ℕ) (ends : List ℕ) (i d : ℕ) → i < length ends → start_of from ends (suc i) ≡ get_or ends i d
start_of-next from [] i d l = absurd (omega arith)
start_of-next from (e ∷ es) zero d l = refl
start_of-next from (e ∷ es) (suc i) d l = start_of-next e es i d (omega arith)

pub start_of-within : (from : ℕ) (ends : List ℕ) (count : ℕ) → AreEnds from ends count → (i : ℕ) → start_of from ends i ≤ count
start_of-within from ends count h zero = AreEnds-bound from ends count h
start_of-within from [] count h (suc i) = omega (arith, h)
start_of-within from (e ∷ es) count h (suc i) = start_of-within e es count h.1 i

pub start_of-order : (from : ℕ) (ends : List ℕ) (count : ℕ) → AreEnds from ends count → (i : ℕ) → start_of from ends i ≤ start_of from ends (suc i)
start_of-order from [] count h zero = omega arith
start_of-order from [] count h (suc i) = omega arith
start_of-order from (e ∷ es) count h zero = h.0
start_of-order from (e ∷ es) count h (suc i) = start_of-order e es count h.1 i

module _ {A : Type 0} where
  pub length-lists_by : (items : List A) (from : ℕ) (ends : List ℕ) → length (lists_by items from ends) ≡ length ends
  length-lists_by items from [] = refl
  length-lists_by items from (e ∷ es) = ap suc (length-lists_by items e es)

  pub slice_get-lists_by : (items : List A) (from : ℕ) (ends : List ℕ) (i : ℕ) → i < length ends
      → slice_get (lists_by items from ends) i ≡ Some (between items (start_of from ends i) (start_of from ends (suc i)))
  slice_get-lists_by items from [] i l = absurd (omega arith)
  slice_get-lists_by items from (e ∷ es) zero l = refl
  slice_get-lists_by items from (e ∷ es) (suc i) l = slice_get-lists_by items e es i (omega arith)

  -- items behind them change no list
  between-more : (xs ys : List A) (from to : ℕ) → from ≤ to → to ≤ length xs → between (xs ++ ys) from to ≡ between xs from to
  between-more xs ys from to a b =
      ap (take (to - from)) (drop-append-le from xs ys (omega arith))
      ∙ take-append-le (to - from) (drop from xs) ys (omega (arith, length-drop from xs))

  pub lists_by-more : (xs ys : List A) (from : ℕ) (ends : List ℕ) → AreEnds from ends (length xs) → lists_by (xs ++ ys) from ends ≡ lists_by xs from ends
  lists_by-more xs ys from [] h = refl
  lists_by-more xs ys from (e ∷ es) h =
      let here = between-more xs ys from e h.0 (AreEnds-bound e es (length xs) h.1) in
      let rest = lists_by-more xs ys e es h.1 in
      λ i. here i ∷ rest i

  -- one list more
  pub lists_by-push : (items : List A) (from : ℕ) (ends : List ℕ) (count end : ℕ) → AreEnds from ends count
      → lists_by items from (ends ++ end ∷ []) ≡ lists_by items from ends ++ between items count end ∷ []
  lists_by-push items from [] count end h = ap (λ m. between items m end ∷ []) h
  lists_by-push items from (e ∷ es) count end h = ap (λ r. between items from e ∷ r) (lists_by-push items e es count end h.1)

  -- the first lists
  pub lists_by-take : (items : List A) (from : ℕ) (ends : List ℕ) (n : ℕ) → lists_by items from (take n ends) ≡ take n (lists_by items from ends)
  lists_by-take items from ends zero = refl
  lists_by-take items from [] (suc n) = refl
  lists_by-take items from (e ∷ es) (suc n) = ap (λ r. between items from e ∷ r) (lists_by-take items e es n)

pub AreEnds-push : (from : ℕ) (ends : List ℕ) (count end : ℕ) → AreEnds from ends count → count ≤ end → AreEnds from (ends ++ end ∷ []) end
AreEnds-push from [] count end h l = (omega (arith, h), refl)
AreEnds-push from (e ∷ es) count end h l = (h.0, AreEnds-push e es count end h.1 l)

pub AreEnds-take : (from : ℕ) (ends : List ℕ) (count : ℕ) → AreEnds from ends count → (n : ℕ) → AreEnds from (take n ends) (start_of from ends n)
AreEnds-take from ends count h zero = refl
AreEnds-take from [] count h (suc n) = refl
AreEnds-take from (e ∷ es) count h (suc n) = (h.0, AreEnds-take e es count h.1 n)

module _ {A : Type 0} where
  -- the lists with one more behind them
  pub lists_by-pushed : (items list : List A) (ends : List ℕ) → AreEnds 0 ends (length items)
      → (items' : List A) (ends' : List ℕ) → items' ≡ items ++ list → ends' ≡ ends ++ length items' ∷ []
      → lists_by items' 0 ends' ≡ lists_by items 0 ends ++ list ∷ []
  lists_by-pushed items list ends h items' ends' a b =
      ap (lists_by items' 0) b
      ∙ lists_by-push items' 0 ends (length items) (length items') h
      ∙ (λ i. before i ++ last i ∷ [])
    where
      before : lists_by items' 0 ends ≡ lists_by items 0 ends
      before = ap (λ xs. lists_by xs 0 ends) a ∙ lists_by-more items list 0 ends h

      count : length items' - length items ≡ length list
      count = let l = ap length a ∙ length-append items list in omega arith

      last : between items' (length items) (length items') ≡ list
      last =
          ap (λ n. take n (drop (length items) items')) count
          ∙ ap (λ xs. take (length list) (drop (length items) xs)) a
          ∙ ap (take (length list)) (drop-append_seam items list)
          ∙ take-length list

  module _ (items : List A) (ends : List ℕ) (h : AreEnds 0 ends (length items)) (n : ℕ) (items' : List A) (ends' : List ℕ)
      (a : items' ≡ take (start_of 0 ends n) items) (b : ends' ≡ take n ends) where
    short : length (take (start_of 0 ends n) items) ≡ start_of 0 ends n
    short = let l = length-take (start_of 0 ends n) items in let w = start_of-within 0 ends (length items) h n in omega arith

    ends-first : AreEnds 0 (take n ends) (length (take (start_of 0 ends n) items))
    ends-first = subst (AreEnds 0 (take n ends)) (sym short) (AreEnds-take 0 ends (length items) h n)

    -- the first lists, with the items of these alone
    pub AreEnds-first : AreEnds 0 ends' (length items')
    AreEnds-first = subst (λ es. AreEnds 0 es (length items')) (sym b) (subst (λ xs. AreEnds 0 (take n ends) (length xs)) (sym a) ends-first)

    pub lists_by-first : lists_by items' 0 ends' ≡ take n (lists_by items 0 ends)
    lists_by-first =
        (λ i. lists_by (a i) 0 (b i))
        ∙ sym (lists_by-more (take (start_of 0 ends n) items) (drop (start_of 0 ends n) items) 0 (take n ends) ends-first)
        ∙ ap (λ xs. lists_by xs 0 (take n ends)) (take-append-drop (start_of 0 ends n) items)
        ∙ lists_by-take items 0 ends n
