-- The table of elements.
use Rattle.std.proofs.Common.{◌≡◌, ℕ, zero, suc, ◌+◌, ◌-◌, ◌<◌, ◌≤◌, Bool, true, false, nat_lt, List, [], ◌∷◌, ◌++◌, length, map, Option, Some, None, refl, sym, ap, ◌∙◌, arith}
use Rattle.std.specs.List.{range_with_len, slice_get}
use Rattle.std.specs.Option.{option_map, option_and_then, is_some}
use Rattle.std.proofs.lemmas.Bool.Decides.{nat_tests}
use Rattle.std.proofs.lemmas.List.{length-append, length-map, append_assoc, map_push}
use Rattle.std.proofs.lemmas.List.Sums.{sum_by-cons}
use Rattle.std.proofs.lemmas.Option.{slice_get-map}
use Rattle.nc_types.specs.declared.network.elements.ElementPlace.{ElementPlace}
use Rattle.nc_types.specs.Config.{ElementView, ConfigView}
use Rattle.nc_types.specs.Network.{ElementIn, element_count, element_from}
use Rattle.nc_types.specs.Tables.{places_in, places_from, element_in}

-- ---- lists

pub slice_get_left : {X : Type 0} (xs ys : List X) (n : ℕ) → n < length xs → slice_get (xs ++ ys) n ≡ slice_get xs n
slice_get_left [] ys n lt = absurd (omega arith)
slice_get_left (x ∷ xs) ys zero lt = refl
slice_get_left (x ∷ xs) ys (suc n) lt = slice_get_left xs ys n (omega arith)

pub slice_get_right : {X : Type 0} (xs ys : List X) (n : ℕ) → length xs ≤ n → slice_get (xs ++ ys) n ≡ slice_get ys (n - length xs)
slice_get_right [] ys n le = ap (slice_get ys) (omega arith)
slice_get_right (x ∷ xs) ys zero le = absurd (omega arith)
slice_get_right (x ∷ xs) ys (suc n) le = slice_get_right xs ys n (omega arith) ∙ ap (slice_get ys) (omega arith)

pub slice_get_middle : {X : Type 0} (xs : List X) (y : X) (ys : List X) → slice_get (xs ++ y ∷ ys) (length xs) ≡ Some y
slice_get_middle [] y ys = refl
slice_get_middle (x ∷ xs) y ys = slice_get_middle xs y ys

range_at : (from count n : ℕ) → n < count → slice_get (range_with_len from count) n ≡ Some (from + n)
range_at from zero n lt = absurd (omega arith)
range_at from (suc count) zero lt = ap Some (omega arith)
range_at from (suc count) (suc n) lt = range_at (from + 1) count n (omega arith) ∙ ap Some (omega arith)

pub range_more : (from count : ℕ) → range_with_len from (suc count) ≡ range_with_len from count ++ (from + count) ∷ []
range_more from zero = ap (λ (k : ℕ). k ∷ []) (omega arith)
range_more from (suc count) = ap (λ (ks : List ℕ). from ∷ ks) (range_more (from + 1) count ∙ ap (λ (k : ℕ). range_with_len (from + 1) count ++ k ∷ []) (omega arith))

range_push : (from count : ℕ) → range_with_len from (count + 1) ≡ range_with_len from count ++ (from + count) ∷ []
range_push from count = let e : count + 1 ≡ suc count = omega arith in rw e (range_more from count)

length-range : (from count : ℕ) → length (range_with_len from count) ≡ count
length-range from zero = refl
length-range from (suc count) = omega (arith, length-range (from + 1) count)

-- ---- places

pub places_in-push : (router count : ℕ) → places_in router (count + 1) ≡ places_in router count ++ record { router = record { 0 = router }; place = count } ∷ []
places_in-push router count =
    let at : ℕ → ElementPlace = λ (place : ℕ). record { router = record { 0 = router }; place = place } in
    let here : 0 + count ≡ count = omega arith in
    ap (map at) (range_push 0 count) ∙ map_push at (range_with_len 0 count) (0 + count) ∙ ap (λ (k : ℕ). map at (range_with_len 0 count) ++ at k ∷ []) here

length-places_in : (router count : ℕ) → length (places_in router count) ≡ count
length-places_in router count =
    let at : ℕ → ElementPlace = λ (place : ℕ). record { router = record { 0 = router }; place = place } in
    length-map (range_with_len 0 count) at ∙ length-range 0 count

pub length-places_from : (router : ℕ) (cs : List ConfigView) → length (places_from router cs) ≡ element_count cs
length-places_from router [] = refl
length-places_from router (c ∷ cs) =
    omega (
      arith,
      length-append (places_in router (length c.elements)) (places_from (router + 1) cs),
      length-places_in router (length c.elements),
      length-places_from (router + 1) cs,
      sum_by-cons (λ (x : ConfigView). length x.elements) c cs,
    )

place_at : (router count n : ℕ) → n < count → slice_get (places_in router count) n ≡ Some (record { router = record { 0 = router }; place = n })
place_at router count n lt =
    let at : ℕ → ElementPlace = λ (place : ℕ). record { router = record { 0 = router }; place = place } in
    slice_get-map at (range_with_len 0 count) n ∙ ap (option_map at) (range_at 0 count n lt) ∙ ap (λ (k : ℕ). Some (at k)) (omega arith)

-- the element at the place of a number is the element of the number
pub found : (before cs : List ConfigView) (n : ℕ) → option_and_then (element_in (before ++ cs)) (slice_get (places_from (length before) cs) n) ≡ element_from (length before) cs n
found before [] n = refl
found before (c ∷ cs) n = by_test (nat_lt n (length c.elements)) refl (found (before ++ c ∷ []) cs (n - length c.elements))
  where
    by_test : (b : Bool) → nat_lt n (length c.elements) ≡ b
        → option_and_then (element_in (before ++ c ∷ [] ++ cs)) (slice_get (places_from (length (before ++ c ∷ [])) cs) (n - length c.elements)) ≡ element_from (length (before ++ c ∷ [])) cs (n - length c.elements)
        → option_and_then (element_in (before ++ c ∷ cs)) (slice_get (places_from (length before) (c ∷ cs)) n) ≡ element_from (length before) (c ∷ cs) n
    by_test true e rest =
        let lt : n < length c.elements = grind (arith, nat_tests) in
        let count : length (places_in (length before) (length c.elements)) ≡ length c.elements = length-places_in (length before) (length c.elements) in
        let first = slice_get_left (places_in (length before) (length c.elements)) (places_from (length before + 1) cs) n (omega arith) in
        rw (first, place_at (length before) (length c.elements) n lt, slice_get_middle before c cs, e) refl
    by_test false e rest =
        let le : length c.elements ≤ n = grind (arith, nat_tests) in
        let count : length (places_in (length before) (length c.elements)) ≡ length c.elements = length-places_in (length before) (length c.elements) in
        let behind = slice_get_right (places_in (length before) (length c.elements)) (places_from (length before + 1) cs) n (omega arith) in
        let all : before ++ c ∷ [] ++ cs ≡ before ++ (c ∷ cs) = append_assoc before (c ∷ []) cs in
        let next : length (before ++ c ∷ []) ≡ length before + 1 = length-append before (c ∷ []) in
        rw (behind, count, e) (rw (all, next) at rest)

-- ---- numbers below the count

is_at : (cs : List ElementView) (n : ℕ) (f : ElementView → ElementIn) → n < length cs → is_some (option_map f (slice_get cs n)) ≡ true
is_at [] n f lt = absurd (omega arith)
is_at (e ∷ es) zero f lt = refl
is_at (e ∷ es) (suc n) f lt = is_at es n f (omega arith)

-- the numbers that have an element are those below the count
pub is_within : (router : ℕ) (cs : List ConfigView) (n : ℕ) → is_some (element_from router cs n) ≡ nat_lt n (element_count cs)
is_within router [] n = grind (arith, nat_tests)
is_within router (c ∷ cs) n = by_test (nat_lt n (length c.elements)) refl (is_within (router + 1) cs (n - length c.elements))
  where
    by_test : (b : Bool) → nat_lt n (length c.elements) ≡ b → is_some (element_from (router + 1) cs (n - length c.elements)) ≡ nat_lt (n - length c.elements) (element_count cs) → is_some (element_from router (c ∷ cs) n) ≡ nat_lt n (element_count (c ∷ cs))
    by_test true e rest =
        let lt : n < length c.elements = grind (arith, nat_tests) in
        let count : element_count (c ∷ cs) ≡ length c.elements + element_count cs = sum_by-cons (λ (x : ConfigView). length x.elements) c cs in
        let below : nat_lt n (length c.elements + element_count cs) ≡ true = grind (arith, nat_tests) in
        rw e (is_at c.elements n (λ x. record { router = router; element = x }) lt ∙ sym (ap (nat_lt n) count ∙ below))
    by_test false e rest =
        let le : length c.elements ≤ n = grind (arith, nat_tests) in
        let count : element_count (c ∷ cs) ≡ length c.elements + element_count cs = sum_by-cons (λ (x : ConfigView). length x.elements) c cs in
        let shift : nat_lt (n - length c.elements) (element_count cs) ≡ nat_lt n (length c.elements + element_count cs) = grind (arith, nat_tests) in
        rw e (rest ∙ shift ∙ sym (ap (nat_lt n) count))

pub same_some : {A B : Type 0} (f : A → B) (o : Option A) → is_some o ≡ is_some (option_map f o)
same_some f None = refl
same_some f (Some x) = refl
