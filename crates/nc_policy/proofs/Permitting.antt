-- What is found in the lists of a configuration.
use Rattle.std.proofs.Common.{◌≡◌, ℕ, ◌+◌, ◌<◌, Bool, true, false, cond, nat_lt, not, List, [], ◌∷◌, length, map, get_or, Option, Some, None, refl, sym, ap, ◌∙◌}
use Rattle.std.specs.Prelude.{position, slice_get, option_and_then}
use Rattle.std.specs.Option.{option_map}
use Rattle.std.specs.List.{position_or_len}
use Rattle.std.proofs.lemmas.List.{length-map}
use Rattle.std.proofs.lemmas.Option.{slice_get-map, slice_get_read}
use Rattle.nc_tables.specs.declared.policy.Place.{Place}
use Rattle.nc_tables.specs.Policy.{place_in}

module _ {A B : Type 0} (f : A → B) (test : B → Bool) where
  abbrev Position : ℕ → ℕ → Option ℕ
  Position n k = cond (nat_lt k n) (Some k) None

  position_or_len_map : (xs : List A) → position_or_len test (map f xs) ≡ position_or_len (λ x. test (f x)) xs
  position_or_len_map [] = refl
  position_or_len_map (x ∷ xs) = on (test (f x)) (position_or_len_map xs)
    where
      on : (b : Bool) → position_or_len test (map f xs) ≡ position_or_len (λ x. test (f x)) xs → cond (not b) (1 + position_or_len test (map f xs)) 0 ≡ cond (not b) (1 + position_or_len (λ x. test (f x)) xs) 0
      on true more = refl
      on false more = ap (λ n. 1 + n) more

  pub position_map : (xs : List A) → position test (map f xs) ≡ position (λ x. test (f x)) xs
  position_map xs = ap (λ n. Position (length (map f xs)) n) (position_or_len_map xs) ∙ ap (λ n. Position n (position_or_len (λ x. test (f x)) xs)) (length-map xs f)

-- what is read at a place, and through a view
pub read_at : {A : Type 0} (items xs : List A) (k : ℕ) (x : A) → xs ≡ items → k < length xs → x ≡ get_or xs k x → slice_get items k ≡ Some x
read_at {A} items xs k x same lt read = ap (λ (ys : List A). slice_get ys k) (sym same) ∙ slice_get_read xs (length xs) k x refl lt read

pub seen_at : {A B : Type 0} (view : A → B) (items xs : List A) (k : ℕ) (x : A) → xs ≡ items → k < length xs → x ≡ get_or xs k x → slice_get (map view items) k ≡ Some (view x)
seen_at view items xs k x same lt read = slice_get-map view items k ∙ ap (option_map view) (read_at items xs k x same lt read)

-- the entry by which the list of a name permits
pub placed : {L : Type 0} (lists : List L) (is_named : L → Bool) (permits : L → Option ℕ) (k i : ℕ) (l : L)
    → Some k ≡ position is_named lists → slice_get lists k ≡ Some l → Some i ≡ permits l → (m n : ℕ) → m ≡ k → n ≡ i → Some (record { list = m; entry = n }) ≡ place_in is_named permits lists
placed {L} lists is_named permits k i l named at entry m n same_list same_entry =
    ap (λ (k : ℕ). Some (put k n)) same_list ∙ ap (λ (i : ℕ). Some (put k i)) same_entry
    ∙ sym (
    ap (option_and_then (λ (k : ℕ). option_map (put k) (option_and_then permits (slice_get lists k)))) (sym named)
    ∙ ap (λ (o : Option L). option_map (put k) (option_and_then permits o)) at
    ∙ ap (option_map (put k)) (sym entry)
    )
  where
    put : ℕ → ℕ → Place
    put k i = record { list = k; entry = i }

-- the list of a name doesn't permit
pub unplaced : {L : Type 0} (lists : List L) (is_named : L → Bool) (permits : L → Option ℕ) (k : ℕ) (l : L)
    → Some k ≡ position is_named lists → slice_get lists k ≡ Some l → None ≡ permits l → None ≡ place_in is_named permits lists
unplaced {L} lists is_named permits k l named at none =
    sym (
    ap (option_and_then (λ (k : ℕ). option_map (put k) (option_and_then permits (slice_get lists k)))) (sym named)
    ∙ ap (λ (o : Option L). option_map (put k) (option_and_then permits o)) at
    ∙ ap (option_map (put k)) (sym none)
    )
  where
    put : ℕ → ℕ → Place
    put k i = record { list = k; entry = i }
