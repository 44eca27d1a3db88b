-- Of which communities a route has to have one to meet a clause of a map.
use Rattle.std.proofs.Common.{◌≡◌, ℕ, zero, suc, ◌+◌, ◌-◌, ◌<◌, Bool, true, false, cond, nat_eq, nat_lt, ◌||◌, List, [], ◌∷◌, ◌++◌, length, map, drop, set, get_or, Option, Some, None, IfSome, refl, sym, ap, subst, ◌∙◌, arith, inl, inr}
use Rattle.std.specs.Prelude.{slice_get}
use Rattle.std.specs.List.{list_any, position_from}
use Rattle.std.specs.Option.{option_map, option_map_or}
use Rattle.std.specs.Str.{bytes_eq}
use Rattle.std.proofs.lemmas.Bool.{cases_eq}
use Rattle.std.proofs.lemmas.Bool.Decides.{nat_tests}
use Rattle.std.proofs.lemmas.List.{length_push}
use Rattle.std.proofs.lemmas.Option.{slice_get-map, slice_get_within}
use Rattle.nc_types.specs.Communities.{has}
use Rattle.nc_types.specs.Config.{ConfigView}
use Rattle.nc_types.proofs.Placing.{slice_get_left, slice_get_middle}
use Rattle.nc_policy.specs.Indexes.{place_from}
use Rattle.nc_policy.specs.Kept.{AreAsked, AskedTable, IsAskedOf}
use Rattle.nc_policy.specs.Views.{map_names}

first : (a b : Bool) → (a || b) ≡ false → a ≡ false
first true b e = e
first false b e = refl

second : (a b : Bool) → (a || b) ≡ false → b ≡ false
second true b e = absurd (cc)
second false b e = e

-- ---- communities and numbers

-- communities have none of some numbers
abbrev pub IsApart : List ℕ → List ℕ → Type 0
IsApart numbers held = (n : ℕ) → has n numbers ≡ true → has n held ≡ false

-- of communities none is among numbers: they have none of them
pub none_of : (numbers xs : List ℕ) → list_any (λ (m : ℕ). has m numbers) xs ≡ false → (n : ℕ) → has n numbers ≡ true → has n xs ≡ false
none_of numbers [] e n own = refl
none_of numbers (x ∷ xs) e n own = elim (cases_eq n x) [
  | inl same ↦ absurd (
      let is : has x numbers ≡ true = ap (λ (m : ℕ). has m numbers) (sym same) ∙ own in
      let wrong : true ≡ false = sym is ∙ first (has x numbers) (list_any (λ (m : ℕ). has m numbers) xs) e in
      cc)
  | inr other ↦
      let apart : nat_eq n x ≡ false = grind (arith, nat_tests) in
      ap (λ (b : Bool). b || has n xs) apart ∙ none_of numbers xs (second (has x numbers) (list_any (λ (m : ℕ). has m numbers) xs) e) n own
]

-- communities that have none of some numbers have none of a part of them
pub none_held_of : (xs numbers held : List ℕ) → ((i d : ℕ) → i < length xs → has (get_or xs i d) numbers ≡ true) → IsApart numbers held → list_any (λ (n : ℕ). has n held) xs ≡ false
none_held_of [] numbers held are apart = refl
none_held_of (x ∷ xs) numbers held are apart =
    ap (λ (b : Bool). b || list_any (λ (n : ℕ). has n held) xs) (apart x (are 0 x (omega arith)))
    ∙ none_held_of xs numbers held (λ i d lt. are (suc i) d (omega arith)) apart

-- each of some numbers is among them
pub has_own : (xs : List ℕ) (i d : ℕ) → i < length xs → has (get_or xs i d) xs ≡ true
has_own [] i d lt = absurd (omega arith)
has_own (x ∷ xs) zero d lt = let same : nat_eq x x ≡ true = grind (arith, nat_tests) in ap (λ (b : Bool). b || has x xs) same
has_own (x ∷ xs) (suc i) d lt = on (nat_eq (get_or xs i d) x) (has (get_or xs i d) xs) (has_own xs i d (omega arith))
  where
    on : (a b : Bool) → b ≡ true → (a || b) ≡ true
    on true b e = refl
    on false b e = e

-- ---- the clauses of a map, one behind the other

-- a place is before the next one that is to be looked at
abbrev pub is_past : Option ℕ → ℕ → Bool
is_past next j = option_map_or (λ (k : ℕ). nat_lt j k) next true

-- what stands before the first that passes doesn't pass
pub not_passed : {X : Type 0} (f : X → Bool) (from : ℕ) (xs : List X) (i : ℕ) (x : X) → slice_get xs i ≡ Some x → is_past (position_from f from xs) (from + i) ≡ true → f x ≡ false
not_passed f from [] i x at past = absurd (cc)
not_passed {X} f from (y ∷ ys) i x at past = on (f y) refl (λ i at past. not_passed f (from + 1) ys i x at past) i at past
  where
    on : (b : Bool) → f y ≡ b → ((i : ℕ) → slice_get ys i ≡ Some x → is_past (position_from f (from + 1) ys) (from + 1 + i) ≡ true → f x ≡ false)
        → (i : ℕ) → slice_get (y ∷ ys) i ≡ Some x → is_past (cond b (Some from) (position_from f (from + 1) ys)) (from + i) ≡ true → f x ≡ false
    on true is rest i at past = absurd (grind (arith, nat_tests))
    on false is rest zero at past = let same : y ≡ x = cc in ap f (sym same) ∙ is
    on false is rest (suc i) at past =
        let one : from + 1 + i ≡ from + suc i = omega arith in
        rest i at (ap (is_past (position_from f (from + 1) ys)) one ∙ past)

-- the place of an item behind a place
pub behind_at : {X : Type 0} (xs : List X) (m i : ℕ) → slice_get (drop m xs) i ≡ slice_get xs (m + i)
behind_at [] zero i = refl
behind_at [] (suc m) i = refl
behind_at (x ∷ xs) zero i = let same : i ≡ 0 + i = omega arith in ap (slice_get (x ∷ xs)) same
behind_at (x ∷ xs) (suc m) i = let same : suc (m + i) ≡ suc m + i = omega arith in behind_at xs m i ∙ ap (slice_get (x ∷ xs)) same

-- between a place and the next of a name none has it
pub other_between : (name : List ℕ) (names : List (List ℕ)) (from j : ℕ) (q : List ℕ) → slice_get names j ≡ Some q → from < j + 1 → is_past (place_from name from names) j ≡ true → bytes_eq name q ≡ false
other_between name names from j q at le past =
    let i = j - from in
    let same : from + i ≡ j = omega arith in
    not_passed (bytes_eq name) from (drop from names) i q (behind_at names from i ∙ ap (slice_get names) same ∙ at) (ap (is_past (place_from name from names)) same ∙ past)

-- ---- the table

none_at : {X P : Type 0} (view : X → AskedTable) (t : AskedTable) (o : Option (Option X)) → ((x : Option X) → o ≡ Some x → x ≡ None) → option_map (option_map view) o ≡ Some (Some t) → P
none_at view t None none e = absurd (cc)
none_at view t (Some None) none e = absurd (cc)
none_at view t (Some (Some x)) none e = absurd (let wrong : Some x ≡ None = none (Some x) refl in cc)

-- nothing is known of any map
pub none_asked : {X : Type 0} (view : X → AskedTable) (c : ConfigView) (xs : List (Option X)) → ((k : ℕ) (x : Option X) → slice_get xs k ≡ Some x → x ≡ None) → AreAsked c (map (option_map view) xs)
none_asked view c xs none = record { each = λ m name t own at. none_at view t (slice_get xs m) (λ x is. none m x is) (sym (slice_get-map (option_map view) xs m) ∙ at) }

-- nor of one more
pub none_more : {X : Type 0} (xs ys : List (Option X)) → ys ≡ xs ++ None ∷ [] → ((k : ℕ) (x : Option X) → slice_get xs k ≡ Some x → x ≡ None) → (k : ℕ) (x : Option X) → slice_get ys k ≡ Some x → x ≡ None
none_more {X} xs ys same before k x found =
    let none : Option X = None in
    let all : slice_get (xs ++ none ∷ []) k ≡ Some x = ap (λ (zs : List (Option X)). slice_get zs k) (sym same) ∙ found in
    let within : k < length (xs ++ none ∷ []) = slice_get_within (xs ++ none ∷ []) k x all in
    elim (cases_eq k (length xs)) [
      | inl last ↦
          let one : Some none ≡ Some x = sym (slice_get_middle xs none []) ∙ ap (slice_get (xs ++ none ∷ [])) (sym last) ∙ all in
          cc
      | inr earlier ↦
          let lt : k < length xs = omega (arith, length_push xs none) in
          before k x (sym (slice_get_left xs (none ∷ []) k lt) ∙ all)
    ]

pub set_same : {X : Type 0} (xs : List X) (m : ℕ) (x : X) → m < length xs → slice_get (set xs m x) m ≡ Some x
set_same [] m x lt = absurd (omega arith)
set_same (y ∷ ys) zero x lt = refl
set_same (y ∷ ys) (suc m) x lt = set_same ys m x (omega arith)

pub set_other : {X : Type 0} (xs : List X) (m k : ℕ) (x : X) → (k ≡ m → ⊥) → slice_get (set xs m x) k ≡ slice_get xs k
set_other [] m k x other = refl
set_other (y ∷ ys) zero zero x other = absurd (other refl)
set_other (y ∷ ys) zero (suc k) x other = refl
set_other (y ∷ ys) (suc m) zero x other = refl
set_other (y ∷ ys) (suc m) (suc k) x other = set_other ys m k x (λ e. other (ap suc e))

-- one map more of which it is known what it asks, or isn't
pub asked_more : {X : Type 0} (view : X → AskedTable) (c : ConfigView) (xs : List (Option X)) (m : ℕ) (x : Option X) (mine : List ℕ) → m < length xs → slice_get (map_names c) m ≡ Some mine → IfSome x (λ s. IsAskedOf c mine (view s))
    → AreAsked c (map (option_map view) xs) → AreAsked c (map (option_map view) (set xs m x))
asked_more {X} view c xs m x mine lt own are before = record {
  each = λ k name t named at.
      let seen = sym (slice_get-map (option_map view) (set xs m x) k) ∙ at in
      elim (cases_eq k m) [
        | inl same ↦
            let one : Some mine ≡ Some name = sym own ∙ ap (slice_get (map_names c)) (sym same) ∙ named in
            let same_name : mine ≡ name = cc in
            subst (λ (n : List ℕ). IsAskedOf c n t) same_name
            (here x are t (ap (option_map (option_map view)) (sym (ap (slice_get (set xs m x)) same ∙ set_same xs m x lt)) ∙ seen))
        | inr other ↦
            before.each k name t named (slice_get-map (option_map view) xs k ∙ ap (option_map (option_map view)) (sym (set_other xs m k x other)) ∙ seen)
      ];
}
  where
    here : (o : Option X) → IfSome o (λ s. IsAskedOf c mine (view s)) → (t : AskedTable) → option_map (option_map view) (Some o) ≡ Some (Some t) → IsAskedOf c mine t
    here None are t e = absurd (cc)
    here (Some s) are t e = let same : view s ≡ t = cc in subst (λ (t : AskedTable). IsAskedOf c mine t) same are
