-- The deciding clause, found by going over the clauses once.
use Rattle.std.proofs.Common.{◌≡◌, ℕ, zero, suc, ◌+◌, ◌-◌, ◌<◌, ◌≤◌, Bool, true, false, cond, nat_lt, ◌&&◌, List, [], ◌∷◌, length, map, get_or, drop, filter, Option, Some, None, IfSome, refl, sym, ap, subst, ◌∙◌, arith}
use Rattle.std.specs.Prelude.{slice_get}
use Rattle.std.specs.List.{position_from}
use Rattle.std.specs.Option.{option_map_or}
use Rattle.std.specs.Str.{bytes_eq}
use Rattle.std.proofs.lemmas.Bool.{ltb-true, ltb-false}
use Rattle.std.proofs.lemmas.List.{drop_more, drop_all, drop-drop, drop-map}
use Rattle.std.proofs.lemmas.Option.{slice_get-get_or, slice_get_within}
use Rattle.nc_types.specs.Config.{ClauseView}
use Rattle.nc_types.proofs.Sameness.{same_bytes_is}
use Rattle.nc_tables.specs.Policy.{Placed, placed_from, least}
use Rattle.nc_policy.specs.Views.{is_lower}
use Rattle.nc_policy.proofs.Spots.{not_before}
use Rattle.nc_policy.specs.Indexes.{place_from}
pub use Rattle.nc_policy.specs.Walks.{of_map, rest_of}

-- of two clauses the second, if its number is lower
abbrev pub lower_of : Option Placed → Option Placed → Option Placed
lower_of None o = o
lower_of (Some k) o = Some (option_map_or (λ other. cond (nat_lt other.clause.number k.clause.number) other k) o k)

-- the better one of a candidate and a clause behind it
abbrev pub better_of : Option Placed → Placed → Option Placed
better_of best k = cond (is_lower k.clause best) (Some k) best

by_lower : (b k : Placed) (o : Option Placed) → lower_of (Some b) (lower_of (Some k) o) ≡ lower_of (better_of (Some b) k) o
by_lower b k None = on (nat_lt k.clause.number b.clause.number)
  where
    on : (t : Bool) → Some (cond t k b) ≡ lower_of (cond t (Some k) (Some b)) None
    on true = refl
    on false = refl
by_lower b k (Some o) = on_all (nat_lt o.clause.number k.clause.number) (nat_lt k.clause.number b.clause.number) (nat_lt o.clause.number b.clause.number) refl refl refl
  where
    on_all : (t u v : Bool) → nat_lt o.clause.number k.clause.number ≡ t → nat_lt k.clause.number b.clause.number ≡ u → nat_lt o.clause.number b.clause.number ≡ v
        → Some (cond (nat_lt (cond t o k).clause.number b.clause.number) (cond t o k) b) ≡ lower_of (cond u (Some k) (Some b)) (Some o)
    on_all true true true d e f = ap (λ (t : Bool). Some (cond t o b)) f ∙ sym (ap (λ (t : Bool). Some (cond t o k)) d)
    on_all true true false d e f =
        let one = ltb-true o.clause.number k.clause.number d in
        let two = ltb-true k.clause.number b.clause.number e in
        let three = ltb-false o.clause.number b.clause.number f in
        absurd (omega arith)
    on_all true false v d e f = refl
    on_all false true v d e f = ap (λ (t : Bool). Some (cond t k b)) e ∙ sym (ap (λ (t : Bool). Some (cond t o k)) d)
    on_all false false true d e f =
        let one = ltb-false o.clause.number k.clause.number d in
        let two = ltb-false k.clause.number b.clause.number e in
        let three = ltb-true o.clause.number b.clause.number f in
        absurd (omega arith)
    on_all false false false d e f = ap (λ (t : Bool). Some (cond t k b)) e ∙ sym (ap (λ (t : Bool). Some (cond t o b)) f)

-- a clause that passes takes the place of the best one where its number is lower
passed : (test : Placed → Bool) (best : Option Placed) (k : Placed) (ks : List Placed) → lower_of best (least (filter test (k ∷ ks))) ≡ lower_of (cond (test k) (better_of best k) best) (least (filter test ks))
passed test best k ks = on (test k)
  where
    taken : (b : Option Placed) → lower_of b (lower_of (Some k) (least (filter test ks))) ≡ lower_of (better_of b k) (least (filter test ks))
    taken None = refl
    taken (Some b) = by_lower b k (least (filter test ks))

    on : (t : Bool) → lower_of best (least (cond t (k ∷ filter test ks) (filter test ks))) ≡ lower_of (cond t (better_of best k) best) (least (filter test ks))
    on true = taken best
    on false = refl

-- one test for both: that a clause passes, and that it has a lower number
joined : (test : Placed → Bool) (best : Option Placed) (k : Placed) → cond (test k) (better_of best k) best ≡ cond (is_lower k.clause best && test k) (Some k) best
joined test best k = on (is_lower k.clause best) (test k)
  where
    on : (low pass : Bool) → cond pass (cond low (Some k) best) best ≡ cond (low && pass) (Some k) best
    on true pass = refl
    on false true = refl
    on false false = refl

module _ (test : Placed → Bool) (all : List ClauseView) (place : ℕ) (k : ClauseView) (at : slice_get all place ≡ Some k) where
  abbrev pub here : Placed
  here = record { place = place; clause = k }

  next : drop place all ≡ k ∷ drop (place + 1) all
  next =
      let lt : place < length all = slice_get_within all place k at in
      let read : Some (get_or all place k) ≡ Some k = sym (slice_get-get_or all place k lt) ∙ at in
      let same : get_or all place k ≡ k = cc in
      drop_more all place k lt ∙ ap (λ (x : ClauseView). x ∷ drop (place + 1) all) same

  -- the best clause so far, one further
  pub one_more : (best : Option Placed)
      → lower_of best (rest_of test all (Some place)) ≡ lower_of (cond (is_lower k best && test here) (Some here) best) (least (filter test (placed_from (place + 1) (drop (place + 1) all))))
  one_more best =
      ap (λ (ks : List ClauseView). lower_of best (least (filter test (placed_from place ks)))) next
      ∙ passed test best here (placed_from (place + 1) (drop (place + 1) all))
      ∙ ap (λ (o : Option Placed). lower_of o (least (filter test (placed_from (place + 1) (drop (place + 1) all))))) (joined test best here)

-- ---- from one clause of a map to the next

-- the clauses before the next one of the map are passed over
skip : (name : List ℕ) (matches : Placed → Bool) (all : List ClauseView) (from : ℕ) (ks : List ClauseView) → ks ≡ drop from all
    → rest_of (of_map name matches) all (position_from (bytes_eq name) from (map (λ k. k.map_name) ks)) ≡ least (filter (of_map name matches) (placed_from from ks))
skip name matches all from [] e = refl
skip name matches all from (k ∷ ks) e = on (bytes_eq name k.map_name) refl (skip name matches all (from + 1) ks (ap (drop 1) e ∙ drop-drop 1 from all))
  where
    on : (b : Bool) → bytes_eq name k.map_name ≡ b → rest_of (of_map name matches) all (position_from (bytes_eq name) (from + 1) (map (λ k. k.map_name) ks)) ≡ least (filter (of_map name matches) (placed_from (from + 1) ks))
        → rest_of (of_map name matches) all (cond b (Some from) (position_from (bytes_eq name) (from + 1) (map (λ k. k.map_name) ks))) ≡ least (filter (of_map name matches) (placed_from from (k ∷ ks)))
    on true is rest = ap (λ (ys : List ClauseView). least (filter (of_map name matches) (placed_from from ys))) (sym e)
    on false is rest =
        let one : Placed = record { place = from; clause = k } in
        let more = filter (of_map name matches) (placed_from (from + 1) ks) in
        rest ∙ sym (ap (λ (b : Bool). least (cond (b && matches one) (one ∷ more) more)) is)

pub skip_from : (name : List ℕ) (matches : Placed → Bool) (all : List ClauseView) (from : ℕ)
    → rest_of (of_map name matches) all (place_from name from (map (λ k. k.map_name) all)) ≡ least (filter (of_map name matches) (placed_from from (drop from all)))
skip_from name matches all from =
    ap (λ (ns : List (List ℕ)). rest_of (of_map name matches) all (position_from (bytes_eq name) from ns)) (drop-map (λ (k : ClauseView). k.map_name) from all)
    ∙ skip name matches all from (drop from all) refl

-- the first of those from a place on stands there
pub first_left : {X : Type 0} (all : List X) (from : ℕ) (x : X) (xs : List X) → x ∷ xs ≡ drop from all → slice_get all from ≡ Some x
first_left [] from x xs e = absurd (let none : x ∷ xs ≡ [] = e ∙ drop_all from [] (omega arith) in cc)
first_left (y ∷ ys) zero x xs e = let same : y ≡ x = cc in ap (λ z. Some z) same
first_left (y ∷ ys) (suc from) x xs e = first_left ys from x xs e

found_at : (q : List ℕ) (all : List (List ℕ)) (from : ℕ) (ns : List (List ℕ)) → ns ≡ drop from all → (j : ℕ) → position_from (bytes_eq q) from ns ≡ Some j → slice_get all j ≡ Some q
found_at q all from [] e j is = absurd (cc)
found_at q all from (n ∷ ns) e j is = on (bytes_eq q n) refl (found_at q all (from + 1) ns (ap (drop 1) e ∙ drop-drop 1 from all) j) is
  where
    on : (b : Bool) → bytes_eq q n ≡ b → (position_from (bytes_eq q) (from + 1) ns ≡ Some j → slice_get all j ≡ Some q) → cond b (Some from) (position_from (bytes_eq q) (from + 1) ns) ≡ Some j → slice_get all j ≡ Some q
    on true same rest found =
        let place : from ≡ j = cc in
        ap (slice_get all) (sym place) ∙ first_left all from n ns e ∙ ap (λ (z : List ℕ). Some z) (sym (same_bytes_is q n same))
    on false same rest found = rest found

-- each step of the walk leaves fewer clauses
pub fewer : (n place : ℕ) (next later : Option ℕ) → next ≡ Some place → place < n → ((j : ℕ) → later ≡ Some j → place + 1 ≤ j)
    → option_map_or (λ (k : ℕ). n - k) later 0 < option_map_or (λ (k : ℕ). n - k) next 0
fewer n place next later is lt behind = subst (λ (o : Option ℕ). option_map_or (λ (k : ℕ). n - k) later 0 < option_map_or (λ (k : ℕ). n - k) o 0) (sym is) (on later behind)
  where
    on : (o : Option ℕ) → ((j : ℕ) → o ≡ Some j → place + 1 ≤ j) → option_map_or (λ (k : ℕ). n - k) o 0 < n - place
    on None behind = omega arith
    on (Some j) behind = let past : place + 1 ≤ j = behind j refl in omega arith

-- the place that is found of a name has it
pub named_at : (q : List ℕ) (names : List (List ℕ)) (from j : ℕ) → place_from q from names ≡ Some j → slice_get names j ≡ Some q
named_at q names from j is = found_at q names from (drop from names) refl j is

-- a clause that doesn't match is passed over
pub passed_over : (name : List ℕ) (matches : Placed → Bool) (all : List ClauseView) (place : ℕ) (k : ClauseView) → slice_get all place ≡ Some k → matches (record { place = place; clause = k }) ≡ false → (later : Option ℕ)
    → later ≡ place_from name (place + 1) (map (λ k. k.map_name) all) → rest_of (of_map name matches) all later ≡ rest_of (of_map name matches) all (Some place)
passed_over name matches all place k at fails later is =
    let this : Placed = record { place = place; clause = k } in
    let test = of_map name matches in
    let behind = least (filter test (placed_from (place + 1) (drop (place + 1) all))) in
    ap (rest_of test all) is ∙ skip_from name matches all (place + 1)
    ∙ sym (ap (λ (b : Bool). lower_of (cond b (Some this) None) behind) (none (bytes_eq name k.map_name) (matches this) fails))
    ∙ sym (one_more test all place k at None)
  where
    none : (a b : Bool) → b ≡ false → (a && b) ≡ false
    none true b e = e
    none false b e = refl

-- the place of the first of a name from a place on, if there is one: it has the name, and isn't before
pub named_if : (q : List ℕ) (names : List (List ℕ)) (from : ℕ) (o : Option ℕ) → o ≡ place_from q from names → IfSome o (λ k. slice_get names k ≡ Some q)
named_if q names from None e = tt
named_if q names from (Some k) e = named_at q names from k (sym e)

pub behind_if : (q : List ℕ) (names : List (List ℕ)) (from : ℕ) (o : Option ℕ) → o ≡ place_from q from names → IfSome o (λ k. from ≤ k)
behind_if q names from None e = tt
behind_if q names from (Some k) e = not_before (bytes_eq q) from (drop from names) k (sym e)

pub at_some : (P : ℕ → Type 0) (o : Option ℕ) → IfSome o P → (k : ℕ) → o ≡ Some k → P k
at_some P o is k e = subst (λ (o : Option ℕ). IfSome o P) e is
