-- The first item of each name.
use Rattle.std.proofs.Common.{◌≡◌, ℕ, zero, suc, ◌+◌, ◌<◌, ◌≤◌, Bool, true, false, cond, List, [], ◌∷◌, length, drop, get_or, Option, Some, None, refl, sym, ap, subst, ◌∙◌, arith}
use Rattle.std.specs.Global.{Vec}
use Rattle.std.specs.HashMap.{HashMap, Updates}
use Rattle.std.specs.Prelude.{position, is_some, slice_get}
use Rattle.std.specs.List.{position_from}
use Rattle.std.specs.Map.{KeepsOthers}
use Rattle.std.specs.Option.{option_or}
use Rattle.std.specs.Str.{bytes_eq}
use Rattle.std.proofs.lemmas.Cmp.{nat_list_eq_equiv}
use Rattle.std.proofs.lemmas.Iterator.Adapters.{position_from-zero}
use Rattle.std.proofs.lemmas.List.{drop_all}
use Rattle.std.proofs.lemmas.Option.{same_Some}
use Rattle.nc_types.proofs.Sameness.{same_bytes_is}
use Rattle.nc_types.proofs.Walks.{drop_read}
use Rattle.nc_filter.specs.Names.{place_named}
use Rattle.nc_filter.proofs.Spotting.{not_before}

-- how a table tells names apart
abbrev same_key : Vec ℕ → Vec ℕ → Bool
same_key x y = bytes_eq x.items y.items

begun_named : {S : Type 0} (key : Vec ℕ) (m n : HashMap (Vec ℕ) ℕ S) (place : ℕ) → Updates same_key m n key (Some place) → (q : List ℕ) → place_named n q ≡ cond (bytes_eq q key.items) (Some place) (place_named m q)
unfolding KeepsOthers
begun_named key m n place updates q = by_test (bytes_eq q key.items) refl
  where
    by_test : (b : Bool) → bytes_eq q key.items ≡ b → place_named n q ≡ cond b (Some place) (place_named m q)
    by_test true e = subst (λ (l : List ℕ). place_named n l ≡ Some place) (sym (same_bytes_is q key.items e)) updates.1
    by_test false e =
        updates.3 (λ (y : Vec ℕ). bytes_eq q y.items) (λ x y. nat_list_eq_equiv.congr q x.items y.items)
        (λ y same. nat_list_eq_equiv.symm q y.items ∙ sym (nat_list_eq_equiv.congr key.items y.items q same) ∙ nat_list_eq_equiv.symm key.items q ∙ e)

or_none : (o : Option ℕ) → option_or o None ≡ o
or_none None = refl
or_none (Some k) = refl

-- a place for a name that had none
pub put_named : {S : Type 0} (key : Vec ℕ) (m n : HashMap (Vec ℕ) ℕ S) (place : ℕ) → Updates same_key m n key (Some place) → is_some (place_named m key.items) ≡ false → (q : List ℕ)
    → place_named n q ≡ option_or (place_named m q) (cond (bytes_eq q key.items) (Some place) None)
put_named key m n place updates fresh q = begun_named key m n place updates q ∙ by_test (bytes_eq q key.items) refl
  where
    of_none : (o : Option ℕ) → is_some o ≡ false → Some place ≡ option_or o (Some place)
    of_none None e = refl
    of_none (Some k) e = absurd cc

    by_test : (b : Bool) → bytes_eq q key.items ≡ b → cond b (Some place) (place_named m q) ≡ option_or (place_named m q) (cond b (Some place) None)
    by_test true e = of_none (place_named m q) (ap (λ (l : List ℕ). is_some (place_named m l)) (same_bytes_is q key.items e) ∙ fresh)
    by_test false e = sym (or_none (place_named m q))

-- a name that has a place keeps it
pub had_named : {S : Type 0} (name : List ℕ) (m : HashMap (Vec ℕ) ℕ S) (place : ℕ) → is_some (place_named m name) ≡ true → (q : List ℕ)
    → place_named m q ≡ option_or (place_named m q) (cond (bytes_eq q name) (Some place) None)
had_named name m place had q = by_test (bytes_eq q name) refl
  where
    of_some : (o p : Option ℕ) → is_some o ≡ true → o ≡ option_or o p
    of_some None p e = absurd cc
    of_some (Some k) p e = refl

    by_test : (b : Bool) → bytes_eq q name ≡ b → place_named m q ≡ option_or (place_named m q) (cond b (Some place) None)
    by_test true e = of_some (place_named m q) (Some place) (ap (λ (l : List ℕ). is_some (place_named m l)) (same_bytes_is q name e) ∙ had)
    by_test false e = sym (or_none (place_named m q))

-- ---- what is kept of the items before a place, and what is found from it on, is the first of all

module _ {X : Type 0} (test : X → Bool) (xs : List X) where
  abbrev pub first_by : Option ℕ → ℕ → Option ℕ
  first_by kept place = option_or kept (position_from test place (drop place xs))

  pub first_none : first_by None 0 ≡ position test xs
  first_none = sym (position_from-zero test xs)

  step_at : (kept : Option ℕ) (place : ℕ) (x : X) → x ≡ get_or xs place x → place < length xs → first_by kept place ≡ option_or kept (cond (test x) (Some place) (position_from test (place + 1) (drop (place + 1) xs)))
  step_at kept place x read lt = ap (λ (ys : List X). option_or kept (position_from test place ys)) (drop_read xs place x read lt)

  pub first_put : (kept new : Option ℕ) (place : ℕ) (x : X) → x ≡ get_or xs place x → place < length xs → new ≡ option_or kept (cond (test x) (Some place) None) → first_by new (place + 1) ≡ first_by kept place
  first_put kept new place x read lt put = ap (λ (o : Option ℕ). first_by o (place + 1)) put ∙ both (test x) kept (position_from test (place + 1) (drop (place + 1) xs)) ∙ sym (step_at kept place x read lt)
    where
      both : (b : Bool) (o later : Option ℕ) → option_or (option_or o (cond b (Some place) None)) later ≡ option_or o (cond b (Some place) later)
      both true None later = refl
      both true (Some k) later = refl
      both false None later = refl
      both false (Some k) later = refl

  pub first_skip : (kept : Option ℕ) (place : ℕ) (x : X) → x ≡ get_or xs place x → place < length xs → test x ≡ false → first_by kept (place + 1) ≡ first_by kept place
  first_skip kept place x read lt other =
      sym (step_at kept place x read lt ∙ ap (λ (b : Bool). option_or kept (cond b (Some place) (position_from test (place + 1) (drop (place + 1) xs)))) other)

  pub first_all : (kept : Option ℕ) (place : ℕ) → length xs ≤ place → kept ≡ first_by kept place
  first_all kept place past = sym (ap (λ (ys : List X). option_or kept (position_from test place ys)) (drop_all place xs past) ∙ or_none kept)

  -- what passes the test before a place has a place kept
  found_by : (from : ℕ) (ys : List X) (k : ℕ) (x : X) → slice_get ys k ≡ Some x → test x ≡ true → (j : ℕ) × (position_from test from ys ≡ Some j) × (j ≤ from + k)
  found_by from [] k x at holds = absurd (cc)
  found_by from (y ∷ ys) zero x at holds =
      let here : test y ≡ true = ap test (same_Some y x at) ∙ holds in
      (from, ap (λ (b : Bool). cond b (Some from) (position_from test (from + 1) ys)) here, omega arith)
  found_by from (y ∷ ys) (suc k) x at holds = by (test y) (found_by (from + 1) ys k x at holds)
    where
      by : (b : Bool) → (j : ℕ) × (position_from test (from + 1) ys ≡ Some j) × (j ≤ from + 1 + k) → (j : ℕ) × (cond b (Some from) (position_from test (from + 1) ys) ≡ Some j) × (j ≤ from + suc k)
      by true later = (from, refl, omega arith)
      by false later = (later.0, later.1, omega (arith, later.2))

  pub first_known : (kept : Option ℕ) (place k : ℕ) (x : X) → k < place → slice_get xs k ≡ Some x → test x ≡ true → first_by kept place ≡ position test xs → is_some kept ≡ true
  first_known (Some j) place k x lt at holds are = refl
  first_known None place k x lt at holds are =
      let found = found_by 0 xs k x at holds in
      absurd (let far = not_before test place (drop place xs) found.0 (are ∙ position_from-zero test xs ∙ found.1) in omega (arith, far, found.2))
