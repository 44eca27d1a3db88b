-- The table of names.
use Rattle.std.proofs.Common.{◌≡◌, ℕ, ◌+◌, ◌<◌, ◌≤◌, Bool, true, false, cond, List, [], ◌∷◌, length, map, drop, set, get_or, Option, Some, None, refl, sym, ap, subst, ◌∙◌, arith, inl, inr}
use Rattle.std.specs.Global.{Vec}
use Rattle.std.specs.HashMap.{HashMap, Updates}
use Rattle.std.specs.Prelude.{slice_get}
use Rattle.std.specs.List.{position_from}
use Rattle.std.specs.Map.{KeepsOthers, lookup}
use Rattle.std.specs.Str.{bytes_eq}
use Rattle.std.proofs.lemmas.Bool.{cases_eq}
use Rattle.std.proofs.lemmas.List.{length-set, get_or-set_same, get_or-set_other}
use Rattle.std.proofs.lemmas.Option.{slice_get-get_or, slice_get_within}
use Rattle.std.proofs.lemmas.Cmp.{nat_list_eq_equiv}
use Rattle.std.proofs.lemmas.Simd.{map-map}
use Rattle.nc_types.proofs.Sameness.{same_bytes_is}
use Rattle.nc_types.proofs.Walks.{drop_view, drop_views}
use Rattle.nc_policy.specs.declared.names.NameIndex.{NameIndex}
use Rattle.nc_policy.specs.Indexes.{place_from}
use Rattle.nc_policy.specs.Seen.{place_named, IsNameIndex}

-- how a table tells names apart
abbrev same_name : Vec ℕ → Vec ℕ → Bool
same_name x y = bytes_eq x.items y.items

module _ {S : Type 0} (k : Vec ℕ) (m n : HashMap (Vec ℕ) ℕ S) (place : ℕ) (updates : Updates same_name m n k (Some place)) where
  -- a name that is another one than the key
  apart : (q : List ℕ) → bytes_eq q k.items ≡ false → (y : Vec ℕ) → bytes_eq k.items y.items ≡ true → bytes_eq q y.items ≡ false
  apart q other y same = nat_list_eq_equiv.symm q y.items ∙ sym (nat_list_eq_equiv.congr k.items y.items q same) ∙ nat_list_eq_equiv.symm k.items q ∙ other

  others : (q : List ℕ) → bytes_eq q k.items ≡ false → place_named n q ≡ place_named m q
  unfolding KeepsOthers
  others q other = updates.3 (λ (y : Vec ℕ). bytes_eq q y.items) (λ x y. nat_list_eq_equiv.congr q x.items y.items) (apart q other)

  -- a place put to a name
  pub named_more : (q : List ℕ) → place_named n q ≡ cond (bytes_eq q k.items) (Some place) (place_named m q)
  named_more q = by_test (bytes_eq q k.items) refl
    where
      by_test : (b : Bool) → bytes_eq q k.items ≡ b → place_named n q ≡ cond b (Some place) (place_named m q)
      by_test true e = subst (λ (l : List ℕ). place_named n l ≡ Some place) (sym (same_bytes_is q k.items e)) updates.1
      by_test false e = others q e

-- what is found among the names that are kept
pub named_seen : (es : List (Vec ℕ × ℕ)) (q : List ℕ) → lookup (bytes_eq q) (map (λ (e : Vec ℕ × ℕ). (e.0.items, e.1)) es) ≡ lookup (λ (k : Vec ℕ). bytes_eq q k.items) es
named_seen [] q = refl
named_seen (e ∷ es) q = ap (cond (bytes_eq q e.0.items) (Some e.1)) (named_seen es q)

-- ---- a table made from the last to the first

-- the first of a name from a place on, and from the next one
pub named_back : {X : Type 0} (name : X → List ℕ) (xs : List X) (k next : ℕ) (x : X) → k + 1 ≡ next → x ≡ get_or xs k x → k < length xs → (q : List ℕ)
    → position_from (bytes_eq q) k (drop k (map name xs)) ≡ cond (bytes_eq q (name x)) (Some k) (position_from (bytes_eq q) next (drop next (map name xs)))
named_back name xs k next x e read lt q =
    ap (position_from (bytes_eq q) k) (drop_view name xs k x read lt) ∙ ap (λ (n : ℕ). cond (bytes_eq q (name x)) (Some k) (position_from (bytes_eq q) n (drop n (map name xs)))) e

-- names through a view of what has them
pub names_seen : {A B : Type 0} (name : B → List ℕ) (view : A → B) (xs items : List A) → xs ≡ items → (index : NameIndex) → IsNameIndex (map (λ x. name (view x)) xs) index
    → IsNameIndex (map name (map view items)) index
names_seen {A} name view xs items same index is =
    subst (λ (ns : List (List ℕ)). IsNameIndex ns index) (ap (λ (ys : List A). map (λ x. name (view x)) ys) same ∙ sym (map-map name view items)) is

-- the same through a view
pub views_back : {X Y : Type 0} (name : Y → List ℕ) (view : X → Y) (xs : List X) (k : ℕ) (x : X) → x ≡ get_or xs k x → k < length xs → (q : List ℕ)
    → place_from q k (map name (map view xs)) ≡ cond (bytes_eq q (name (view x))) (Some k) (place_from q (k + 1) (map name (map view xs)))
views_back name view xs k x read lt q = ap (position_from (bytes_eq q) k) (drop_views name view xs k x read lt)

-- what stands at one place more knows the next one of its name
pub behind_more : (names : List (List ℕ)) (next : List (Option ℕ)) (place : ℕ) (later : Option ℕ) (mine : List ℕ) → length next ≡ length names → slice_get names place ≡ Some mine
    → later ≡ place_from mine (place + 1) names → ((k : ℕ) (name : List ℕ) → place + 1 ≤ k → slice_get names k ≡ Some name → slice_get next k ≡ Some (place_from name (k + 1) names))
    → (k : ℕ) (name : List ℕ) → place ≤ k → slice_get names k ≡ Some name → slice_get (set next place later) k ≡ Some (place_from name (k + 1) names)
behind_more names next place later mine count own is before k name least at =
    let lt : k < length names = slice_get_within names k name at in
    let here : k < length (set next place later) = omega (arith, length-set next place later) in
    elim (cases_eq k place) [
      | inl same ↦
          let one : Some mine ≡ Some name = sym own ∙ ap (slice_get names) (sym same) ∙ at in
          let same_name : mine ≡ name = cc in
          let within : place < length next = omega arith in
          slice_get-get_or (set next place later) k None here
          ∙ ap (λ (n : ℕ). Some (get_or (set next place later) n None)) same ∙ ap (λ (o : Option ℕ). Some o) (get_or-set_same next place later None within ∙ is)
          ∙ ap (λ (n : ℕ). Some (place_from mine (n + 1) names)) (sym same) ∙ ap (λ (q : List ℕ). Some (place_from q (k + 1) names)) same_name
      | inr other ↦
          let inside : k < length next = omega arith in
          slice_get-get_or (set next place later) k None here
          ∙ ap (λ (o : Option ℕ). Some o) (get_or-set_other next place k later None other)
          ∙ sym (slice_get-get_or next k None inside) ∙ before k name (omega arith) at
    ]
