-- Spots are told apart, and the entries that decide on a packet are in three of them.
use Rattle.std.proofs.Common.{◌≡◌, ◌⊎◌, ℕ, suc, ◌+◌, ◌-◌, ◌≤◌, Bool, true, false, cond, ◌&&◌, nat_eq, List, [], ◌∷◌, length, Option, Some, None, refl, sym, ap, ◌∙◌, arith, inl, inr}
use Rattle.std.specs.Int.Bits.{or_zero_r}
use Rattle.std.specs.Prelude.{bit_or, position, slice_get, ◌==◌}
use Rattle.std.specs.List.{position_from}
use Rattle.std.specs.Option.{unwrap_or}
use Rattle.std.proofs.lemmas.Bool.{and_parts, eqb-true, eq-eqb}
use Rattle.std.proofs.lemmas.Iterator.Adapters.{position_from-zero}
use Rattle.std.proofs.lemmas.Option.{same_Some, slice_get_within}
use Rattle.std.proofs.lemmas.Slice.Eq.{bytes_eq-Decides}
use Rattle.nc_types.proofs.Sameness.{same_bytes_is}
use Rattle.nc_types.specs.declared.addr.Addr.{Addr}
use Rattle.nc_types.specs.declared.filters.AddrMatch.{AddrMatch}
use Rattle.nc_types.specs.declared.filters.FilterEntry.{FilterEntry}
use Rattle.nc_tables.specs.Filters.{decides, is_of, matches}
use Rattle.nc_filter.specs.contracts.spots.ClassPartialEq.TheImpl as class
use Rattle.nc_filter.specs.declared.spots.Class.{Class}
use Rattle.nc_filter.specs.declared.spots.Class.TheVariants.{Source, Target, Other, Never}
use Rattle.nc_filter.specs.declared.spots.Spot.{Spot}
use Rattle.nc_filter.specs.Spots.{class_of, number_of, same_spot, spot_of}
use Rattle.nc_filter.proofs.Spotting.{not_before}

same_address : (a b : Addr) → nat_eq a.0 b.0 ≡ true → a ≡ b
same_address a b e = ap (λ (n : ℕ). let addr : Addr = record { 0 = n } in addr) (eqb-true a.0 b.0 e)

class_is : (c d : Class) → class.eq-value.it c d ≡ true → c ≡ d
class_is (Source a) (Source b) e = ap Source (same_address a b e)
class_is (Target a) (Target b) e = ap Target (same_address a b e)
class_is Other Other e = refl
class_is Never Never e = refl
class_is c d e = absurd cc

pub spot_is : (s t : Spot) → same_spot s t ≡ true → s ≡ t
spot_is s t e =
    let parts = and_parts (nat_eq s.list t.list) (class.eq-value.it s.class t.class) e in
    ap (λ (n : ℕ). let spot : Spot = record { list = n; class = s.class } in spot) (eqb-true s.list t.list parts.0)
    ∙ ap (λ (c : Class). let spot : Spot = record { list = t.list; class = c } in spot) (class_is s.class t.class parts.1)

itself : (n : ℕ) → nat_eq n n ≡ true
itself n = eq-eqb n n refl

class_itself : (c : Class) → class.eq-value.it c c ≡ true
class_itself (Source a) = itself a.0
class_itself (Target a) = itself a.0
class_itself Other = refl
class_itself Never = refl

pub spot_itself : (s : Spot) → same_spot s s ≡ true
spot_itself s = rw (itself s.list, class_itself s.class) refl

-- in whatever order
pub same_turned : (s t : Spot) → same_spot s t ≡ same_spot t s
same_turned s t = by (same_spot s t) (same_spot t s) refl refl
  where
    by : (a b : Bool) → same_spot s t ≡ a → same_spot t s ≡ b → same_spot s t ≡ same_spot t s
    by true true e f = e ∙ sym f
    by false false e f = e ∙ sym f
    by true false e f = ap (λ (r : Spot). same_spot r t) (spot_is s t e) ∙ ap (same_spot t) (sym (spot_is s t e))
    by false true e f = ap (same_spot s) (spot_is t s f) ∙ ap (λ (r : Spot). same_spot r s) (sym (spot_is t s f))

-- ---- the entries that decide on a packet

exact : (m : AddrMatch) (addr : Addr) → m.wild.0 ≡ 0 → matches m addr.0 ≡ true → m.addr ≡ addr
exact m addr none e =
    let same = eqb-true (bit_or addr.0 m.wild.0) (bit_or m.addr.0 m.wild.0) e in
    let bare : bit_or addr.0 0 ≡ bit_or m.addr.0 0 = ap (bit_or addr.0) (sym none) ∙ same ∙ ap (bit_or m.addr.0) none in
    ap (λ (n : ℕ). let a : Addr = record { 0 = n } in a) (sym (sym (or_zero_r addr.0) ∙ bare ∙ or_zero_r m.addr.0))

-- are of one of three classes
classed : (from to : Addr) (e : FilterEntry) → decides from.0 to.0 e ≡ true → (class_of e ≡ Source from) ⊎ ((class_of e ≡ Target to) ⊎ (class_of e ≡ Other))
classed from to e decided = by (e.from.wild.0 == 0) (e.to.wild.0 == 0) refl refl
  where
    any : (e.ip ≡ true) × ((matches e.from from.0 && matches e.to to.0) ≡ true)
    any = and_parts e.ip (matches e.from from.0 && matches e.to to.0) decided

    both : (matches e.from from.0 ≡ true) × (matches e.to to.0 ≡ true)
    both = and_parts (matches e.from from.0) (matches e.to to.0) any.1

    of_ip : class_of e ≡ cond (e.from.wild.0 == 0) (Source e.from.addr) (cond (e.to.wild.0 == 0) (Target e.to.addr) Other)
    of_ip = ap (λ (b : Bool). cond b (cond (e.from.wild.0 == 0) (Source e.from.addr) (cond (e.to.wild.0 == 0) (Target e.to.addr) Other)) Never) any.0

    by : (a b : Bool) → (e.from.wild.0 == 0) ≡ a → (e.to.wild.0 == 0) ≡ b → (class_of e ≡ Source from) ⊎ ((class_of e ≡ Target to) ⊎ (class_of e ≡ Other))
    by true b source target =
        inl (of_ip ∙ ap (λ (c : Bool). cond c (Source e.from.addr) (cond (e.to.wild.0 == 0) (Target e.to.addr) Other)) source ∙ ap Source (exact e.from from (eqb-true e.from.wild.0 0 source) both.0))
    by false true source target =
        inr (inl (of_ip ∙ ap (λ (c : Bool). cond c (Source e.from.addr) (cond (e.to.wild.0 == 0) (Target e.to.addr) Other)) source
        ∙ ap (λ (c : Bool). cond c (Target e.to.addr) Other) target ∙ ap Target (exact e.to to (eqb-true e.to.wild.0 0 target) both.1)))
    by false false source target =
        inr (inr (of_ip ∙ ap (λ (c : Bool). cond c (Source e.from.addr) (cond (e.to.wild.0 == 0) (Target e.to.addr) Other)) source ∙ ap (λ (c : Bool). cond c (Target e.to.addr) Other) target))

-- where a search stops, the test holds
pub placed : {X : Type 0} (f : X → Bool) (from : ℕ) (xs : List X) (k : ℕ) → position_from f from xs ≡ Some k → (x : X) × (slice_get xs (k - from) ≡ Some x) × (f x ≡ true)
placed f from [] k e = absurd cc
placed {X} f from (x ∷ xs) k e = by (f x) refl e (placed f (from + 1) xs k)
  where
    by : (b : Bool) → f x ≡ b → cond b (Some from) (position_from f (from + 1) xs) ≡ Some k → (position_from f (from + 1) xs ≡ Some k → (y : X) × (slice_get xs (k - (from + 1)) ≡ Some y) × (f y ≡ true)) → (y : X) × (slice_get (x ∷ xs) (k - from) ≡ Some y) × (f y ≡ true)
    by true holds is later = let same : from ≡ k = same_Some from k is in (x, ap (slice_get (x ∷ xs)) (let none : k - from ≡ 0 = omega arith in none), holds)
    by false fails is later =
        let found = later is in
        let least : from + 1 ≤ k = not_before f (from + 1) xs k is in
        (found.0, ap (slice_get (x ∷ xs)) (let one : k - from ≡ suc (k - (from + 1)) = omega arith in one) ∙ found.1, found.2)

module _ (entries : List FilterEntry) (q : List ℕ) (list : ℕ) (first : position (is_of q) entries ≡ Some list) where
  spot_in_list : (e : FilterEntry) → is_of q e ≡ true → (c : Class) → class_of e ≡ c → same_spot (record { list = list; class = c }) (spot_of entries e) ≡ true
  spot_in_list e own c is =
      let name : q ≡ e.list = same_bytes_is q e.list own in
      let number : number_of entries e.list ≡ list = ap (number_of entries) (sym name) ∙ ap (λ (o : Option ℕ). unwrap_or o (length entries)) first in
      ap (λ (n : ℕ). same_spot (record { list = list; class = c }) (record { list = n; class = class_of e })) number
      ∙ ap (λ (d : Class). same_spot (record { list = list; class = c }) (record { list = list; class = d })) is
      ∙ spot_itself (record { list = list; class = c })

  -- an entry in none of the three spots decides on nothing for the list
  pub decides_not : (from to : Addr) (e : FilterEntry) → same_spot (record { list = list; class = Source from }) (spot_of entries e) ≡ false → same_spot (record { list = list; class = Target to }) (spot_of entries e) ≡ false
      → same_spot (record { list = list; class = Other }) (spot_of entries e) ≡ false → (is_of q e && decides from.0 to.0 e) ≡ false
  decides_not from to e source target other = by (is_of q e && decides from.0 to.0 e) refl
    where
      clash : {A : Type 0} (b : Bool) → b ≡ true → b ≡ false → A
      clash b e f = absurd cc

      by : (b : Bool) → (is_of q e && decides from.0 to.0 e) ≡ b → (is_of q e && decides from.0 to.0 e) ≡ false
      by false e = e
      by true holds =
          let parts = and_parts (is_of q e) (decides from.0 to.0 e) holds in
          elim (classed from to e parts.1) [
            | inl is ↦ clash _ (spot_in_list e parts.0 (Source from) is) source
            | inr (inl is) ↦ clash _ (spot_in_list e parts.0 (Target to) is) target
            | inr (inr is) ↦ clash _ (spot_in_list e parts.0 Other is) other
          ]

  -- what is in a spot of the list is of the list
  pub is_listed : (c : Class) (e : FilterEntry) → same_spot (record { list = list; class = c }) (spot_of entries e) ≡ true → is_of q e ≡ true
  is_listed c e same = by (position (is_of e.list) entries) refl (ap (λ (s : Spot). s.list) (spot_is (record { list = list; class = c }) (spot_of entries e) same))
    where
      mine : (x : FilterEntry) × (slice_get entries (list - 0) ≡ Some x) × (is_of q x ≡ true)
      mine = placed (is_of q) 0 entries list (sym (position_from-zero (is_of q) entries) ∙ first)

      by : (o : Option ℕ) → position (is_of e.list) entries ≡ o → list ≡ unwrap_or (position (is_of e.list) entries) (length entries) → is_of q e ≡ true
      by None none number = absurd (let lt = slice_get_within entries (list - 0) mine.0 mine.1 in omega (arith, number ∙ ap (λ (o : Option ℕ). unwrap_or o (length entries)) none))
      by (Some k) some number =
          let here : list ≡ k = number ∙ ap (λ (o : Option ℕ). unwrap_or o (length entries)) some in
          let its = placed (is_of e.list) 0 entries list (sym (position_from-zero (is_of e.list) entries) ∙ some ∙ ap (λ (n : ℕ). Some n) (sym here)) in
          let one : mine.0 ≡ its.0 = same_Some mine.0 its.0 (sym mine.1 ∙ its.1) in
          (bytes_eq-Decides q e.list).1 (same_bytes_is q mine.0.list mine.2 ∙ ap (λ (x : FilterEntry). x.list) one ∙ sym (same_bytes_is e.list its.0.list its.2))
