-- Values that are grouped by their keys: one more value changes the group of its key, or makes one at the end.
use Rattle.std.proofs.Common.{◌≡◌, ℕ, zero, suc, ◌+◌, ◌<◌, Bool, true, false, not, cond, ◌||◌, List, [], ◌∷◌, ◌++◌, length, map, refl, sym, ap, ◌∙◌, subst, arith, inl, inr}
use Rattle.std.specs.Prelude.{filter}
use Rattle.std.specs.Cmp.{IsEquivalence}
use Rattle.std.specs.List.{list_any, position_or_len}
use Rattle.std.proofs.lemmas.Bool.{cases_Bool, or_parts, or_from, or_left, or_right, eq-eqb, both_ways}
use Rattle.std.proofs.lemmas.List.{append-nil, map-append, map_push}
use Rattle.std.proofs.lemmas.List.Elements.{filter-append}
use Rattle.std.proofs.lemmas.List.Folds.{list_any-append, position_or_len_push}
use Rattle.nc_lines.specs.Groups.{Keyed, Group, with_key, keys_from, of_key, groups, changed_at}

-- ---- a list that is changed at one place

-- a view of a list that was changed
pub map-changed_at : {X Y : Type 0} (view : X → Y) (f : X → X) (h : Y → Y) → ((x : X) → view (f x) ≡ h (view x)) → (place : ℕ) (xs : List X) → map view (changed_at f place xs) ≡ changed_at h place (map view xs)
map-changed_at view f h same place [] = refl
map-changed_at {X} {Y} view f h same zero (x ∷ xs) = ap (λ (y : Y). y ∷ map view xs) (same x)
map-changed_at {X} {Y} view f h same (suc place) (x ∷ xs) = ap (λ (ys : List Y). view x ∷ ys) (map-changed_at view f h same place xs)

-- ---- keys

eq_comm : {K : Type 0} {same : K → K → Bool} → IsEquivalence same → (x y : K) (b : Bool) → same x y ≡ b → same y x ≡ b
eq_comm law x y b e = law.symm y x ∙ e

-- each key stands once
abbrev AreApart : {K : Type 0} → (K → K → Bool) → List K → Type 0
AreApart same [] = Unit {0}
AreApart same (key ∷ keys) = (list_any (same key) keys ≡ false) × AreApart same keys

apart_push : {K : Type 0} {same : K → K → Bool} → IsEquivalence same → (keys : List K) (key : K) → AreApart same keys → list_any (same key) keys ≡ false → AreApart same (keys ++ key ∷ [])
apart_push law [] key apart new = (refl, tt)
apart_push {K} {same} law (x ∷ xs) key apart new =
    let parts = or_parts (same key x) (list_any (same key) xs) new in
    (list_any-append (same x) xs (key ∷ []) ∙ or_from _ _ apart.0 (or_from _ _ (eq_comm law key x false parts.0) refl), apart_push law xs key apart.1 parts.1)

pub with_key-known : {K : Type 0} (same : K → K → Bool) (keys : List K) (key : K) → list_any (same key) keys ≡ true → with_key same keys key ≡ keys
with_key-known {K} same keys key e = ap (λ (b : Bool). cond b keys (keys ++ key ∷ [])) e

pub with_key-new : {K : Type 0} (same : K → K → Bool) (keys : List K) (key : K) → list_any (same key) keys ≡ false → with_key same keys key ≡ keys ++ key ∷ []
with_key-new {K} same keys key e = ap (λ (b : Bool). cond b keys (keys ++ key ∷ [])) e

apart-with_key : {K : Type 0} {same : K → K → Bool} → IsEquivalence same → (keys : List K) (key : K) → AreApart same keys → AreApart same (with_key same keys key)
apart-with_key {K} {same} law keys key apart =
    elim (cases_Bool (list_any (same key) keys)) [
      | inl known ↦ subst (AreApart same) (sym (with_key-known same keys key known)) apart
      | inr new ↦ subst (AreApart same) (sym (with_key-new same keys key new)) (apart_push law keys key apart new)
    ]

apart-keys_from : {K : Type 0} {same : K → K → Bool} → IsEquivalence same → (known keys : List K) → AreApart same known → AreApart same (keys_from same known keys)
apart-keys_from law known [] apart = apart
apart-keys_from {K} {same} law known (key ∷ keys) apart = apart-keys_from law (with_key same known key) keys (apart-with_key law known key apart)

keys_from-push : {K : Type 0} (same : K → K → Bool) (known keys : List K) (key : K) → keys_from same known (keys ++ key ∷ []) ≡ with_key same (keys_from same known keys) key
keys_from-push same known [] key = refl
keys_from-push same known (x ∷ keys) key = keys_from-push same (with_key same known x) keys key

-- the key that was put last is known
pub known-with_key : {K : Type 0} {same : K → K → Bool} → IsEquivalence same → (keys : List K) (key : K) → list_any (same key) (with_key same keys key) ≡ true
known-with_key {K} {same} law keys key =
    elim (cases_Bool (list_any (same key) keys)) [
      | inl known ↦ ap (list_any (same key)) (with_key-known same keys key known) ∙ known
      | inr new ↦ ap (list_any (same key)) (with_key-new same keys key new) ∙ list_any-append (same key) keys (key ∷ []) ∙ or_right _ _ (or_left _ false (law.refl key))
    ]

list_any-alike : {K : Type 0} {same : K → K → Bool} → IsEquivalence same → (x y : K) (keys : List K) → same x y ≡ true → list_any (same x) keys ≡ list_any (same y) keys
list_any-alike law x y [] alike = refl
list_any-alike {K} {same} law x y (k ∷ keys) alike = ap (λ (b : Bool). b || list_any (same x) keys) (law.congr x y k alike) ∙ ap (λ (b : Bool). same y k || b) (list_any-alike law x y keys alike)

absent_with : {K : Type 0} {same : K → K → Bool} → IsEquivalence same → (keys : List K) (other key : K) → list_any (same key) (with_key same keys other) ≡ false → (list_any (same key) keys ≡ false) × (same key other ≡ false)
absent_with {K} {same} law keys other key e =
    elim (cases_Bool (list_any (same other) keys)) [
      | inl known ↦
          let none : list_any (same key) keys ≡ false = sym (ap (list_any (same key)) (with_key-known same keys other known)) ∙ e in (
            none,
            elim (cases_Bool (same key other)) [
              | inl alike ↦ absurd (both_ways (list_any (same key) keys) none (list_any-alike law key other keys alike ∙ known))
              | inr different ↦ different
            ],
          )
      | inr new ↦
          let both = or_parts _ _ (sym (list_any-append (same key) keys (other ∷ [])) ∙ sym (ap (list_any (same key)) (with_key-new same keys other new)) ∙ e) in
          (both.0, (or_parts (same key other) false both.1).0)
    ]

-- a key that isn't among them was never mentioned
absent-keys_from : {K : Type 0} {same : K → K → Bool} → IsEquivalence same → (known keys : List K) (key : K) → list_any (same key) (keys_from same known keys) ≡ false → (list_any (same key) known ≡ false) × (list_any (same key) keys ≡ false)
absent-keys_from law known [] key e = (e, refl)
absent-keys_from {K} {same} law known (k ∷ keys) key e =
    let later = absent-keys_from law (with_key same known k) keys key e in
    let here = absent_with law known k key later.0 in
    (here.0, or_from _ _ here.1 later.1)

-- ---- places

pub place_here : {K : Type 0} (same : K → K → Bool) (key x : K) (xs : List K) → same key x ≡ true → position_or_len (same key) (x ∷ xs) ≡ 0
place_here same key x xs here = ap (λ (b : Bool). cond (not b) (1 + position_or_len (same key) xs) 0) here

pub place_later : {K : Type 0} (same : K → K → Bool) (key x : K) (xs : List K) → same key x ≡ false → position_or_len (same key) (x ∷ xs) ≡ suc (position_or_len (same key) xs)
place_later same key x xs other = ap (λ (b : Bool). cond (not b) (1 + position_or_len (same key) xs) 0) other ∙ omega arith

pub place_known : {K : Type 0} (same : K → K → Bool) (keys : List K) (key : K) → list_any (same key) keys ≡ true → position_or_len (same key) keys < length keys
place_known same [] key some = absurd cc
place_known same (x ∷ xs) key some =
    elim (cases_Bool (same key x)) [
      | inl here ↦ let first = place_here same key x xs here in omega arith
      | inr other ↦
          let below = place_known same xs key (sym (ap (λ (b : Bool). b || list_any (same key) xs) other) ∙ some) in
          let next = place_later same key x xs other in
          omega arith
    ]

place_new : {K : Type 0} (same : K → K → Bool) (keys : List K) (key : K) → list_any (same key) keys ≡ false → position_or_len (same key) keys ≡ length keys
place_new same [] key none = refl
place_new same (x ∷ xs) key none =
    let parts = or_parts (same key x) (list_any (same key) xs) none in
    let next = place_later same key x xs parts.0 in
    let later = place_new same xs key parts.1 in
    omega arith

-- a key that is added has the place at which it was sought
pub place_with_key : {K : Type 0} {same : K → K → Bool} → IsEquivalence same → (keys : List K) (key : K) → position_or_len (same key) (with_key same keys key) ≡ position_or_len (same key) keys
place_with_key {K} {same} law keys key =
    elim (cases_Bool (list_any (same key) keys)) [
      | inl known ↦ ap (position_or_len (same key)) (with_key-known same keys key known)
      | inr new ↦
          let at_end = place_new same keys key new in
          ap (position_or_len (same key)) (with_key-new same keys key new)
          ∙ position_or_len_push (same key) keys key ∙ ap (λ (b : Bool). cond b (length keys + cond (same key key) 0 1) (position_or_len (same key) keys)) (eq-eqb _ _ at_end)
          ∙ ap (λ (b : Bool). length keys + cond b 0 1) (law.refl key) ∙ omega arith
    ]

-- ---- the values of a key

pub passed_by : {K V : Type 0} (same : K → K → Bool) (key : K) (p : Keyed K V) (ps : List (Keyed K V)) → same key p.key ≡ false → of_key same key (p ∷ ps) ≡ of_key same key ps
passed_by {K} {V} same key p ps e = ap (λ (b : Bool). map (λ (q : Keyed K V). q.value) (cond b (p ∷ filter (λ q. same key q.key) ps) (filter (λ q. same key q.key) ps))) e

pub taken : {K V : Type 0} (same : K → K → Bool) (key : K) (p : Keyed K V) (ps : List (Keyed K V)) → same key p.key ≡ true → of_key same key (p ∷ ps) ≡ p.value ∷ of_key same key ps
taken {K} {V} same key p ps e = ap (λ (b : Bool). map (λ (q : Keyed K V). q.value) (cond b (p ∷ filter (λ q. same key q.key) ps) (filter (λ q. same key q.key) ps))) e

of_key-none : {K V : Type 0} (same : K → K → Bool) (key : K) (ps : List (Keyed K V)) → list_any (same key) (map (λ p. p.key) ps) ≡ false → of_key same key ps ≡ []
of_key-none same key [] none = refl
of_key-none {K} {V} same key (p ∷ ps) none =
    let parts = or_parts (same key p.key) (list_any (same key) (map (λ p. p.key) ps)) none in
    passed_by same key p ps parts.0 ∙ of_key-none same key ps parts.1

of_key-push : {K V : Type 0} (same : K → K → Bool) (key : K) (ps : List (Keyed K V)) (p : Keyed K V) → of_key same key (ps ++ p ∷ []) ≡ of_key same key ps ++ map (λ p. p.value) (cond (same key p.key) (p ∷ []) [])
of_key-push {K} {V} same key ps p =
    ap (map (λ (p : Keyed K V). p.value)) (filter-append (λ p. same key p.key) ps (p ∷ [])) ∙ map-append (λ p. p.value) (filter (λ p. same key p.key) ps) (cond (same key p.key) (p ∷ []) [])

of_key-same : {K V : Type 0} (same : K → K → Bool) (key : K) (ps : List (Keyed K V)) (p : Keyed K V) → same key p.key ≡ true → of_key same key (ps ++ p ∷ []) ≡ of_key same key ps ++ p.value ∷ []
of_key-same {K} {V} same key ps p e = of_key-push same key ps p ∙ ap (λ (b : Bool). of_key same key ps ++ map (λ p. p.value) (cond b (p ∷ []) [])) e

of_key-other : {K V : Type 0} (same : K → K → Bool) (key : K) (ps : List (Keyed K V)) (p : Keyed K V) → same key p.key ≡ false → of_key same key (ps ++ p ∷ []) ≡ of_key same key ps
of_key-other {K} {V} same key ps p e = of_key-push same key ps p ∙ ap (λ (b : Bool). of_key same key ps ++ map (λ p. p.value) (cond b (p ∷ []) [])) e ∙ append-nil (of_key same key ps)

-- ---- what is made of each key

-- where the key isn't among them, nothing changes
map_same : {K X : Type 0} {same : K → K → Bool} → IsEquivalence same → (f g : K → X) (key : K) (keys : List K) → list_any (same key) keys ≡ false
    → ((k : K) → same k key ≡ false → f k ≡ g k) → map f keys ≡ map g keys
map_same law f g key [] none other = refl
map_same {K} {X} {same} law f g key (x ∷ xs) none other =
    let parts = or_parts (same key x) (list_any (same key) xs) none in
    ap (λ (y : X). y ∷ map f xs) (other x (eq_comm law key x false parts.0)) ∙ ap (λ (ys : List X). g x ∷ ys) (map_same law f g key xs parts.1 other)

-- where it is, what is made of it changes, at its place
map_changed : {K X : Type 0} {same : K → K → Bool} → IsEquivalence same → (f g : K → X) (h : X → X) (key : K) (keys : List K) → AreApart same keys → list_any (same key) keys ≡ true
    → ((k : K) → same k key ≡ false → f k ≡ g k) → ((k : K) → same k key ≡ true → f k ≡ h (g k)) → map f keys ≡ changed_at h (position_or_len (same key) keys) (map g keys)
map_changed law f g h key [] apart some other there = absurd cc
map_changed {K} {X} {same} law f g h key (x ∷ xs) apart some other there =
    elim (cases_Bool (same key x)) [
      | inl here ↦
          let none : list_any (same x) xs ≡ false = apart.0 in
          let first = place_here same key x xs here in
          let turned : same x key ≡ true = eq_comm law key x true here in
          let rest : map f xs ≡ map g xs = map_same law f g x xs none (λ k apart_from. other k (law.symm k key ∙ law.congr key x k here ∙ law.symm x k ∙ apart_from)) in
          ap (λ (y : X). y ∷ map f xs) (there x turned) ∙ ap (λ (ys : List X). h (g x) ∷ ys) rest ∙ ap (λ (k : ℕ). changed_at h k (g x ∷ map g xs)) (sym first)
      | inr elsewhere ↦
          let later : list_any (same key) xs ≡ true = sym (ap (λ (b : Bool). b || list_any (same key) xs) elsewhere) ∙ some in
          let next = place_later same key x xs elsewhere in
          ap (λ (y : X). y ∷ map f xs) (other x (eq_comm law key x false elsewhere)) ∙ ap (λ (ys : List X). g x ∷ ys) (map_changed law f g h key xs apart.1 later other there)
          ∙ ap (λ (k : ℕ). changed_at h k (g x ∷ map g xs)) (sym next)
    ]

-- ---- one more value

-- a group with one more value
abbrev pub grown : {K V : Type 0} → V → Group K V → Group K V
grown value g = record { key = g.key; values = g.values ++ value ∷ [] }

-- the keys of some values, in order of first mention
abbrev pub keys_of : {K V : Type 0} → (K → K → Bool) → List (Keyed K V) → List K
keys_of same ps = keys_from same [] (map (λ p. p.key) ps)

pub keys_of-push : {K V : Type 0} (same : K → K → Bool) (ps : List (Keyed K V)) (p : Keyed K V) → keys_of same (ps ++ p ∷ []) ≡ with_key same (keys_of same ps) p.key
keys_of-push {K} {V} same ps p = ap (keys_from same []) (map_push (λ p. p.key) ps p) ∙ keys_from-push same [] (map (λ p. p.key) ps) p.key

-- with a key that was mentioned it goes to the values of that key
pub groups-known : {K V : Type 0} {same : K → K → Bool} → IsEquivalence same → (ps : List (Keyed K V)) (p : Keyed K V) → list_any (same p.key) (keys_of same ps) ≡ true
    → groups same (ps ++ p ∷ []) ≡ changed_at (grown p.value) (position_or_len (same p.key) (keys_of same ps)) (groups same ps)
groups-known {K} {V} {same} law ps p known =
    let f : K → Group K V = λ k. record { key = k; values = of_key same k (ps ++ p ∷ []) } in
    let g : K → Group K V = λ k. record { key = k; values = of_key same k ps } in
    ap (map f) (keys_of-push same ps p ∙ with_key-known same (keys_of same ps) p.key known)
    ∙ map_changed law f g (grown p.value) p.key (keys_of same ps) (apart-keys_from law [] (map (λ p. p.key) ps) tt) known
    (λ k other. ap (λ (vs : List V). record { key = k; values = vs }) (of_key-other same k ps p other))
    (λ k there. ap (λ (vs : List V). record { key = k; values = vs }) (of_key-same same k ps p there))

-- with a new key it makes a group of its own
pub groups-new : {K V : Type 0} {same : K → K → Bool} → IsEquivalence same → (ps : List (Keyed K V)) (p : Keyed K V) → list_any (same p.key) (keys_of same ps) ≡ false
    → groups same (ps ++ p ∷ []) ≡ groups same ps ++ record { key = p.key; values = p.value ∷ [] } ∷ []
groups-new {K} {V} {same} law ps p new =
    let f : K → Group K V = λ k. record { key = k; values = of_key same k (ps ++ p ∷ []) } in
    let g : K → Group K V = λ k. record { key = k; values = of_key same k ps } in
    let none : of_key same p.key ps ≡ [] = of_key-none same p.key ps (absent-keys_from law [] (map (λ p. p.key) ps) p.key new).1 in
    ap (map f) (keys_of-push same ps p ∙ with_key-new same (keys_of same ps) p.key new) ∙ map_push f (keys_of same ps) p.key
    ∙ ap (λ (gs : List (Group K V)). gs ++ f p.key ∷ []) (map_same law f g p.key (keys_of same ps) new (λ k other. ap (λ (vs : List V). record { key = k; values = vs }) (of_key-other same k ps p other)))
    ∙ ap (λ (vs : List V). map g (keys_of same ps) ++ record { key = p.key; values = vs } ∷ []) (of_key-same same p.key ps p (law.refl p.key) ∙ ap (λ (vs : List V). vs ++ p.value ∷ []) none)
