-- Groups: each key has one, in order of first mention, with the values of that key in order.
use Rattle.std.proofs.Common.{◌≡◌, ℕ, Bool, false, cond, List, [], ◌∷◌, ◌++◌, map, refl, sym, ap, ◌∙◌, subst, inl, inr, filter}
use Rattle.std.specs.Prelude.{◌⊎◌, ◌≢◌}
use Rattle.std.specs.Bool.{Decides}
use Rattle.std.specs.Cmp.{IsEquivalence}
use Rattle.std.specs.List.{list_any}
use Rattle.std.proofs.lemmas.Bool.{cases_Bool, cond_both, or_parts, both_ways}
use Rattle.std.proofs.lemmas.List.{append-nil}
use Rattle.std.proofs.lemmas.List.Folds.{list_any-append}
use Rattle.nc_types.proofs.Members.{in_by_map, in_by_filter}
use Rattle.nc_types.proofs.Truth.{same_truth}
use Rattle.nc_lines.specs.Groups.{Keyed, Group, keys_from, of_key, groups}
use Rattle.nc_lines.proofs.GroupLemmas.{passed_by, taken}
use Rattle.nc_lines.proofs.Pairs.{Has, Pairs, pairs_map, pairs_filter, Ascends, ascends_map, ascends_filter, ascends_one}

abbrev pub IsSame : {K : Type 0} → (K → K → Bool) → Type 0
IsSame {K} same = (a b : K) → Decides (same a b) (a ≡ b)

-- a test of sameness is an equivalence
pub equiv_of : {K : Type 0} {same : K → K → Bool} → IsSame same → IsEquivalence same
equiv_of {K} {same} is =
    record {
      refl = λ x. (is x x).1 refl;
      symm = λ x y. same_truth (same x y) (same y x) (λ e. (is y x).1 (sym ((is x y).0 e))) (λ e. (is x y).1 (sym ((is y x).0 e)));
      congr = λ x y z e. ap (λ (w : K). same w z) ((is x y).0 e);
    }

-- ---- keys

-- the keys that aren't among those before them
abbrev fresh : {K : Type 0} → (K → K → Bool) → List K → List K → List K
fresh same known [] = []
fresh same known (key ∷ keys) = cond (list_any (same key) known) (fresh same known keys) (key ∷ fresh same (known ++ key ∷ []) keys)

keys_split : {K : Type 0} (same : K → K → Bool) (known keys : List K) → keys_from same known keys ≡ known ++ fresh same known keys
keys_split same known [] = sym (append-nil known)
keys_split {K} same known (key ∷ keys) =
    elim (cases_Bool (list_any (same key) known)) [
      | inl old ↦
          ap (λ (b : Bool). keys_from same (cond b known (known ++ key ∷ [])) keys) old ∙ keys_split same known keys
          ∙ ap (λ (b : Bool). known ++ cond b (fresh same known keys) (key ∷ fresh same (known ++ key ∷ []) keys)) (sym old)
      | inr new ↦
          ap (λ (b : Bool). keys_from same (cond b known (known ++ key ∷ [])) keys) new ∙ keys_split same (known ++ key ∷ []) keys
          ∙ one_by_one known key (fresh same (known ++ key ∷ []) keys)
          ∙ ap (λ (b : Bool). known ++ cond b (fresh same known keys) (key ∷ fresh same (known ++ key ∷ []) keys)) (sym new)
    ]
  where
    one_by_one : {A : Type 0} (xs : List A) (y : A) (ys : List A) → (xs ++ y ∷ []) ++ ys ≡ xs ++ y ∷ ys
    one_by_one [] y ys = refl
    one_by_one {A} (x ∷ xs) y ys = ap (λ (zs : List A). x ∷ zs) (one_by_one xs y ys)

has_fresh : {K : Type 0} (same : K → K → Bool) (known keys : List K) (x key : K) → Has (fresh same known (x ∷ keys)) key
    → Has (fresh same known keys) key ⊎ ((list_any (same x) known ≡ false) × ((x ≡ key) ⊎ Has (fresh same (known ++ x ∷ []) keys) key))
has_fresh {K} same known keys x key h =
    elim (cases_Bool (list_any (same x) known)) [
      | inl old ↦ inl (subst (λ (b : Bool). Has (cond b (fresh same known keys) (x ∷ fresh same (known ++ x ∷ []) keys)) key) old h)
      | inr new ↦ inr (new, subst (λ (b : Bool). Has (cond b (fresh same known keys) (x ∷ fresh same (known ++ x ∷ []) keys)) key) new h)
    ]

fresh_new : {K : Type 0} (same : K → K → Bool) (known keys : List K) (key : K) → Has (fresh same known keys) key → list_any (same key) known ≡ false
fresh_new same known [] key h = absurd h
fresh_new {K} same known (x ∷ keys) key h =
    elim (has_fresh same known keys x key h) [
      | inl later ↦ fresh_new same known keys key later
      | inr found ↦ elim found.1 [
        | inl is ↦ subst (λ (k : K). list_any (same k) known ≡ false) is found.0
        | inr later ↦ (or_parts _ _ (sym (list_any-append (same key) known (x ∷ [])) ∙ fresh_new same (known ++ x ∷ []) keys key later)).0
      ]
    ]

-- what is fresh behind a key isn't that key
fresh_other : {K : Type 0} (same : K → K → Bool) (known keys : List K) (x key : K) → Has (fresh same (known ++ x ∷ []) keys) key → same key x ≡ false
fresh_other same known keys x key h = (or_parts (same key x) false (or_parts _ _ (sym (list_any-append (same key) known (x ∷ [])) ∙ fresh_new same (known ++ x ∷ []) keys key h)).1).0

fresh_mentioned : {K : Type 0} (same : K → K → Bool) (known keys : List K) (key : K) → Has (fresh same known keys) key → Has keys key
fresh_mentioned same known [] key h = absurd h
fresh_mentioned same known (x ∷ keys) key h =
    elim (has_fresh same known keys x key h) [
      | inl later ↦ inr (fresh_mentioned same known keys key later)
      | inr found ↦ elim found.1 [
        | inl here ↦ inl here
        | inr later ↦ inr (fresh_mentioned same (known ++ x ∷ []) keys key later)
      ]
    ]

fresh_apart : {K : Type 0} (same : K → K → Bool) → IsSame same → (known keys : List K) → Pairs (λ a b. a ≢ b) (fresh same known keys)
fresh_apart same is known [] = tt
fresh_apart {K} same is known (x ∷ keys) =
    cond_both (list_any (same x) known) (fresh same known keys) (x ∷ fresh same (known ++ x ∷ []) keys) (Pairs (λ a b. a ≢ b))
    (λ old. fresh_apart same is known keys)
    (λ new. (λ y h e. both_ways (same y x) (fresh_other same known keys x y h) ((is y x).1 (sym e)), fresh_apart same is (known ++ x ∷ []) keys))

-- ---- the values of a key

has_of_key : {K V : Type 0} (same : K → K → Bool) → IsSame same → (key : K) (ps : List (Keyed K V)) (v : V) → Has (of_key same key ps) v → (p : Keyed K V) × Has ps p × (p.key ≡ key) × (p.value ≡ v)
has_of_key {K} {V} same is key ps v h =
    let found = in_by_map (λ (p : Keyed K V). p.value) (filter (λ (p : Keyed K V). same key p.key) ps) v h in
    let passed = in_by_filter (λ (p : Keyed K V). same key p.key) ps found.0 found.1 in
    (found.0, passed.0, sym ((is key found.0.key).0 passed.1), found.2)

some_of_key : {K V : Type 0} (same : K → K → Bool) → IsSame same → (key : K) (ps : List (Keyed K V)) → Has (map (λ p. p.key) ps) key → (v : V) × (vs : List V) × (of_key same key ps ≡ v ∷ vs)
some_of_key same is key [] h = absurd h
some_of_key {K} {V} same is key (p ∷ ps) (inl here) = (p.value, of_key same key ps, taken same key p ps ((is key p.key).1 (sym here)))
some_of_key {K} {V} same is key (p ∷ ps) (inr later) =
    elim (cases_Bool (same key p.key)) [
      | inl own ↦ (p.value, of_key same key ps, taken same key p ps own)
      | inr other ↦ let found = some_of_key same is key ps later in (found.0, found.1, passed_by same key p ps other ∙ found.2)
    ]

-- ---- groups

abbrev group_of : {K V : Type 0} → (K → K → Bool) → List (Keyed K V) → K → Group K V
group_of same ps key = record { key = key; values = of_key same key ps }

groups_fresh : {K V : Type 0} (same : K → K → Bool) (ps : List (Keyed K V)) → groups same ps ≡ map (group_of same ps) (fresh same [] (map (λ p. p.key) ps))
groups_fresh {K} {V} same ps = ap (map (group_of same ps)) (keys_split same [] (map (λ (p : Keyed K V). p.key) ps))

-- a group has the values of its key, and at least one
pub grouped : {K V : Type 0} (same : K → K → Bool) → IsSame same → (ps : List (Keyed K V)) (g : Group K V) → Has (groups same ps) g → (g.values ≡ of_key same g.key ps) × ((v : V) × (vs : List V) × (g.values ≡ v ∷ vs))
grouped {K} {V} same is ps g h =
    let keys = map (λ (p : Keyed K V). p.key) ps in
    let found = in_by_map (group_of same ps) (fresh same [] keys) g (subst (λ (gs : List (Group K V)). Has gs g) (groups_fresh same ps) h) in
    let own : g.values ≡ of_key same g.key ps = subst (λ (g : Group K V). g.values ≡ of_key same g.key ps) found.2 refl in
    let key : found.0 ≡ g.key = ap (λ (g : Group K V). g.key) found.2 in
    let some = some_of_key same is g.key ps (subst (λ (k : K). Has keys k) key (fresh_mentioned same [] keys found.0 found.1)) in
    (own, (some.0, some.1, ◌∙◌ {c = some.0 ∷ some.1} own some.2))

pub groups_keys : {K V : Type 0} (same : K → K → Bool) → IsSame same → (ps : List (Keyed K V)) → Pairs (λ g h. g.key ≢ h.key) (groups same ps)
groups_keys {K} {V} same is ps =
    subst (Pairs (λ (g h : Group K V). g.key ≢ h.key)) (sym (groups_fresh same ps))
    (pairs_map (group_of same ps) (λ (a b : K). a ≢ b) (λ (g h : Group K V). g.key ≢ h.key) (fresh same [] (map (λ (p : Keyed K V). p.key) ps)) (λ a b ha hb less. less) (fresh_apart same is [] (map (λ (p : Keyed K V). p.key) ps)))

pub group_ascends : {K V : Type 0} (same : K → K → Bool) → IsSame same → (f : V → ℕ) (low high : ℕ) (ps : List (Keyed K V)) → Ascends (λ (q : Keyed K V). f q.value) low high ps
    → (g : Group K V) → Has (groups same ps) g → Ascends f low high g.values
group_ascends {K} {V} same is f low high ps up g h =
    subst (Ascends f low high) (sym (grouped same is ps g h).0)
    (ascends_map (λ (p : Keyed K V). p.value) f low high (filter (λ (p : Keyed K V). same g.key p.key) ps) (ascends_filter (λ (p : Keyed K V). same g.key p.key) (λ (p : Keyed K V). f p.value) low high ps up))

-- what is so of each value and each later one is so in each group
pub group_pairs : {K V : Type 0} (same : K → K → Bool) → IsSame same → (R : V → V → Type 0) (ps : List (Keyed K V)) → Pairs (λ p q. R p.value q.value) ps
    → (g : Group K V) → Has (groups same ps) g → Pairs R g.values
group_pairs {K} {V} same is R ps pairs g h =
    subst (Pairs R) (sym (grouped same is ps g h).0)
    (pairs_map (λ (p : Keyed K V). p.value) (λ (p q : Keyed K V). R p.value q.value) R (filter (λ (p : Keyed K V). same g.key p.key) ps) (λ p q hp hq so. so)
    (pairs_filter (λ (p : Keyed K V). same g.key p.key) (λ (p q : Keyed K V). R p.value q.value) ps pairs))

pub has_grouped : {K V : Type 0} (same : K → K → Bool) → IsSame same → (ps : List (Keyed K V)) (g : Group K V) (v : V) → Has (groups same ps) g → Has g.values v → (p : Keyed K V) × Has ps p × (p.key ≡ g.key) × (p.value ≡ v)
has_grouped {K} {V} same is ps g v hg hv = has_of_key same is g.key ps v (subst (λ (vs : List V). Has vs v) (grouped same is ps g hg).0 hv)

-- values of two keys have two numbers
pub groups_apart : {K V : Type 0} (same : K → K → Bool) → IsSame same → (f : V → ℕ) (low high : ℕ) (ps : List (Keyed K V)) → Ascends (λ (q : Keyed K V). f q.value) low high ps
    → (g h : Group K V) → Has (groups same ps) g → Has (groups same ps) h → g.key ≢ h.key → (v w : V) → Has g.values v → Has h.values w → f v ≡ f w → ⊥
groups_apart {K} {V} same is f low high ps up g h hg hh differ v w hv hw e =
    let a = has_grouped same is ps g v hg hv in
    let b = has_grouped same is ps h w hh hw in
    let one : a.0 ≡ b.0 = ascends_one (λ (q : Keyed K V). f q.value) low high ps up a.0 b.0 a.1 b.1 (ap f a.3 ∙ e ∙ sym (ap f b.3)) in
    differ (sym a.2 ∙ ap (λ (q : Keyed K V). q.key) one ∙ b.2)
