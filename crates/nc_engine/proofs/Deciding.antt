-- Of two functions of sets that ask for no element from some number on, the first implies the second, or there is a greatest
-- set that tells them apart.
use Rattle.std.proofs.Common.{◌≡◌, ◌↔◌, ◌⊎◌, ℕ, zero, suc, ◌+◌, ◌<◌, ◌≤◌, Bool, true, false, cond, List, [], ◌∷◌, ◌++◌, length, Contains, inl, inr, refl, sym, ap, ◌∙◌, subst, length-append, arith}
use Rattle.std.specs.Prelude.{slice_index_or}
use Rattle.std.specs.List.Sorted.{IsStrictlyIncreasing}
use Rattle.std.proofs.lemmas.Bool.{cases_lt, cases_eq, true≢false}
use Rattle.std.proofs.lemmas.List.{get_or_at, get_or_append_left, get_or_past}
use Rattle.nc_types.proofs.Members.{In, in_by_contains, contains_by_in}
use Rattle.nc_diagram.specs.Sets.{Members, has, all_but}
use Rattle.nc_diagram.specs.Counter.{Implies, Separates, SameMembers, IsGreater, IsGreatest}
use Rattle.nc_diagram.proofs.CounterLemmas.{Ascends, IsStrictlyIncreasing-ascends}

-- two sets have the same members below a number
abbrev pub AgreeBelow : ℕ → Members → Members → Type 0
AgreeBelow n s t = (v : ℕ) → v < n → has s v ≡ has t v

-- a function asks only for elements below a number
abbrev pub AsksBelow : ℕ → (Members → Bool) → Type 0
AsksBelow n f = (s t : Members) → AgreeBelow n s t → f s ≡ f t

-- the elements that are missing in the greatest set that tells two functions apart
abbrev pub Missing : (Members → Bool) → (Members → Bool) → Type 0
Missing f g = (missing : List ℕ) × IsStrictlyIncreasing missing × IsGreatest f g (all_but missing)

-- ---- the lowest difference of two sets

abbrev Differ : Members → Members → Type 0
Differ s t = IsGreater s t ⊎ IsGreater t s

differ_below : (s t : Members) (n : ℕ) → AgreeBelow n s t ⊎ Differ s t
differ_below s t zero = inl (λ v lt. absurd (omega arith))
differ_below s t (suc n) = on (differ_below s t n)
  where
    on : AgreeBelow n s t ⊎ Differ s t → AgreeBelow (suc n) s t ⊎ Differ s t
    on (inr differ) = inr differ
    on (inl same) = at (has s n) (has t n) refl refl
      where
        at : (b c : Bool) → has s n ≡ b → has t n ≡ c → AgreeBelow (suc n) s t ⊎ Differ s t
        at true false p q = inr (inl (record { variable = n; member = p; missing = q; same_below = same }))
        at false true p q = inr (inr (record { variable = n; member = q; missing = p; same_below = λ v lt. sym (same v lt) }))
        at true true p q = inl (λ v lt. elim (cases_eq v n) [
          | inl e ↦ subst (λ (w : ℕ). has s w ≡ has t w) (sym e) (p ∙ sym q)
          | inr ne ↦ same v (omega arith)
        ])
        at false false p q = inl (λ v lt. elim (cases_eq v n) [
          | inl e ↦ subst (λ (w : ℕ). has s w ≡ has t w) (sym e) (p ∙ sym q)
          | inr ne ↦ same v (omega arith)
        ])

compare : (s t : Members) → SameMembers s t ⊎ Differ s t
compare s t = on (differ_below s t (suc (length s.places + length t.places)))
  where
    most : ℕ
    most = length s.places + length t.places

    on : AgreeBelow (suc (length s.places + length t.places)) s t ⊎ Differ s t → SameMembers s t ⊎ Differ s t
    on (inr differ) = inr differ
    on (inl same) = inl (λ v. elim (cases_lt v (suc (length s.places + length t.places))) [
      | inl lt ↦ same v lt
      | inr ge ↦ get_or_past s.places v s.rest (omega arith)
          ∙ sym (get_or_past s.places (length s.places + length t.places) s.rest (omega arith))
          ∙ same (length s.places + length t.places) (omega arith)
          ∙ get_or_past t.places (length s.places + length t.places) t.rest (omega arith)
          ∙ sym (get_or_past t.places v t.rest (omega arith))
    ])

-- ---- the elements that a set lacks

lacking : Members → ℕ → ℕ → List ℕ
lacking s from zero = []
lacking s from (suc n) = cond (has s from) (lacking s (from + 1) n) (from ∷ lacking s (from + 1) n)

ascends_lower : (from : ℕ) (vs : List ℕ) → Ascends (from + 1) vs → Ascends from vs
unfolding Ascends
ascends_lower from [] up = tt
ascends_lower from (v ∷ vs) up = (omega (arith, up.0), up.1)

lacking_ascends : (s : Members) (from n : ℕ) → Ascends from (lacking s from n)
unfolding Ascends lacking
lacking_ascends s from zero = tt
lacking_ascends s from (suc n) = on (has s from) (lacking_ascends s (from + 1) n)
  where
    on : (b : Bool) → Ascends (from + 1) (lacking s (from + 1) n) → Ascends from (cond b (lacking s (from + 1) n) (from ∷ lacking s (from + 1) n))
    on true up = ascends_lower from (lacking s (from + 1) n) up
    on false up = (omega arith, up)

lacking_lacks : (s : Members) (from n v : ℕ) → In v (lacking s from n) → has s v ≡ false
unfolding lacking
lacking_lacks s from zero v i = absurd i
lacking_lacks s from (suc n) v i = on (has s from) refl i (lacking_lacks s (from + 1) n v)
  where
    on : (b : Bool) → has s from ≡ b → In v (cond b (lacking s (from + 1) n) (from ∷ lacking s (from + 1) n)) → (In v (lacking s (from + 1) n) → has s v ≡ false) → has s v ≡ false
    on true is i later = later i
    on false is (inl e) later = subst (λ (w : ℕ). has s w ≡ false) e is
    on false is (inr i) later = later i

lacking_all : (s : Members) (from n v : ℕ) → from ≤ v → v < from + n → has s v ≡ false → In v (lacking s from n)
unfolding lacking
lacking_all s from zero v least most out = absurd (omega arith)
lacking_all s from (suc n) v least most out = elim (cases_eq from v) [
  | inl e ↦ first (has s from) (ap (has s) e ∙ out) e
  | inr ne ↦ later (has s from) (lacking_all s (from + 1) n v (omega arith) (omega arith) out)
]
  where
    first : (b : Bool) → b ≡ false → from ≡ v → In v (cond b (lacking s (from + 1) n) (from ∷ lacking s (from + 1) n))
    first true is e = absurd (true≢false is)
    first false is e = inl e

    later : (b : Bool) → In v (lacking s (from + 1) n) → In v (cond b (lacking s (from + 1) n) (from ∷ lacking s (from + 1) n))
    later true i = i
    later false i = inr i

module _ (lacks : (missing : List ℕ) (v : ℕ) → IsStrictlyIncreasing missing → (has (all_but missing) v ≡ false) ↔ Contains missing v) where
  -- a set that has all elements from a number on is all elements but those that it lacks
  same_set : (s : Members) (n : ℕ) → ((v : ℕ) → n ≤ v → has s v ≡ true) → SameMembers (all_but (lacking s 0 n)) s
  same_set s n full v = at (has s v) (has (all_but (lacking s 0 n)) v) refl refl
    where
      up : IsStrictlyIncreasing (lacking s 0 n)
      up = IsStrictlyIncreasing-ascends 0 (lacking s 0 n) (lacking_ascends s 0 n)

      at : (b c : Bool) → has s v ≡ b → has (all_but (lacking s 0 n)) v ≡ c → has (all_but (lacking s 0 n)) v ≡ has s v
      at true true p q = q ∙ sym p
      at false false p q = q ∙ sym p
      at true false p q = absurd (true≢false (sym p ∙ lacking_lacks s 0 n v (in_by_contains (lacking s 0 n) v ((lacks (lacking s 0 n) v up).0 q))))
      at false true p q = elim (cases_lt v n) [
        | inl lt ↦ absurd (true≢false (sym q ∙ (lacks (lacking s 0 n) v up).1 (contains_by_in (lacking s 0 n) v (lacking_all s 0 n v (omega arith) (omega arith) p))))
        | inr ge ↦ absurd (true≢false (sym (full v ge) ∙ p))
      ]

  -- ---- the greatest set

  module _ (f g : Members → Bool) (most : ℕ) (low_f : AsksBelow most f) (low_g : AsksBelow most g) where
    -- a set begins with these places
    abbrev Begins : List Bool → Members → Type 0
    Begins front t = (v : ℕ) → v < length front → has t v ≡ slice_index_or front v true

    -- none of the sets that begin so tells the functions apart, or one is the greatest of them
    abbrev None : List Bool → Type 0
    None front = (t : Members) → Begins front t → Separates f g t → ⊥

    record Found (front : List Bool) : Type 0 where
      set : Members
      full : (v : ℕ) → most ≤ v → has set v ≡ true
      begins : Begins front set
      apart : Separates f g set
      greatest : (t : Members) → Begins front t → Separates f g t → SameMembers set t ⊎ IsGreater set t

    abbrev whole : List Bool → Members
    whole front = record { places = front; rest = true }

    begins_more : (front : List Bool) (c : Bool) (t : Members) → Begins front t → has t (length front) ≡ c → Begins (front ++ c ∷ []) t
    begins_more front c t begins is v lt = elim (cases_eq v (length front)) [
      | inl e ↦ ap (has t) e ∙ is ∙ sym (get_or_at front c [] true v (sym e))
      | inr ne ↦ let few : v < length front = omega (arith, length-append front (c ∷ [])) in begins v few ∙ sym (get_or_append_left front (c ∷ []) true v few)
    ]

    begins_less : (front : List Bool) (c : Bool) (t : Members) → Begins (front ++ c ∷ []) t → Begins front t
    begins_less front c t begins v lt = begins v (omega (arith, length-append front (c ∷ []))) ∙ get_or_append_left front (c ∷ []) true v lt

    begins_at : (front : List Bool) (c : Bool) (t : Members) → Begins (front ++ c ∷ []) t → has t (length front) ≡ c
    begins_at front c t begins = begins (length front) (omega (arith, length-append front (c ∷ []))) ∙ get_or_at front c [] true (length front) refl

    -- all places are given
    found_whole : (front : List Bool) → length front ≡ most → None front ⊎ Found front
    found_whole front len = on (f (whole front)) (g (whole front)) refl refl
      where
        agree : (t : Members) → Begins front t → AgreeBelow most t (whole front)
        agree t begins v lt = begins v (omega (arith, len))

        full : (v : ℕ) → most ≤ v → has (whole front) v ≡ true
        full v ge = get_or_past front v true (omega (arith, len))

        beside : (t : Members) → Begins front t → SameMembers (whole front) t ⊎ Differ (whole front) t → SameMembers (whole front) t ⊎ IsGreater (whole front) t
        beside t begins (inl same) = inl same
        beside t begins (inr (inl greater)) = inr greater
        beside t begins (inr (inr less)) = elim (cases_lt less.variable most) [
          | inl lt ↦ absurd (true≢false (sym less.member ∙ agree t begins less.variable lt ∙ less.missing))
          | inr ge ↦ absurd (true≢false (sym (full less.variable ge) ∙ less.missing))
        ]

        on : (b c : Bool) → f (whole front) ≡ b → g (whole front) ≡ c → None front ⊎ Found front
        on true false p q = inr (record { set = whole front; full = full; begins = λ v lt. refl; apart = (p, q); greatest = λ t begins apart. beside t begins (compare (whole front) t) })
        on true true p q = inl (λ t begins apart. true≢false (sym q ∙ sym (low_g t (whole front) (agree t begins)) ∙ apart.1))
        on false c p q = inl (λ t begins apart. true≢false (sym apart.0 ∙ low_f t (whole front) (agree t begins) ∙ p))

    found : (n : ℕ) (front : List Bool) → length front + n ≡ most → None front ⊎ Found front
    found zero front len = found_whole front (omega (arith, len))
    found (suc n) front len =
        on (found n (front ++ true ∷ []) (omega (arith, len, length-append front (true ∷ [])))) (found n (front ++ false ∷ []) (omega (arith, len, length-append front (false ∷ []))))
      where
        on : None (front ++ true ∷ []) ⊎ Found (front ++ true ∷ []) → None (front ++ false ∷ []) ⊎ Found (front ++ false ∷ []) → None front ⊎ Found front
        on (inr high) other = inr (record {
          set = high.set;
          full = high.full;
          begins = begins_less front true high.set high.begins;
          apart = high.apart;
          greatest = λ t begins apart. at t begins apart (has t (length front)) refl;
        })
          where
            at : (t : Members) → Begins front t → Separates f g t → (c : Bool) → has t (length front) ≡ c → SameMembers high.set t ⊎ IsGreater high.set t
            at t begins apart true is = high.greatest t (begins_more front true t begins is) apart
            at t begins apart false is = inr (record {
              variable = length front;
              member = begins_at front true high.set high.begins;
              missing = is;
              same_below = λ v lt. begins_less front true high.set high.begins v lt ∙ sym (begins v lt);
            })
        on (inl none) (inr low) = inr (record {
          set = low.set;
          full = low.full;
          begins = begins_less front false low.set low.begins;
          apart = low.apart;
          greatest = λ t begins apart. at t begins apart (has t (length front)) refl;
        })
          where
            at : (t : Members) → Begins front t → Separates f g t → (c : Bool) → has t (length front) ≡ c → SameMembers low.set t ⊎ IsGreater low.set t
            at t begins apart true is = absurd (none t (begins_more front true t begins is) apart)
            at t begins apart false is = low.greatest t (begins_more front false t begins is) apart
        on (inl none) (inl neither) = inl (λ t begins apart. at t begins apart (has t (length front)) refl)
          where
            at : (t : Members) → Begins front t → Separates f g t → (c : Bool) → has t (length front) ≡ c → ⊥
            at t begins apart true is = none t (begins_more front true t begins is) apart
            at t begins apart false is = neither t (begins_more front false t begins is) apart

    pub decide : Implies f g ⊎ Missing f g
    decide = on (found most [] (omega arith))
      where
        on : None [] ⊎ Found [] → Implies f g ⊎ Missing f g
        on (inl none) = inl (λ s here. at s here (g s) refl)
          where
            at : (s : Members) → f s ≡ true → (b : Bool) → g s ≡ b → g s ≡ true
            at s here true is = is
            at s here false is = absurd (none s (λ v lt. absurd (omega arith)) (here, is))
        on (inr top) = inr (
          lacking top.set 0 most,
          IsStrictlyIncreasing-ascends 0 (lacking top.set 0 most) (lacking_ascends top.set 0 most),
          record {
            separates = (low_f (all_but (lacking top.set 0 most)) top.set (λ v lt. same v) ∙ top.apart.0, low_g (all_but (lacking top.set 0 most)) top.set (λ v lt. same v) ∙ top.apart.1);
            greatest = λ t apart. beside t (top.greatest t (λ v lt. absurd (omega arith)) apart);
          },
        )
          where
            same : SameMembers (all_but (lacking top.set 0 most)) top.set
            same = same_set top.set most top.full

            beside : (t : Members) → SameMembers top.set t ⊎ IsGreater top.set t → SameMembers (all_but (lacking top.set 0 most)) t ⊎ IsGreater (all_but (lacking top.set 0 most)) t
            beside t (inl is) = inl (λ v. same v ∙ is v)
            beside t (inr is) = inr (record { variable = is.variable; member = same is.variable ∙ is.member; missing = is.missing; same_below = λ v lt. same v ∙ is.same_below v lt })
