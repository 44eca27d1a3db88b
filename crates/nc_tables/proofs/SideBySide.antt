-- Items in order of their prefixes: those of one prefix stand side by side.
use Rattle.std.proofs.Common.{◌≡◌, ℕ, zero, suc, ◌+◌, ◌-◌, ◌<◌, ◌≤◌, Bool, true, false, cond, not, ◌&&◌, ◌==◌, List, [], ◌∷◌, length, get_or, refl, sym, ap, ◌∙◌, arith, inl, inr}
use Rattle.std.specs.List.{AllWithin, range_with_len}
use Rattle.std.specs.List.Sorted.{IsPartitionPoint, IsPartitionedBy, IsSortedByKey}
use Rattle.std.specs.Cmp.{IsTotalOrder}
use Rattle.std.specs.declared.cmp.Ordering.{Ordering}
use Rattle.std.specs.declared.cmp.Ordering.TheVariants.{Less, Equal, Greater}
use Rattle.std.specs.Ordering.{ordering_reverse, ordering_then, nat_cmp, is_lt, is_le, is_gt, is_eq}
use Rattle.std.proofs.lemmas.Cmp.{nat_cmp_total, on_total, then_total, upto}
use Rattle.std.proofs.lemmas.List.Sorted.{sorted_far, ranks_by}
use Rattle.std.proofs.lemmas.Bool.{cases_lt}
use Rattle.std.proofs.lemmas.Bool.Decides.{nat_tests}
use Rattle.nc_types.specs.Cidr.{Cidr}
use Rattle.nc_tables.specs.Base.{prefix_cmp, same_prefix}
use Rattle.nc_tables.specs.Longest.{places_from}

pub prefix_total : IsTotalOrder prefix_cmp
prefix_total = then_total (on_total (λ (p : Cidr). p.base) nat_cmp_total) (on_total (λ (p : Cidr). p.len) nat_cmp_total)

gt_back : (o : Ordering) → is_gt (ordering_reverse o) ≡ is_lt o
gt_back Less = refl
gt_back Equal = refl
gt_back Greater = refl

-- a prefix that isn't below another is no less
pub no_less : (p q : Cidr) → is_lt (prefix_cmp q p) ≡ false → is_gt (prefix_cmp p q) ≡ false
no_less p q e = ap is_gt (prefix_total.antisymm p q) ∙ gt_back (prefix_cmp q p) ∙ e

le_is : (o : Ordering) → is_le o ≡ not (is_gt o)
le_is Less = refl
le_is Equal = refl
le_is Greater = refl

no_gt : (o : Ordering) → is_le o ≡ true → is_gt o ≡ false
no_gt Less e = refl
no_gt Equal e = refl
no_gt Greater e = absurd cc

pub by_no_gt : (o : Ordering) → is_gt o ≡ false → is_le o ≡ true
by_no_gt Less e = refl
by_no_gt Equal e = refl
by_no_gt Greater e = absurd cc

eq_nat : (a b : ℕ) → (a == b) ≡ is_eq (nat_cmp a b)
eq_nat a b = grind (arith, nat_tests)

eq_then : (o r : Ordering) → (is_eq o && is_eq r) ≡ is_eq (ordering_then o r)
eq_then Less r = refl
eq_then Equal r = refl
eq_then Greater r = refl

pub same_by_cmp : (q p : Cidr) → same_prefix q p ≡ is_eq (prefix_cmp q p)
same_by_cmp q p =
    ap (λ b. b && (q.len == p.len)) (eq_nat q.base p.base)
    ∙ ap (λ b. is_eq (nat_cmp q.base p.base) && b) (eq_nat q.len p.len)
    ∙ eq_then (nat_cmp q.base p.base) (nat_cmp q.len p.len)

pub upto_upto : (q p r : Cidr) → is_le (prefix_cmp q p) ≡ true → is_le (prefix_cmp p r) ≡ true → is_le (prefix_cmp q r) ≡ true
upto_upto q p r first second =
    le_is (prefix_cmp q r) ∙ ap not (upto prefix_total q p r (no_gt (prefix_cmp q p) first) (no_gt (prefix_cmp p r) second))

-- what a comparison with the prefix says of an item
below_not : (o : Ordering) → is_lt o ≡ true → is_eq o ≡ false
below_not Less e = refl
below_not Equal e = absurd cc
below_not Greater e = refl

between_is : (o : Ordering) → is_lt o ≡ false → is_le o ≡ true → is_eq o ≡ true
between_is Less e f = absurd cc
between_is Equal e f = refl
between_is Greater e f = absurd cc

behind_not : (o : Ordering) → is_le o ≡ false → is_eq o ≡ false
behind_not Less e = absurd cc
behind_not Equal e = absurd cc
behind_not Greater e = refl

apart : (o : Ordering) → is_lt o ≡ true → is_le o ≡ false → ⊥
apart Less e f = absurd cc
apart Equal e f = absurd cc
apart Greater e f = absurd cc

-- the places of items of which those from `from` up to `to` pass the test and no others
places_between : {A : Type 0} (test : A → Bool) (rows : List A) (place from to : ℕ) → from ≤ to → to ≤ length rows → AllWithin (λ row. test row ≡ false) rows zero from
    → AllWithin (λ row. test row ≡ true) rows from to → AllWithin (λ row. test row ≡ false) rows to (length rows) → places_from test place rows ≡ range_with_len (place + from) (to - from)
places_between test [] place from to le within before here after =
    let none : to - from ≡ 0 = omega arith in rw none refl
places_between test (row ∷ rows) place zero zero le within before here after =
    ap (λ b. cond b (place ∷ places_from test (place + 1) rows) (places_from test (place + 1) rows)) (after 0 row (omega arith) (omega arith))
    ∙ places_between test rows (place + 1) zero zero (omega arith) (omega arith) (λ k d lo hi. absurd (omega arith)) (λ k d lo hi. absurd (omega arith)) (λ k d lo hi. after (suc k) d (omega arith) (omega arith))
places_between test (row ∷ rows) place zero (suc to) le within before here after =
    ap (λ b. cond b (place ∷ places_from test (place + 1) rows) (places_from test (place + 1) rows)) (here 0 row (omega arith) (omega arith))
    ∙ ap (λ (ks : List ℕ). place ∷ ks) (places_between test rows (place + 1) zero to (omega arith) (omega arith) (λ k d lo hi. absurd (omega arith)) (λ k d lo hi. here (suc k) d (omega arith) (omega arith)) (λ k d lo hi. after (suc k) d (omega arith) (omega arith)))
    ∙ (let e1 : (place + 1) + 0 ≡ place + 1 = omega arith in let e2 : to - 0 ≡ to = omega arith in let e3 : place + 0 ≡ place = omega arith in let e4 : suc to - 0 ≡ suc to = omega arith in rw (e1, e2, e3, e4) refl)
places_between test (row ∷ rows) place (suc from) zero le within before here after = absurd (omega arith)
places_between test (row ∷ rows) place (suc from) (suc to) le within before here after =
    ap (λ b. cond b (place ∷ places_from test (place + 1) rows) (places_from test (place + 1) rows)) (before 0 row (omega arith) (omega arith))
    ∙ places_between test rows (place + 1) from to (omega arith) (omega arith) (λ k d lo hi. before (suc k) d (omega arith) (omega arith)) (λ k d lo hi. here (suc k) d (omega arith) (omega arith)) (λ k d lo hi. after (suc k) d (omega arith) (omega arith))
    ∙ (let e1 : (place + 1) + from ≡ place + suc from = omega arith in let e2 : suc to - suc from ≡ to - from = omega arith in rw (e1, e2) refl)

-- an item at a place is the same by any default
pub same_at : {A : Type 0} (xs : List A) (k : ℕ) (d e : A) → k < length xs → get_or xs k d ≡ get_or xs k e
same_at [] k d e lt = absurd (omega arith)
same_at (x ∷ xs) zero d e lt = refl
same_at (x ∷ xs) (suc k) d e lt = same_at xs k d e (omega arith)

module _ {A : Type 0} (pre : A → Cidr) where
  -- the prefixes of items don't fall
  abbrev pub Rises : List A → Type 0
  Rises rows = (i j : ℕ) (d : A) → i ≤ j → j < length rows → is_gt (prefix_cmp (pre (get_or rows i d)) (pre (get_or rows j d))) ≡ false

  pub rises : (rows : List A) → IsSortedByKey pre prefix_cmp rows → Rises rows
  rises rows ordered i j d le lt = no_less (pre (get_or rows i d)) (pre (get_or rows j d)) (sorted_far _ (ranks_by prefix_total pre) rows ordered i j d le lt)

  module _ (rows : List A) (rising : Rises rows) where
    -- those below a prefix come first, and those no greater
    pub below_first : (p : Cidr) → IsPartitionedBy (λ row. is_lt (prefix_cmp (pre row) p)) rows
    below_first p i j d le lt below = below_by p (pre (get_or rows i d)) (pre (get_or rows j d)) (rising i j d le lt) below (is_lt (prefix_cmp (pre (get_or rows i d)) p)) refl
      where
        below_by : (p a b : Cidr) → is_gt (prefix_cmp a b) ≡ false → is_lt (prefix_cmp b p) ≡ true → (t : Bool) → is_lt (prefix_cmp a p) ≡ t → is_lt (prefix_cmp a p) ≡ true
        below_by p a b up below true e = e
        below_by p a b up below false e =
            let back : is_gt (prefix_cmp p b) ≡ false = upto prefix_total p a b (no_less p a e) up in
            let same : is_gt (prefix_cmp p b) ≡ is_lt (prefix_cmp b p) = ap is_gt (prefix_total.antisymm p b) ∙ gt_back (prefix_cmp b p) in
            absurd cc

    pub upto_first : (p : Cidr) → IsPartitionedBy (λ row. is_le (prefix_cmp (pre row) p)) rows
    upto_first p i j d le lt within =
        let last : is_gt (prefix_cmp (pre (get_or rows j d)) p) ≡ false = no_gt (prefix_cmp (pre (get_or rows j d)) p) within in
        le_is (prefix_cmp (pre (get_or rows i d)) p) ∙ ap not (upto prefix_total (pre (get_or rows i d)) (pre (get_or rows j d)) p (rising i j d le lt) last)

  module _ (rows : List A) where
    -- behind an item of a later prefix all are of later ones
    pub behind_from : Rises rows → (p : Cidr) (at : ℕ) (row : A) → at < length rows → row ≡ get_or rows at row → is_le (prefix_cmp (pre row) p) ≡ false → AllWithin (λ x. is_le (prefix_cmp (pre x) p) ≡ false) rows at (length rows)
    behind_from rising p at row lt is past k d lo hi = on (is_le (prefix_cmp (pre (get_or rows k d)) p)) refl
      where
        on : (b : Bool) → is_le (prefix_cmp (pre (get_or rows k d)) p) ≡ b → is_le (prefix_cmp (pre (get_or rows k d)) p) ≡ false
        on false e = e
        on true e =
            let near : is_le (prefix_cmp (pre (get_or rows at d)) p) ≡ true = upto_first rows rising p at k d lo hi e in
            let here : is_le (prefix_cmp (pre (get_or rows at d)) p) ≡ false = ap (λ (x : A). is_le (prefix_cmp (pre x) p)) (same_at rows at d row lt ∙ sym is) ∙ past in
            absurd cc

    -- one more item of no later prefix
    pub one_more : (p : Cidr) (at : ℕ) (row : A) → at < length rows → row ≡ get_or rows at row → is_le (prefix_cmp (pre row) p) ≡ true → AllWithin (λ x. is_le (prefix_cmp (pre x) p) ≡ true) rows zero at → AllWithin (λ x. is_le (prefix_cmp (pre x) p) ≡ true) rows zero (at + 1)
    one_more p at row lt is here before k d lo hi = elim (cases_lt k at) [
      | inl less ↦ before k d lo less
      | inr le ↦
          let same : k ≡ at = omega arith in
          ap (λ (n : ℕ). is_le (prefix_cmp (pre (get_or rows n d)) p)) same ∙ ap (λ (x : A). is_le (prefix_cmp (pre x) p)) (same_at rows at d row lt ∙ sym is) ∙ here
    ]

  -- the first place of the items of a prefix, by the place behind them
  module _ (rows : List A) (rising : Rises rows) (p : Cidr) (to : ℕ) (in_to : to ≤ length rows)
      (last : IsPartitionPoint (λ row. is_le (prefix_cmp (pre row) p) ≡ true) (λ row. is_le (prefix_cmp (pre row) p) ≡ false) rows to) where
    pub first_is : (place : ℕ) → place ≤ to → AllWithin (λ row. same_prefix (pre row) p ≡ false) rows (place - 1) place → AllWithin (λ row. same_prefix (pre row) p ≡ true) rows place to
        → IsPartitionPoint (λ row. is_lt (prefix_cmp (pre row) p) ≡ true) (λ row. is_lt (prefix_cmp (pre row) p) ≡ false) rows place
    first_is place within other same = (before, behind)
      where
        less : (o : Ordering) → is_le o ≡ true → is_eq o ≡ false → is_lt o ≡ true
        less Less e f = refl
        less Equal e f = absurd cc
        less Greater e f = absurd cc

        no_less_than : (o : Ordering) → is_eq o ≡ true → is_lt o ≡ false
        no_less_than Less e = absurd cc
        no_less_than Equal e = refl
        no_less_than Greater e = absurd cc

        greater : (o : Ordering) → is_le o ≡ false → is_lt o ≡ false
        greater Less e = absurd cc
        greater Equal e = refl
        greater Greater e = refl

        before : (k : ℕ) (d : A) → 0 ≤ k → k < place → is_lt (prefix_cmp (pre (get_or rows k d)) p) ≡ true
        before k d low high =
            let o = prefix_cmp (pre (get_or rows (place - 1) d)) p in
            let here : is_lt o ≡ true = less o (last.0 (place - 1) d (omega arith) (omega arith)) (sym (same_by_cmp (pre (get_or rows (place - 1) d)) p) ∙ other (place - 1) d (omega arith) (omega arith)) in
            below_first rows rising p k (place - 1) d (omega arith) (omega arith) here

        behind : (k : ℕ) (d : A) → place ≤ k → k < length rows → is_lt (prefix_cmp (pre (get_or rows k d)) p) ≡ false
        behind k d le lt = elim (cases_lt k to) [
          | inl inside ↦ no_less_than (prefix_cmp (pre (get_or rows k d)) p) (sym (same_by_cmp (pre (get_or rows k d)) p) ∙ same k d le inside)
          | inr past ↦ greater (prefix_cmp (pre (get_or rows k d)) p) (last.1 k d past lt)
        ]

  module _ (p : Cidr) (rows : List A) (from to : ℕ) (in_from : from ≤ length rows) (in_to : to ≤ length rows)
      (first : IsPartitionPoint (λ row. is_lt (prefix_cmp (pre row) p) ≡ true) (λ row. is_lt (prefix_cmp (pre row) p) ≡ false) rows from)
      (last : IsPartitionPoint (λ row. is_le (prefix_cmp (pre row) p) ≡ true) (λ row. is_le (prefix_cmp (pre row) p) ≡ false) rows to) where
    in_order_by : (d : A) → from ≤ to
    in_order_by d = elim (cases_lt to from) [
      | inl lt ↦ absurd (apart (prefix_cmp (pre (get_or rows to d)) p) (first.0 to d (omega arith) lt) (last.1 to d (omega arith) (omega arith)))
      | inr le ↦ le
    ]

    -- the two places that a binary search finds are in order
    pub ends_in_order : from ≤ to
    ends_in_order = by_rows rows refl
      where
        by_rows : (rs : List A) → rows ≡ rs → from ≤ to
        by_rows [] e = let none : length rows ≡ 0 = ap length e in omega arith
        by_rows (r ∷ rs) e = in_order_by r

    -- and are the ends of the items of a prefix
    pub side_by_side : places_from (λ row. same_prefix (pre row) p) 0 rows ≡ range_with_len from (to - from)
    side_by_side =
        let here : 0 + from ≡ from = omega arith in
        places_between (λ row. same_prefix (pre row) p) rows zero from to ends_in_order in_to
        (λ k d lo hi. same_by_cmp (pre (get_or rows k d)) p ∙ below_not (prefix_cmp (pre (get_or rows k d)) p) (first.0 k d lo hi))
        (λ k d lo hi. same_by_cmp (pre (get_or rows k d)) p ∙ between_is (prefix_cmp (pre (get_or rows k d)) p) (first.1 k d lo (omega arith)) (last.0 k d (omega arith) hi))
        (λ k d lo hi. same_by_cmp (pre (get_or rows k d)) p ∙ behind_not (prefix_cmp (pre (get_or rows k d)) p) (last.1 k d lo hi))
        ∙ ap (λ (k : ℕ). range_with_len k (to - from)) here
