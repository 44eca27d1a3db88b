-- Rows in order of prefix and distance: those of the least distance of their prefix, and the order of a table.
use Rattle.std.proofs.Common.{◌≡◌, ◌⊎◌, ℕ, zero, suc, ◌+◌, ◌<◌, Bool, true, false, not, ◌&&◌, ◌||◌, ◌==◌, nat_lt, List, [], ◌∷◌, length, get_or, filter, refl, sym, ap, subst, ◌∙◌, arith, inl, inr}
use Rattle.std.specs.List.{list_any, AllPairs}
use Rattle.std.specs.List.Sorted.{IsSorted, IsPermutation, IsStableBy, ties}
use Rattle.std.specs.Cmp.{IsTotalOrder}
use Rattle.std.specs.declared.cmp.Ordering.{Ordering}
use Rattle.std.specs.declared.cmp.Ordering.TheVariants.{Less, Equal, Greater}
use Rattle.std.specs.Ordering.{ordering_then, ordering_reverse, nat_cmp, is_lt, is_eq}
use Rattle.std.proofs.lemmas.Bool.Decides.{nat_tests}
use Rattle.std.proofs.lemmas.Cmp.{nat_cmp_total, on_total, then_total, tied_itself}
use Rattle.std.proofs.lemmas.List.Sorted.{sorted_far, ranks_by, list_any-IsPermutation, Contains-permutation, IsPermutation-sym}
use Rattle.nc_tables.specs.declared.base.BaseRow.{BaseRow}
use Rattle.nc_tables.specs.Base.{prefix_cmp, from_cmp, row_cmp, same_prefix, is_nearest}
use Rattle.nc_tables.specs.Order.{in_order}
use Rattle.nc_tables.proofs.RowOrder.{row_total}
use Rattle.nc_base_rib.specs.Nearness.{distance_cmp}
use Rattle.nc_types.proofs.Members.{In, in_at, in_by_contains, contains_by_in, in_filter, in_by_filter}
use Rattle.nc_tables.proofs.Ordered.{in_by_order, in_its_order}
use Rattle.nc_base_rib.proofs.Members.{Rises, rises_by_pairs, rises_more, rises_kept, ties_rise, one_list, in_order_ascends}

pub distance_total : IsTotalOrder distance_cmp
distance_total =
    then_total (on_total (λ (r : BaseRow). r.prefix.base) nat_cmp_total)
    (then_total (on_total (λ (r : BaseRow). r.prefix.len) nat_cmp_total) (on_total (λ (r : BaseRow). r.distance) nat_cmp_total))

-- ---- two rows

-- whether one row keeps the other from being used
abbrev pub beats : BaseRow → BaseRow → Bool
beats a b = same_prefix a.prefix b.prefix && nat_lt a.distance b.distance

abbrev pub is_less : BaseRow → BaseRow → Bool
is_less a b = is_lt (distance_cmp a b)

-- no less than an earlier row, and of those that tie the one of the lower place comes first
abbrev pub IsBehind : BaseRow → BaseRow → Type 0
IsBehind a b = (is_less b a ≡ false) × (ties is_less a b ≡ true → from_cmp a.from b.from ≡ Less)

by_orders : (o1 o2 o3 r1 r2 r3 : Ordering) → r1 ≡ ordering_reverse o1 → r2 ≡ ordering_reverse o2 → r3 ≡ ordering_reverse o3 → is_lt (ordering_then r1 (ordering_then r2 r3)) ≡ false → ((is_eq o1 && is_eq o2) && is_lt o3) ≡ false
    → (ordering_then o1 o2 ≡ Less) ⊎ ((ordering_then o1 o2 ≡ Equal) × ((not (is_lt (ordering_then o1 (ordering_then o2 o3))) && not (is_lt (ordering_then r1 (ordering_then r2 r3)))) ≡ true))
by_orders Less o2 o3 r1 r2 r3 e1 e2 e3 up beaten = inl refl
by_orders Greater o2 o3 r1 r2 r3 e1 e2 e3 up beaten =
    let h : true ≡ false = subst (λ (o : Ordering). is_lt (ordering_then o (ordering_then r2 r3)) ≡ false) e1 up in absurd cc
by_orders Equal Less o3 r1 r2 r3 e1 e2 e3 up beaten = inl refl
by_orders Equal Greater o3 r1 r2 r3 e1 e2 e3 up beaten =
    let g : is_lt (ordering_then r2 r3) ≡ false = subst (λ (o : Ordering). is_lt (ordering_then o (ordering_then r2 r3)) ≡ false) e1 up in
    let h : true ≡ false = subst (λ (o : Ordering). is_lt (ordering_then o r3) ≡ false) e2 g in absurd cc
by_orders Equal Equal Less r1 r2 r3 e1 e2 e3 up beaten = absurd cc
by_orders Equal Equal Equal r1 r2 r3 e1 e2 e3 up beaten = inr (refl, rw (e1, e2, e3) refl)
by_orders Equal Equal Greater r1 r2 r3 e1 e2 e3 up beaten =
    let g : is_lt (ordering_then r2 r3) ≡ false = subst (λ (o : Ordering). is_lt (ordering_then o (ordering_then r2 r3)) ≡ false) e1 up in
    let h : is_lt r3 ≡ false = subst (λ (o : Ordering). is_lt (ordering_then o r3) ≡ false) e2 g in
    let k : true ≡ false = subst (λ (o : Ordering). is_lt o ≡ false) e3 h in absurd cc

eq_is : (a b : ℕ) → is_eq (nat_cmp a b) ≡ (a == b)
eq_is a b = grind (arith, nat_tests)

lt_is : (a b : ℕ) → is_lt (nat_cmp a b) ≡ nat_lt a b
lt_is a b = grind (arith, nat_tests)

by_numbers : (ab al ad bb bl bd : ℕ) → is_lt (ordering_then (nat_cmp bb ab) (ordering_then (nat_cmp bl al) (nat_cmp bd ad))) ≡ false → (((ab == bb) && (al == bl)) && nat_lt ad bd) ≡ false
    → (ordering_then (nat_cmp ab bb) (nat_cmp al bl) ≡ Less) ⊎ ((ordering_then (nat_cmp ab bb) (nat_cmp al bl) ≡ Equal)
    × ((not (is_lt (ordering_then (nat_cmp ab bb) (ordering_then (nat_cmp al bl) (nat_cmp ad bd)))) && not (is_lt (ordering_then (nat_cmp bb ab) (ordering_then (nat_cmp bl al) (nat_cmp bd ad))))) ≡ true))
by_numbers ab al ad bb bl bd up beaten =
    by_orders (nat_cmp ab bb) (nat_cmp al bl) (nat_cmp ad bd) (nat_cmp bb ab) (nat_cmp bl al) (nat_cmp bd ad) (nat_cmp_total.antisymm bb ab) (nat_cmp_total.antisymm bl al) (nat_cmp_total.antisymm bd ad) up
    (ap (λ (t : Bool). (t && is_eq (nat_cmp al bl)) && is_lt (nat_cmp ad bd)) (eq_is ab bb) ∙ ap (λ (t : Bool). ((ab == bb) && t) && is_lt (nat_cmp ad bd)) (eq_is al bl) ∙ ap (λ (t : Bool). ((ab == bb) && (al == bl)) && t) (lt_is ad bd) ∙ beaten)

-- a row behind another that doesn't beat it comes after it in a table
comes_after : (a b : BaseRow) → IsBehind a b → beats a b ≡ false → row_cmp a b ≡ Less
comes_after a b behind beaten = by_cases (by_numbers a.prefix.base a.prefix.len a.distance b.prefix.base b.prefix.len b.distance behind.0 beaten)
  where
    by_cases : (prefix_cmp a.prefix b.prefix ≡ Less) ⊎ ((prefix_cmp a.prefix b.prefix ≡ Equal) × (ties is_less a b ≡ true)) → row_cmp a b ≡ Less
    by_cases (inl less) = ap (λ (o : Ordering). ordering_then o (from_cmp a.from b.from)) less
    by_cases (inr tie) = ap (λ (o : Ordering). ordering_then o (from_cmp a.from b.from)) tie.0 ∙ behind.1 tie.1

-- ---- tables

not_beaten : (b : Bool) → not b ≡ true → b ≡ false
not_beaten true e = absurd cc
not_beaten false e = refl

any_in : (test : BaseRow → Bool) (rows : List BaseRow) (z : BaseRow) → In z rows → list_any test rows ≡ false → test z ≡ false
any_in test [] z i e = absurd i
any_in test (x ∷ rows) z (inl same) e = ap test (sym same) ∙ first (test x) (list_any test rows) e
  where
    first : (a b : Bool) → (a || b) ≡ false → a ≡ false
    first true b e = absurd cc
    first false b e = refl
any_in test (x ∷ rows) z (inr i) e = any_in test rows z i (second (test x) (list_any test rows) e)
  where
    second : (a b : Bool) → (a || b) ≡ false → b ≡ false
    second true b e = absurd cc
    second false b e = e

-- the order of places in a table is strict
equal_not_less : (o : Ordering) (p : Ordering) → p ≡ Less → ordering_then o p ≡ Equal → ⊥
equal_not_less Less p e f = absurd cc
equal_not_less Equal p e f = absurd cc
equal_not_less Greater p e f = absurd cc

module _ (rows sorted : List BaseRow) (moved : IsPermutation rows sorted) (ordered : IsSorted distance_cmp sorted) (stable : IsStableBy is_less rows sorted)
    (places : AllPairs (λ a b. from_cmp a.from b.from ≡ Less) rows) where
  by_place : Rises (λ a b. from_cmp a.from b.from ≡ Less) rows
  by_place = rises_by_pairs (λ a b. from_cmp a.from b.from ≡ Less) rows places

  tie_itself : (x : BaseRow) → ties is_less x x ≡ true
  tie_itself x = ap (λ (o : Ordering). not (is_lt o) && not (is_lt o)) (tied_itself distance_total x)

  by_ties : Rises (λ a b. ties is_less a b ≡ true → from_cmp a.from b.from ≡ Less) sorted
  by_ties = ties_rise (λ a b. from_cmp a.from b.from ≡ Less) (ties is_less) tie_itself sorted (λ w. subst (λ (l : List BaseRow). Rises (λ a b. from_cmp a.from b.from ≡ Less) l) (sym (stable w)) (rises_kept (λ a b. from_cmp a.from b.from ≡ Less) (ties is_less w) rows by_place))

  up_pairs : AllPairs (λ a b. is_less b a ≡ false) sorted
  up_pairs i j d lt within = sorted_far _ (ranks_by distance_total (λ (r : BaseRow). r)) sorted ordered i j d (omega arith) within

  join : (xs : List BaseRow) → Rises (λ a b. is_less b a ≡ false) xs → Rises (λ a b. ties is_less a b ≡ true → from_cmp a.from b.from ≡ Less) xs → Rises IsBehind xs
  join [] r s = tt
  join (x ∷ xs) r s = ((λ z i. (r.0 z i, s.0 z i)), join xs r.1 s.1)

  behind : Rises IsBehind sorted
  behind = join sorted (rises_by_pairs (λ a b. is_less b a ≡ false) sorted up_pairs) by_ties

  same_test : (x : BaseRow) → is_nearest sorted x ≡ is_nearest rows x
  same_test x = ap not (sym (list_any-IsPermutation (λ other. beats other x) rows sorted moved))

  there : (z : BaseRow) → In z rows → In z sorted
  there z i = in_by_contains sorted z (Contains-permutation rows sorted z moved (contains_by_in rows z i))

  back : (z : BaseRow) → In z sorted → In z rows
  back z i = in_by_contains rows z (Contains-permutation sorted rows z (IsPermutation-sym rows sorted moved) (contains_by_in sorted z i))

  ascends : Rises (λ a b. row_cmp a b ≡ Less) (filter (is_nearest sorted) sorted)
  ascends = rises_more IsBehind (λ a b. row_cmp a b ≡ Less) (filter (is_nearest sorted) sorted) (λ a b i j r. comes_after a b r (unbeaten a b (in_by_filter (is_nearest sorted) sorted a i).0 (in_by_filter (is_nearest sorted) sorted b j).1)) (rises_kept IsBehind (is_nearest sorted) sorted behind)
    where
      unbeaten : (a b : BaseRow) → In a sorted → is_nearest sorted b ≡ true → beats a b ≡ false
      unbeaten a b i e = any_in (λ other. beats other b) sorted a i (not_beaten (list_any (λ other. beats other b) sorted) e)

  apart : Rises (λ a b. row_cmp a b ≡ Equal → ⊥) (filter (is_nearest rows) rows)
  apart =
      rises_more (λ a b. from_cmp a.from b.from ≡ Less) (λ a b. row_cmp a b ≡ Equal → ⊥) (filter (is_nearest rows) rows) (λ a b i j r e. equal_not_less (prefix_cmp a.prefix b.prefix) (from_cmp a.from b.from) r e)
      (rises_kept (λ a b. from_cmp a.from b.from ≡ Less) (is_nearest rows) rows by_place)

  -- the nearest of the sorted rows are the nearest rows in order
  pub nearest_in_order : filter (is_nearest sorted) sorted ≡ in_order row_cmp (filter (is_nearest rows) rows)
  nearest_in_order = one_list row_cmp row_total (filter (is_nearest sorted) sorted) (in_order row_cmp (filter (is_nearest rows) rows)) ascends (in_order_ascends row_cmp row_total (filter (is_nearest rows) rows) apart) to from
    where
      to : (z : BaseRow) → In z (filter (is_nearest sorted) sorted) → In z (in_order row_cmp (filter (is_nearest rows) rows))
      to z i = let w = in_by_filter (is_nearest sorted) sorted z i in in_its_order row_cmp (filter (is_nearest rows) rows) z (in_filter (is_nearest rows) rows z (back z w.0) (sym (same_test z) ∙ w.1))

      from : (z : BaseRow) → In z (in_order row_cmp (filter (is_nearest rows) rows)) → In z (filter (is_nearest sorted) sorted)
      from z i = let w = in_by_filter (is_nearest rows) rows z (in_by_order row_cmp (filter (is_nearest rows) rows) z i) in in_filter (is_nearest sorted) sorted z (there z w.0) (same_test z ∙ w.1)

  -- and they stand in order
  pub nearest_sorted : IsSorted row_cmp (filter (is_nearest sorted) sorted)
  nearest_sorted k d lo hi = no_more (filter (is_nearest sorted) sorted) ascends k d hi
    where
      not_less : (x z : BaseRow) → row_cmp x z ≡ Less → is_lt (row_cmp z x) ≡ false
      not_less x z e = ap is_lt (row_total.antisymm z x ∙ ap ordering_reverse e)

      no_more : (xs : List BaseRow) → Rises (λ a b. row_cmp a b ≡ Less) xs → (k : ℕ) (d : BaseRow) → k + 1 < length xs → is_lt (row_cmp (get_or xs (k + 1) d) (get_or xs k d)) ≡ false
      no_more [] r k d lt = absurd (omega arith)
      no_more (x ∷ xs) r zero d lt = not_less x (get_or xs 0 d) (r.0 (get_or xs 0 d) (in_at xs 0 d (omega arith)))
      no_more (x ∷ xs) r (suc k) d lt =
          let e : suc k + 1 ≡ suc (k + 1) = omega arith in
          subst (λ (n : ℕ). is_lt (row_cmp (get_or (x ∷ xs) n d) (get_or (x ∷ xs) (suc k) d)) ≡ false) (sym e) (no_more xs r.1 k d (omega arith))
