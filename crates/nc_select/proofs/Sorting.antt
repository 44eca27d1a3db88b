-- A sort of the senders of those as good as the best gives them in the order of preference.
use Rattle.std.proofs.Common.{◌≡◌, ℕ, ◌+◌, ◌<◌, Bool, true, false, cond, List, [], ◌∷◌, map, filter, get_or, refl, sym, ap, subst, ◌∙◌, arith}
use Rattle.std.specs.List.{AllByRecursion, IsDistinct, list_any}
use Rattle.std.specs.List.Sorted.{IsPermutation, IsSorted, IsStrictlySortedBy}
use Rattle.std.specs.Cmp.{IsTotalOrder}
use Rattle.std.specs.declared.cmp.Ordering.{Ordering}
use Rattle.std.specs.declared.cmp.Ordering.TheVariants.{Less, Equal, Greater}
use Rattle.std.specs.Ordering.{ordering_then, ordering_reverse, nat_cmp, is_lt, is_eq, eq_by_cmp}
use Rattle.std.proofs.lemmas.Bool.Decides.{nat_tests}
use Rattle.std.proofs.lemmas.Cmp.{nat_cmp_total, on_total, then_total, eq_by_cmp_equiv}
use Rattle.std.proofs.lemmas.List.Sorted.{list_any-IsPermutation}
use Rattle.std.proofs.lemmas.Map.Keys.{IsDistinct-cons, IsDistinct-IsPermutation, apart_from_distinct, sorted_from_all_adjacent}
use Rattle.std.proofs.lemmas.Map.Lookups.{CmpEqualImpliesEq, exact_unsigned, exact_pairs, btree_set_from_contains}
use Rattle.nc_types.proofs.Truth.{same_truth}
use Rattle.nc_types.proofs.Members.{In, some_passes, passes_some, in_filter, in_by_filter, in_map, in_by_map}
use Rattle.nc_tables.specs.declared.bgp.Chosen.{Chosen}
use Rattle.nc_tables.specs.Choice.{is_equal_to, Ranked, ranked_from, by_preference}
use Rattle.nc_tables.proofs.Ordered.{in_by_order, in_its_order}
use Rattle.nc_select.specs.declared.choice.Sender.{Sender}
use Rattle.nc_select.specs.Senders.{sender_of, senders_from}
use Rattle.nc_select.proofs.Ranking.{rank_cmp, each_by}
use Rattle.nc_select.proofs.Alike.{sender_cmp, is_equal, senders_sorted}

sender_total : IsTotalOrder sender_cmp
sender_total =
    then_total (on_total (λ (s : Sender). s.id.0) nat_cmp_total)
    (then_total (on_total (λ (s : Sender). s.address.0) nat_cmp_total) (on_total (λ (s : Sender). s.place) nat_cmp_total))

-- senders that tie are one
sender_exact : CmpEqualImpliesEq sender_cmp
sender_exact a b e =
    let p = exact_pairs nat_cmp (λ (x y : ℕ × ℕ). ordering_then (nat_cmp x.0 y.0) (nat_cmp x.1 y.1)) exact_unsigned (exact_pairs nat_cmp nat_cmp exact_unsigned exact_unsigned) (a.id.0, (a.address.0, a.place)) (b.id.0, (b.address.0, b.place)) e in
    ap (λ (t : ℕ × (ℕ × ℕ)). record { id = record { 0 = t.0 }; address = record { 0 = t.1.0 }; place = t.1.1 }) p

-- two lists in strict order that have the same members are one
one_list : (xs ys : List Sender) → IsStrictlySortedBy sender_cmp xs → IsStrictlySortedBy sender_cmp ys → ((test : Sender → Bool) → list_any test xs ≡ list_any test ys) → xs ≡ ys
one_list xs ys s t same = btree_set_from_contains sender_total (record { keys = xs }) (record { keys = ys }) s t (λ q. same _) sender_exact

-- ---- senders that differ

apart : (i j a b m n : ℕ) → m < n → is_eq (ordering_then (nat_cmp i j) (ordering_then (nat_cmp a b) (nat_cmp m n))) ≡ false
apart i j a b m n lt = grind (arith, nat_tests)

eq_back : (a b : Sender) → eq_by_cmp sender_cmp a b ≡ eq_by_cmp sender_cmp b a
eq_back a b = (eq_by_cmp_equiv sender_total).symm a b

-- a sort of senders that differ puts them in strict order
strictly : (xs : List Sender) → IsSorted sender_cmp xs → IsDistinct (eq_by_cmp sender_cmp) xs → IsStrictlySortedBy sender_cmp xs
strictly xs sorted distinct =
    sorted_from_all_adjacent sender_total xs none (λ k lt. by_order (sender_cmp (get_or xs k none) (get_or xs (k + 1) none)) (sender_cmp (get_or xs (k + 1) none) (get_or xs k none)) (sender_total.antisymm (get_or xs (k + 1) none) (get_or xs k none)) (sorted k none (omega arith) lt) (apart_from_distinct (eq_by_cmp sender_cmp) xs k (k + 1) none distinct (omega arith) lt))
  where
    none : Sender
    none = record { id = record { 0 = 0 }; address = record { 0 = 0 }; place = 0 }

    by_order : (o p : Ordering) → p ≡ ordering_reverse o → is_lt p ≡ false → is_eq o ≡ false → o ≡ Less
    by_order Less p e f g = refl
    by_order Equal p e f g = absurd cc
    by_order Greater p e f g = let h : is_lt p ≡ true = ap is_lt e in absurd cc

module _ (relax : Bool) (best : Chosen) where
  later_senders : (m n : ℕ) (candidates : List Chosen) → m < n → AllByRecursion (λ s. m < s.place) (senders_from relax best n candidates)
  later_senders m n [] lt = tt
  later_senders m n (c ∷ candidates) lt = by_test (later_senders m (n + 1) candidates (omega arith)) (is_equal_to relax best c)
    where
      by_test : AllByRecursion (λ s. m < s.place) (senders_from relax best (n + 1) candidates) → (b : Bool)
          → AllByRecursion (λ s. m < s.place) (map sender_of (cond b (record { place = n; candidate = c } ∷ filter (is_equal relax best) (ranked_from (n + 1) candidates)) (filter (is_equal relax best) (ranked_from (n + 1) candidates))))
      by_test rest true = (lt, rest)
      by_test rest false = rest

  senders_differ : (n : ℕ) (candidates : List Chosen) → IsDistinct (eq_by_cmp sender_cmp) (senders_from relax best n candidates)
  unfolding IsDistinct
  senders_differ n [] = tt
  senders_differ n (c ∷ candidates) = by_test (senders_differ (n + 1) candidates) (is_equal_to relax best c)
    where
      differs : (s : Sender) → n < s.place → eq_by_cmp sender_cmp (sender_of (record { place = n; candidate = c })) s ≡ false
      differs s lt = apart c.sender_id.0 s.id.0 c.sender.0 s.address.0 n s.place lt

      by_test : IsDistinct (eq_by_cmp sender_cmp) (senders_from relax best (n + 1) candidates) → (b : Bool)
          → IsDistinct (eq_by_cmp sender_cmp) (map sender_of (cond b (record { place = n; candidate = c } ∷ filter (is_equal relax best) (ranked_from (n + 1) candidates)) (filter (is_equal relax best) (ranked_from (n + 1) candidates))))
      by_test rest true = IsDistinct-cons (eq_by_cmp sender_cmp) (sender_of (record { place = n; candidate = c })) (senders_from relax best (n + 1) candidates) (each_by (λ s. n < s.place) (λ s. eq_by_cmp sender_cmp (sender_of (record { place = n; candidate = c })) s ≡ false) differs (senders_from relax best (n + 1) candidates) (later_senders n (n + 1) candidates (omega arith))) rest
      by_test rest false = rest

  -- ---- the sort

  same_any : (test : Sender → Bool) (xs ys : List Sender) → ((z : Sender) → In z xs → In z ys) → ((z : Sender) → In z ys → In z xs) → list_any test xs ≡ list_any test ys
  same_any test xs ys there back =
      same_truth (list_any test xs) (list_any test ys) (λ e. let r = some_passes test xs e in passes_some test ys r.0 (there r.0 r.1) r.2) (λ e. let r = some_passes test ys e in passes_some test xs r.0 (back r.0 r.1) r.2)

  -- what is made of those that pass has the members that it has of a list with the same members
  members : (xs ys : List Ranked) → ((x : Ranked) → In x xs → In x ys) → (z : Sender) → In z (map sender_of (filter (is_equal relax best) xs)) → In z (map sender_of (filter (is_equal relax best) ys))
  members xs ys there z i =
      let r = in_by_map sender_of (filter (is_equal relax best) xs) z i in
      let q = in_by_filter (is_equal relax best) xs r.0 r.1 in
      subst (λ (s : Sender). In s (map sender_of (filter (is_equal relax best) ys))) r.2 (in_map sender_of (filter (is_equal relax best) ys) r.0 (in_filter (is_equal relax best) ys r.0 (there r.0 q.0) q.1))

  pub sorted_is : (candidates : List Chosen) (sorted : List Sender) → IsPermutation (senders_from relax best 0 candidates) sorted → IsSorted sender_cmp sorted → sorted ≡ map sender_of (filter (is_equal relax best) (by_preference candidates))
  sorted_is candidates sorted moved ordered =
      one_list sorted (map sender_of (filter (is_equal relax best) (by_preference candidates)))
      (strictly sorted ordered (IsDistinct-IsPermutation (eq_by_cmp sender_cmp) eq_back (senders_from relax best 0 candidates) sorted moved (senders_differ 0 candidates)))
      (senders_sorted relax best candidates)
      (λ test. sym (list_any-IsPermutation test (senders_from relax best 0 candidates) sorted moved)
      ∙ same_any test (senders_from relax best 0 candidates) (map sender_of (filter (is_equal relax best) (by_preference candidates)))
      (members (ranked_from 0 candidates) (by_preference candidates) (λ x i. in_its_order rank_cmp (ranked_from 0 candidates) x i))
      (members (by_preference candidates) (ranked_from 0 candidates) (λ x i. in_by_order rank_cmp (ranked_from 0 candidates) x i)))
