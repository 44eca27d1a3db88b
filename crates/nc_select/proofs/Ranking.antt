-- Candidates by preference, those of one preference by their places: they stand in a strict order.
use Rattle.std.proofs.Common.{◌≡◌, ℕ, ◌+◌, ◌<◌, Bool, true, false, cond, List, [], ◌∷◌, length, refl, ap, arith}
use Rattle.std.specs.List.{AllByRecursion}
use Rattle.std.specs.List.Sorted.{IsStrictlySortedBy}
use Rattle.std.specs.Cmp.{IsTotalOrder}
use Rattle.std.specs.declared.cmp.Ordering.{Ordering}
use Rattle.std.specs.declared.cmp.Ordering.TheVariants.{Less, Equal, Greater}
use Rattle.std.specs.Ordering.{ordering_then, ordering_reverse, nat_cmp, is_gt}
use Rattle.std.proofs.lemmas.Bool.Decides.{nat_tests}
use Rattle.std.proofs.lemmas.Cmp.{nat_cmp_total, on_total, then_total, back_total}
use Rattle.std.proofs.lemmas.List.Elements.{All-weaker, All-from_recursion, recursion_from_All}
use Rattle.nc_tables.specs.declared.bgp.Chosen.{Chosen}
use Rattle.nc_tables.specs.Order.{insert, in_order}
use Rattle.nc_tables.specs.Choice.{class_of, origin_rank, internal_rank, preference_cmp, Ranked, ranked_from, by_preference}

-- ---- orders

pub preference_total : IsTotalOrder preference_cmp
unfolding preference_cmp
preference_total =
    then_total (on_total (λ (x : Chosen). class_of x.from) nat_cmp_total)
    (then_total (back_total (on_total (λ (x : Chosen). x.route.preference) nat_cmp_total))
    (then_total (on_total (λ (x : Chosen). length x.route.path) nat_cmp_total)
    (then_total (on_total (λ (x : Chosen). origin_rank x.route.origin) nat_cmp_total)
    (then_total (on_total (λ (x : Chosen). x.route.metric) nat_cmp_total)
    (then_total (on_total (λ (x : Chosen). internal_rank x.internal) nat_cmp_total)
    (then_total (on_total (λ (x : Chosen). x.sender_id.0) nat_cmp_total) (on_total (λ (x : Chosen). x.sender.0) nat_cmp_total)))))))

abbrev pub rank_cmp : Ranked → Ranked → Ordering
rank_cmp a b = preference_cmp a.candidate b.candidate

abbrev pub place_cmp : Ranked → Ranked → Ordering
place_cmp a b = ordering_then (rank_cmp a b) (nat_cmp a.place b.place)

pub place_total : IsTotalOrder place_cmp
place_total = then_total (on_total (λ (x : Ranked). x.candidate) preference_total) (on_total (λ (x : Ranked). x.place) nat_cmp_total)

-- ---- strict order

pub sorted_none : {X : Type 0} (cmp : X → X → Ordering) → IsStrictlySortedBy cmp []
unfolding IsStrictlySortedBy
sorted_none cmp = tt

pub sorted_more : {X : Type 0} (cmp : X → X → Ordering) (x : X) (xs : List X) → AllByRecursion (λ y. cmp x y ≡ Less) xs → IsStrictlySortedBy cmp xs → IsStrictlySortedBy cmp (x ∷ xs)
unfolding IsStrictlySortedBy
sorted_more cmp x xs below sorted = (below, sorted)

-- what holds of each item holds of each after a step
pub each_by : {X : Type 0} (P Q : X → Type 0) → ((x : X) → P x → Q x) → (xs : List X) → AllByRecursion P xs → AllByRecursion Q xs
each_by P Q step xs each = recursion_from_All Q xs (All-weaker P Q step xs (All-from_recursion P xs each))

pub each_inserted : {X : Type 0} (cmp : X → X → Ordering) (P : X → Type 0) (x : X) (ys : List X) → P x → AllByRecursion P ys → AllByRecursion P (insert cmp x ys)
each_inserted cmp P x [] p each = (p, tt)
each_inserted cmp P x (y ∷ ys) p each = by_test (each_inserted cmp P x ys p each.1) (is_gt (cmp x y))
  where
    by_test : AllByRecursion P (insert cmp x ys) → (b : Bool) → AllByRecursion P (cond b (y ∷ insert cmp x ys) (x ∷ y ∷ ys))
    by_test rest true = (each.0, rest)
    by_test rest false = (p, each)

pub each_in_order : {X : Type 0} (cmp : X → X → Ordering) (P : X → Type 0) (xs : List X) → AllByRecursion P xs → AllByRecursion P (in_order cmp xs)
each_in_order cmp P [] each = tt
each_in_order cmp P (x ∷ xs) each = each_inserted cmp P x (in_order cmp xs) each.0 (each_in_order cmp P xs each.1)

-- ---- candidates with their places

greater : (o p q : Ordering) → is_gt o ≡ true → p ≡ ordering_reverse o → ordering_then p q ≡ Less
greater Less p q e f = absurd cc
greater Equal p q e f = absurd cc
greater Greater p q e f = ap (λ (r : Ordering). ordering_then r q) f

below : (m n : ℕ) → m < n → nat_cmp m n ≡ Less
below m n lt = grind (arith, nat_tests)

no_greater : (o : Ordering) (m n : ℕ) → is_gt o ≡ false → m < n → ordering_then o (nat_cmp m n) ≡ Less
no_greater Less m n e lt = refl
no_greater Equal m n e lt = below m n lt
no_greater Greater m n e lt = absurd cc

-- one with a lower place than all others is put among them
sorted_inserted : (x : Ranked) (ys : List Ranked) → AllByRecursion (λ y. x.place < y.place) ys → IsStrictlySortedBy place_cmp ys → IsStrictlySortedBy place_cmp (insert rank_cmp x ys)
unfolding IsStrictlySortedBy
sorted_inserted x [] later sorted = (tt, tt)
sorted_inserted x (y ∷ ys) later sorted = by_test (sorted_inserted x ys later.1 sorted.1) (is_gt (rank_cmp x y)) refl
  where
    first : (z : Ranked) → place_cmp x y ≡ Less → place_cmp y z ≡ Less → place_cmp x z ≡ Less
    first z e f = place_total.trans x y z e f

    by_test : IsStrictlySortedBy place_cmp (insert rank_cmp x ys) → (b : Bool) → is_gt (rank_cmp x y) ≡ b → IsStrictlySortedBy place_cmp (cond b (y ∷ insert rank_cmp x ys) (x ∷ y ∷ ys))
    by_test rest true e = (each_inserted rank_cmp (λ z. place_cmp y z ≡ Less) x ys (greater (rank_cmp x y) (rank_cmp y x) (nat_cmp y.place x.place) e (preference_total.antisymm y.candidate x.candidate)) sorted.0, rest)
    by_test rest false e =
        let less : place_cmp x y ≡ Less = no_greater (rank_cmp x y) x.place y.place e later.0 in
        ((less, each_by (λ z. place_cmp y z ≡ Less) (λ z. place_cmp x z ≡ Less) (λ z f. first z less f) ys sorted.0), sorted)

later_places : (m n : ℕ) (candidates : List Chosen) → m < n → AllByRecursion (λ x. m < x.place) (ranked_from n candidates)
later_places m n [] lt = tt
later_places m n (c ∷ candidates) lt = (lt, later_places m (n + 1) candidates (omega arith))

ranked_sorted : (n : ℕ) (candidates : List Chosen) → IsStrictlySortedBy place_cmp (in_order rank_cmp (ranked_from n candidates))
ranked_sorted n [] = sorted_none place_cmp
ranked_sorted n (c ∷ candidates) =
    let first : Ranked = record { place = n; candidate = c } in
    sorted_inserted first (in_order rank_cmp (ranked_from (n + 1) candidates)) (each_in_order rank_cmp (λ x. n < x.place) (ranked_from (n + 1) candidates) (later_places n (n + 1) candidates (omega arith))) (ranked_sorted (n + 1) candidates)

-- candidates by preference stand in a strict order
pub sorted_by_preference : (candidates : List Chosen) → IsStrictlySortedBy place_cmp (by_preference candidates)
sorted_by_preference candidates = ranked_sorted 0 candidates
