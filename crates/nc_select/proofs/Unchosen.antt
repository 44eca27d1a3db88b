-- A candidate that isn't chosen doesn't count: without it the same are chosen, and with one more that the best of them beats.
use Rattle.std.proofs.Common.{◌≡◌, ◌⊎◌, ℕ, zero, suc, ◌+◌, ◌<◌, Bool, true, false, cond, List, [], ◌∷◌, ◌++◌, map, filter, take, Option, Some, option_to_list, refl, sym, ap, subst, ◌∙◌, arith, inl, inr}
use Rattle.std.specs.List.{AllByRecursion, cons_option, filter_map, slice_get}
use Rattle.std.specs.Cmp.{IsTotalOrder}
use Rattle.std.specs.declared.cmp.Ordering.{Ordering}
use Rattle.std.specs.declared.cmp.Ordering.TheVariants.{Less, Equal, Greater}
use Rattle.std.specs.Ordering.{is_gt, is_lt, ordering_reverse}
use Rattle.std.proofs.lemmas.Cmp.{upto}
use Rattle.nc_types.proofs.Members.{In}
use Rattle.nc_tables.specs.declared.bgp.Chosen.{Chosen}
use Rattle.nc_tables.specs.Order.{insert, in_order}
use Rattle.nc_tables.specs.Sessions.{first_of}
use Rattle.nc_tables.specs.Choice.{is_external, is_equal_to, preference_cmp, Ranked, ranked_from, by_preference, used_with, choose}
use Rattle.nc_select.proofs.Ranking.{preference_total, rank_cmp, each_by, each_inserted, each_in_order}

-- ---- lists in order, and one with an item more

-- a list has an item more than another
record HasMore {X : Type 0} (x : X) (less more : List X) : Type 0 where
  before : List X
  after : List X
  less_is : less ≡ before ++ after
  more_is : more ≡ before ++ x ∷ after

not_both : (o p : Ordering) → p ≡ ordering_reverse o → is_gt o ≡ true → is_gt p ≡ false
not_both Less p e f = absurd cc
not_both Equal p e f = absurd cc
not_both Greater p e f = ap is_gt e

module _ {X : Type 0} (cmp : X → X → Ordering) (total : IsTotalOrder cmp) where
  abbrev IsUpto : X → X → Type 0
  IsUpto x y = is_gt (cmp x y) ≡ false

  -- none comes before one that it exceeds
  abbrev IsUp : List X → Type 0
  IsUp [] = Unit {0}
  IsUp (x ∷ xs) = AllByRecursion (IsUpto x) xs × IsUp xs

  up_inserted : (x : X) (ys : List X) → IsUp ys → IsUp (insert cmp x ys)
  up_inserted x [] up = (tt, tt)
  up_inserted x (y ∷ ys) up = by_test (up_inserted x ys up.1) (is_gt (cmp x y)) refl
    where
      by_test : IsUp (insert cmp x ys) → (b : Bool) → is_gt (cmp x y) ≡ b → IsUp (cond b (y ∷ insert cmp x ys) (x ∷ y ∷ ys))
      by_test rest true e = (each_inserted cmp (IsUpto y) x ys (not_both (cmp x y) (cmp y x) (total.antisymm y x) e) up.0, rest)
      by_test rest false e = ((e, each_by (IsUpto y) (IsUpto x) (λ z f. upto total x y z e f) ys up.0), up)

  in_order_up : (xs : List X) → IsUp (in_order cmp xs)
  in_order_up [] = tt
  in_order_up (x ∷ xs) = up_inserted x (in_order cmp xs) (in_order_up xs)

  more_inserted : (x : X) (ys : List X) → HasMore x ys (insert cmp x ys)
  more_inserted x [] = record { before = []; after = []; less_is = refl; more_is = refl }
  more_inserted x (y ∷ ys) = by_test (more_inserted x ys) (is_gt (cmp x y))
    where
      by_test : HasMore x ys (insert cmp x ys) → (b : Bool) → HasMore x (y ∷ ys) (cond b (y ∷ insert cmp x ys) (x ∷ y ∷ ys))
      by_test rest true = record { before = y ∷ rest.before; after = rest.after; less_is = ap (λ (l : List X). y ∷ l) rest.less_is; more_is = ap (λ (l : List X). y ∷ l) rest.more_is }
      by_test rest false = record { before = []; after = y ∷ ys; less_is = refl; more_is = refl }

  no_further : (a x : X) (ys : List X) → is_gt (cmp a x) ≡ false → AllByRecursion (IsUpto x) ys → insert cmp a ys ≡ a ∷ ys
  no_further a x [] e each = refl
  no_further a x (y ∷ ys) e each = ap (λ (b : Bool). cond b (y ∷ insert cmp a ys) (a ∷ y ∷ ys)) (upto total a x y e each.0)

  -- the same is inserted into both
  inserted_both : (a x : X) (before after : List X) → IsUp (before ++ x ∷ after) → HasMore x (insert cmp a (before ++ after)) (insert cmp a (before ++ x ∷ after))
  inserted_both a x [] after up = by_test (is_gt (cmp a x)) refl
    where
      by_test : (b : Bool) → is_gt (cmp a x) ≡ b → HasMore x (insert cmp a after) (cond b (x ∷ insert cmp a after) (a ∷ x ∷ after))
      by_test true e = record { before = []; after = insert cmp a after; less_is = refl; more_is = refl }
      by_test false e = record { before = a ∷ []; after = after; less_is = no_further a x after e up.0; more_is = refl }
  inserted_both a x (u ∷ before) after up = by_test (inserted_both a x before after up.1) (is_gt (cmp a u))
    where
      by_test : HasMore x (insert cmp a (before ++ after)) (insert cmp a (before ++ x ∷ after)) → (b : Bool)
          → HasMore x (cond b (u ∷ insert cmp a (before ++ after)) (a ∷ u ∷ (before ++ after))) (cond b (u ∷ insert cmp a (before ++ x ∷ after)) (a ∷ u ∷ (before ++ x ∷ after)))
      by_test rest true = record { before = u ∷ rest.before; after = rest.after; less_is = ap (λ (l : List X). u ∷ l) rest.less_is; more_is = ap (λ (l : List X). u ∷ l) rest.more_is }
      by_test rest false = record { before = a ∷ u ∷ before; after = after; less_is = refl; more_is = refl }

  -- in order a list with an item more is one with an item more
  more_in_order : (front : List X) (x : X) (back : List X) → HasMore x (in_order cmp (front ++ back)) (in_order cmp (front ++ x ∷ back))
  more_in_order [] x back = more_inserted x (in_order cmp back)
  more_in_order (a ∷ front) x back =
      let rest = more_in_order front x back in
      subst (λ (l : List X). HasMore x (insert cmp a l) (insert cmp a (in_order cmp (front ++ x ∷ back)))) (sym rest.less_is)
      (subst (λ (l : List X). HasMore x (insert cmp a (rest.before ++ rest.after)) (insert cmp a l)) (sym rest.more_is)
      (inserted_both a x rest.before rest.after (subst IsUp rest.more_is (in_order_up (front ++ x ∷ back)))))

-- ---- candidates that are used, of those by preference

abbrev used : ℕ → Bool → List Chosen → List Chosen
used limit relax [] = []
used limit relax (best ∷ others) = cond (is_external best) (take limit (best ∷ filter (is_equal_to relax best) others)) (best ∷ [])

module _ {X : Type 0} (test : X → Bool) (x : X) where
  -- what isn't taken may be missing
  taken_without : (n : ℕ) (before after : List X) → (In x (take n (filter test (before ++ x ∷ after))) → ⊥) → take n (filter test (before ++ after)) ≡ take n (filter test (before ++ x ∷ after))
  taken_without zero before after out = refl
  taken_without (suc n) [] after out = by_test (test x) out
    where
      by_test : (b : Bool) → (In x (take (suc n) (cond b (x ∷ filter test after) (filter test after))) → ⊥) → take (suc n) (filter test after) ≡ take (suc n) (cond b (x ∷ filter test after) (filter test after))
      by_test true out = absurd (out (inl refl))
      by_test false out = refl
  taken_without (suc n) (u ∷ before) after out = by_test (taken_without n before after) (taken_without (suc n) before after) (test u) out
    where
      by_test : ((In x (take n (filter test (before ++ x ∷ after))) → ⊥) → take n (filter test (before ++ after)) ≡ take n (filter test (before ++ x ∷ after)))
          → ((In x (take (suc n) (filter test (before ++ x ∷ after))) → ⊥) → take (suc n) (filter test (before ++ after)) ≡ take (suc n) (filter test (before ++ x ∷ after)))
          → (b : Bool) → (In x (take (suc n) (cond b (u ∷ filter test (before ++ x ∷ after)) (filter test (before ++ x ∷ after)))) → ⊥)
          → take (suc n) (cond b (u ∷ filter test (before ++ after)) (filter test (before ++ after))) ≡ take (suc n) (cond b (u ∷ filter test (before ++ x ∷ after)) (filter test (before ++ x ∷ after)))
      by_test passed failed true out = ap (λ (l : List X). u ∷ l) (passed (λ i. out (inr i)))
      by_test passed failed false out = failed out

  -- so may what fails
  passing_without : (before after : List X) → test x ≡ false → filter test (before ++ after) ≡ filter test (before ++ x ∷ after)
  passing_without [] after e = sym (ap (λ (b : Bool). cond b (x ∷ filter test after) (filter test after)) e)
  passing_without (u ∷ before) after e = ap (λ (l : List X). cond (test u) (u ∷ l) l) (passing_without before after e)

-- the best comes first
best_is : (m : ℕ) (relax : Bool) (u : Chosen) (us : List Chosen) (best : Chosen) (others : List Chosen) → used (suc m) relax (u ∷ us) ≡ best ∷ others → u ≡ best
best_is m relax u us best others e = by_test (is_external u) e
  where
    by_test : (b : Bool) → cond b (take (suc m) (u ∷ filter (is_equal_to relax u) us)) (u ∷ []) ≡ best ∷ others → u ≡ best
    by_test true e = cc
    by_test false e = cc

-- what isn't used may be missing
used_without : (m : ℕ) (relax : Bool) (x : Chosen) (before after : List Chosen) → (In x (used (suc m) relax (before ++ x ∷ after)) → ⊥) → used (suc m) relax (before ++ after) ≡ used (suc m) relax (before ++ x ∷ after)
used_without m relax x [] after out = absurd (out (by_test (is_external x)))
  where
    by_test : (b : Bool) → In x (cond b (take (suc m) (x ∷ filter (is_equal_to relax x) after)) (x ∷ []))
    by_test true = inl refl
    by_test false = inl refl
used_without m relax x (u ∷ before) after out = by_test (is_external u) out
  where
    by_test : (b : Bool) → (In x (cond b (take (suc m) (u ∷ filter (is_equal_to relax u) (before ++ x ∷ after))) (u ∷ [])) → ⊥)
        → cond b (take (suc m) (u ∷ filter (is_equal_to relax u) (before ++ after))) (u ∷ []) ≡ cond b (take (suc m) (u ∷ filter (is_equal_to relax u) (before ++ x ∷ after))) (u ∷ [])
    by_test true out = ap (λ (l : List Chosen). u ∷ l) (taken_without (is_equal_to relax u) x m before after (λ i. out (inr i)))
    by_test false out = refl

less_is_lt : (o p : Ordering) → p ≡ ordering_reverse o → is_lt o ≡ true → is_gt p ≡ true
less_is_lt Less p e f = ap is_gt e
less_is_lt Equal p e f = absurd cc
less_is_lt Greater p e f = absurd cc

-- so may what the best beats, where one alone is used or it isn't front good
used_beside : (m : ℕ) (relax : Bool) (x : Chosen) (before after : List Chosen) (best : Chosen) (others : List Chosen) → IsUp preference_cmp preference_total (before ++ x ∷ after) → used (suc m) relax (before ++ after) ≡ best ∷ others
    → is_lt (preference_cmp best x) ≡ true → (m ≡ 0) ⊎ (is_equal_to relax best x ≡ false) → used (suc m) relax (before ++ after) ≡ used (suc m) relax (before ++ x ∷ after)
used_beside m relax x [] [] best others up is lt apart = absurd cc
used_beside m relax x [] (v ∷ after) best others up is lt apart =
    let same : v ≡ best = best_is m relax v after best others is in
    let gt : is_gt (preference_cmp x v) ≡ true = ap (λ (c : Chosen). is_gt (preference_cmp x c)) same ∙ less_is_lt (preference_cmp best x) (preference_cmp x best) (preference_total.antisymm x best) lt in
    let no : is_gt (preference_cmp x v) ≡ false = up.0.0 in
    absurd cc
used_beside m relax x (u ∷ before) after best others up is lt apart = by_apart apart
  where
    all : List Chosen → List Chosen
    all l = cond (is_external u) (take (suc m) (u ∷ filter (is_equal_to relax u) l)) (u ∷ [])

    only : (l k : List Chosen) (b : Bool) → m ≡ 0 → cond b (take (suc m) (u ∷ filter (is_equal_to relax u) l)) (u ∷ []) ≡ cond b (take (suc m) (u ∷ filter (is_equal_to relax u) k)) (u ∷ [])
    only l k true e = ap (λ (n : ℕ). u ∷ take n (filter (is_equal_to relax u) l)) e ∙ sym (ap (λ (n : ℕ). u ∷ take n (filter (is_equal_to relax u) k)) e)
    only l k false e = refl

    by_apart : (m ≡ 0) ⊎ (is_equal_to relax best x ≡ false) → used (suc m) relax (u ∷ (before ++ after)) ≡ used (suc m) relax (u ∷ (before ++ x ∷ after))
    by_apart (inl e) = only (before ++ after) (before ++ x ∷ after) (is_external u) e
    by_apart (inr e) =
        ap (λ (l : List Chosen). cond (is_external u) (take (suc m) (u ∷ l)) (u ∷ []))
        (passing_without (is_equal_to relax u) x before after (ap (λ (c : Chosen). is_equal_to relax c x) (best_is m relax u (before ++ after) best others is) ∙ e))

-- ---- chosen candidates, by their places or not

abbrev candidate_of : Ranked → Chosen
candidate_of x = x.candidate

inserted_candidates : (x : Ranked) (ys : List Ranked) → map candidate_of (insert rank_cmp x ys) ≡ insert preference_cmp x.candidate (map candidate_of ys)
inserted_candidates x [] = refl
inserted_candidates x (y ∷ ys) = by_test (inserted_candidates x ys) (is_gt (rank_cmp x y))
  where
    by_test : map candidate_of (insert rank_cmp x ys) ≡ insert preference_cmp x.candidate (map candidate_of ys) → (b : Bool)
        → map candidate_of (cond b (y ∷ insert rank_cmp x ys) (x ∷ y ∷ ys)) ≡ cond b (y.candidate ∷ insert preference_cmp x.candidate (map candidate_of ys)) (x.candidate ∷ y.candidate ∷ map candidate_of ys)
    by_test rest true = ap (λ (l : List Chosen). y.candidate ∷ l) rest
    by_test rest false = refl

ordered_candidates : (xs : List Ranked) → map candidate_of (in_order rank_cmp xs) ≡ in_order preference_cmp (map candidate_of xs)
ordered_candidates [] = refl
ordered_candidates (x ∷ xs) = inserted_candidates x (in_order rank_cmp xs) ∙ ap (insert preference_cmp x.candidate) (ordered_candidates xs)

ranked_candidates : (n : ℕ) (cs : List Chosen) → map candidate_of (ranked_from n cs) ≡ cs
ranked_candidates n [] = refl
ranked_candidates n (c ∷ cs) = ap (λ (l : List Chosen). c ∷ l) (ranked_candidates (n + 1) cs)

taken_candidates : (n : ℕ) (xs : List Ranked) → map candidate_of (take n xs) ≡ take n (map candidate_of xs)
taken_candidates zero xs = refl
taken_candidates (suc n) [] = refl
taken_candidates (suc n) (x ∷ xs) = ap (λ (l : List Chosen). x.candidate ∷ l) (taken_candidates n xs)

passing_candidates : (test : Chosen → Bool) (xs : List Ranked) → map candidate_of (filter (λ x. test x.candidate) xs) ≡ filter test (map candidate_of xs)
passing_candidates test [] = refl
passing_candidates test (x ∷ xs) = by_test (passing_candidates test xs) (test x.candidate)
  where
    by_test : map candidate_of (filter (λ x. test x.candidate) xs) ≡ filter test (map candidate_of xs) → (b : Bool)
        → map candidate_of (cond b (x ∷ filter (λ x. test x.candidate) xs) (filter (λ x. test x.candidate) xs)) ≡ cond b (x.candidate ∷ filter test (map candidate_of xs)) (filter test (map candidate_of xs))
    by_test rest true = ap (λ (l : List Chosen). x.candidate ∷ l) rest
    by_test rest false = rest

used_candidates : (limit : ℕ) (relax : Bool) (xs : List Ranked) → map candidate_of (used_with limit relax xs) ≡ used limit relax (map candidate_of xs)
used_candidates limit relax [] = refl
used_candidates limit relax (x ∷ xs) = by_test (is_external x.candidate)
  where
    by_test : (b : Bool) → map candidate_of (cond b (take limit (x ∷ filter (λ y. is_equal_to relax x.candidate y.candidate) xs)) (x ∷ []))
        ≡ cond b (take limit (x.candidate ∷ filter (is_equal_to relax x.candidate) (map candidate_of xs))) (x.candidate ∷ [])
    by_test true = taken_candidates limit (x ∷ filter (λ y. is_equal_to relax x.candidate y.candidate) xs) ∙ ap (λ (l : List Chosen). take limit (x.candidate ∷ l)) (passing_candidates (is_equal_to relax x.candidate) xs)
    by_test false = refl

-- a candidate stands at its place
abbrev Stands : List Chosen → Ranked → Type 0
Stands cs x = slice_get cs x.place ≡ Some x.candidate

read_candidates : (cs : List Chosen) (xs : List Ranked) → AllByRecursion (Stands cs) xs → filter_map (slice_get cs) (map (λ x. x.place) xs) ≡ map candidate_of xs
read_candidates cs [] each = refl
read_candidates cs (x ∷ xs) each =
    ap (λ (o : Option Chosen). cons_option o (filter_map (slice_get cs) (map (λ x. x.place) xs))) each.0 ∙ ap (λ (l : List Chosen). x.candidate ∷ l) (read_candidates cs xs each.1)

each_taken : {X : Type 0} (P : X → Type 0) (n : ℕ) (xs : List X) → AllByRecursion P xs → AllByRecursion P (take n xs)
each_taken P zero xs each = tt
each_taken P (suc n) [] each = tt
each_taken P (suc n) (x ∷ xs) each = (each.0, each_taken P n xs each.1)

each_passing : {X : Type 0} (P : X → Type 0) (test : X → Bool) (xs : List X) → AllByRecursion P xs → AllByRecursion P (filter test xs)
each_passing P test [] each = tt
each_passing P test (x ∷ xs) each = by_test (each_passing P test xs each.1) (test x)
  where
    by_test : AllByRecursion P (filter test xs) → (b : Bool) → AllByRecursion P (cond b (x ∷ filter test xs) (filter test xs))
    by_test rest true = (each.0, rest)
    by_test rest false = rest

each_used : (P : Ranked → Type 0) (limit : ℕ) (relax : Bool) (xs : List Ranked) → AllByRecursion P xs → AllByRecursion P (used_with limit relax xs)
each_used P limit relax [] each = tt
each_used P limit relax (x ∷ xs) each = by_test (is_external x.candidate)
  where
    by_test : (b : Bool) → AllByRecursion P (cond b (take limit (x ∷ filter (λ y. is_equal_to relax x.candidate y.candidate) xs)) (x ∷ []))
    by_test true = each_taken P limit (x ∷ filter (λ y. is_equal_to relax x.candidate y.candidate) xs) (each.0, each_passing P (λ y. is_equal_to relax x.candidate y.candidate) xs each.1)
    by_test false = (each.0, tt)

each_ranked : (n : ℕ) (cs ds : List Chosen) → ((k : ℕ) → slice_get ds k ≡ slice_get cs (n + k)) → AllByRecursion (Stands cs) (ranked_from n ds)
each_ranked n cs [] same = tt
each_ranked n cs (d ∷ ds) same =
    let here : n + 0 ≡ n = omega arith in
    (ap (slice_get cs) (sym here) ∙ sym (same 0), each_ranked (n + 1) cs ds (λ k. let on : n + suc k ≡ (n + 1) + k = omega arith in same (suc k) ∙ ap (slice_get cs) on))

-- what is chosen of candidates
abbrev pub chosen_of : ℕ → Bool → List Chosen → List Chosen
chosen_of limit relax cs = filter_map (slice_get cs) (choose cs limit relax)

chosen_is : (limit : ℕ) (relax : Bool) (cs : List Chosen) → chosen_of limit relax cs ≡ used limit relax (in_order preference_cmp cs)
unfolding choose
chosen_is limit relax cs =
    read_candidates cs (used_with limit relax (by_preference cs))
    (each_used (Stands cs) limit relax (by_preference cs) (each_in_order rank_cmp (Stands cs) (ranked_from 0 cs) (each_ranked 0 cs cs (λ k. let same : k ≡ 0 + k = omega arith in ap (slice_get cs) same))))
    ∙ used_candidates limit relax (by_preference cs) ∙ ap (used limit relax) (ordered_candidates (ranked_from 0 cs) ∙ ap (in_order preference_cmp) (ranked_candidates 0 cs))

-- ---- candidates that don't count

-- one that isn't chosen
pub chosen_without : (limit : ℕ) (relax : Bool) → 0 < limit → (front : List Chosen) (x : Chosen) (back : List Chosen) → (In x (chosen_of limit relax (front ++ x ∷ back)) → ⊥) → chosen_of limit relax (front ++ back) ≡ chosen_of limit relax (front ++ x ∷ back)
chosen_without zero relax some front x back out = absurd (omega arith)
chosen_without (suc m) relax some front x back out =
    let more = more_in_order preference_cmp preference_total front x back in
    let all : chosen_of (suc m) relax (front ++ x ∷ back) ≡ used (suc m) relax (more.before ++ x ∷ more.after) = chosen_is (suc m) relax (front ++ x ∷ back) ∙ ap (used (suc m) relax) more.more_is in
    chosen_is (suc m) relax (front ++ back) ∙ ap (used (suc m) relax) more.less_is ∙ used_without m relax x more.before more.after (λ i. out (subst (In x) (sym all) i)) ∙ sym all

-- one that the best beats, where one alone is chosen or it isn't as good
pub chosen_beside : (limit : ℕ) (relax : Bool) → 0 < limit → (front : List Chosen) (x : Chosen) (back : List Chosen) (best : Chosen) (others : List Chosen) → chosen_of limit relax (front ++ back) ≡ best ∷ others
    → is_lt (preference_cmp best x) ≡ true → (limit ≡ 1) ⊎ (is_equal_to relax best x ≡ false) → chosen_of limit relax (front ++ back) ≡ chosen_of limit relax (front ++ x ∷ back)
chosen_beside zero relax some front x back best others is lt apart = absurd (omega arith)
chosen_beside (suc m) relax some front x back best others is lt apart =
    let more = more_in_order preference_cmp preference_total front x back in
    let less : chosen_of (suc m) relax (front ++ back) ≡ used (suc m) relax (more.before ++ more.after) = chosen_is (suc m) relax (front ++ back) ∙ ap (used (suc m) relax) more.less_is in
    less
    ∙ used_beside m relax x more.before more.after best others (subst (IsUp preference_cmp preference_total) more.more_is (in_order_up preference_cmp preference_total (front ++ x ∷ back))) (sym less ∙ is) lt (by_apart apart)
    ∙ sym (chosen_is (suc m) relax (front ++ x ∷ back) ∙ ap (used (suc m) relax) more.more_is)
  where
    by_apart : (suc m ≡ 1) ⊎ (is_equal_to relax best x ≡ false) → (m ≡ 0) ⊎ (is_equal_to relax best x ≡ false)
    by_apart (inl e) = inl (omega arith)
    by_apart (inr e) = inr e

-- ---- one alone

used_alone : (relax : Bool) (xs : List Chosen) → used 1 relax xs ≡ option_to_list (first_of xs)
used_alone relax [] = refl
used_alone relax (x ∷ xs) = by_test (is_external x)
  where
    by_test : (b : Bool) → cond b (take 1 (x ∷ filter (is_equal_to relax x) xs)) (x ∷ []) ≡ x ∷ []
    by_test true = refl
    by_test false = refl

-- where one alone is used it is the first by preference
pub chosen_single : (limit : ℕ) (relax : Bool) (cs : List Chosen) → limit ≡ 1 → chosen_of limit relax cs ≡ option_to_list (first_of (in_order preference_cmp cs))
chosen_single limit relax cs one =
    chosen_is limit relax cs ∙ ap (λ (n : ℕ). used n relax (in_order preference_cmp cs)) one ∙ used_alone relax (in_order preference_cmp cs)
