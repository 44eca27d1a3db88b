-- Candidates that are as good as the best differ in their senders and places alone, and stand in the order of these.
use Rattle.std.proofs.Common.{◌≡◌, ℕ, Bool, true, false, not, ◌&&◌, ◌==◌, List, [], ◌∷◌, length, map, filter, refl, sym, ap, ◌∙◌, eq-eqb, eqb-true}
use Rattle.std.specs.List.{AllByRecursion}
use Rattle.std.specs.List.Sorted.{IsStrictlySortedBy}
use Rattle.std.specs.declared.cmp.Ordering.{Ordering}
use Rattle.std.specs.declared.cmp.Ordering.TheVariants.{Less, Equal, Greater}
use Rattle.std.specs.Ordering.{ordering_then, nat_cmp}
use Rattle.std.proofs.lemmas.List.Kept.{IsStrictlySortedBy-filter}
use Rattle.std.proofs.lemmas.List.Elements.{filter_passes, recursion_from_All}
use Rattle.std.proofs.lemmas.Map.Keys.{sorted_head, sorted_tail}
use Rattle.std.proofs.lemmas.Slice.Eq.{bytes_eq-Decides}
use Rattle.nc_tables.specs.declared.bgp.Chosen.{Chosen}
use Rattle.nc_tables.specs.declared.bgp.BgpFrom.{BgpFrom}
use Rattle.nc_tables.specs.declared.bgp.BgpFrom.TheVariants.{Origin, Aggregate, Entry}
use Rattle.nc_tables.specs.Choice.{class_of, origin_rank, internal_rank, is_learnt, is_external, is_equal_to, same_path, preference_cmp, Ranked, by_preference}
use Rattle.nc_tables.proofs.SessionOrder.{tied_at}
use Rattle.nc_select.specs.declared.choice.Sender.{Sender}
use Rattle.nc_select.specs.Senders.{sender_of}
use Rattle.nc_select.proofs.Ranking.{place_cmp, sorted_none, sorted_more, sorted_by_preference}

-- ---- what those as good as the best share

record IsAsGood (best x : Chosen) : Type 0 where
  class : class_of x.from ≡ 2
  internal : internal_rank x.internal ≡ 0
  preference : x.route.preference ≡ best.route.preference
  origin : origin_rank x.route.origin ≡ origin_rank best.route.origin
  metric : x.route.metric ≡ best.route.metric
  path : length x.route.path ≡ length best.route.path

left : (a b : Bool) → (a && b) ≡ true → a ≡ true
left true b e = refl
left false b e = absurd cc

right : (a b : Bool) → (a && b) ≡ true → b ≡ true
right true b e = e
right false b e = absurd cc

learnt_class : (from : BgpFrom) → is_learnt from ≡ true → class_of from ≡ 2
learnt_class (Origin place) e = absurd cc
learnt_class (Aggregate place) e = absurd cc
learnt_class (Entry place) e = refl

outer_rank : (internal : Bool) → not internal ≡ true → internal_rank internal ≡ 0
outer_rank true e = absurd cc
outer_rank false e = refl

same_length : (relax : Bool) (p q : List ℕ) → same_path relax p q ≡ true → length p ≡ length q
same_length true p q e = eqb-true (length p) (length q) e
same_length false p q e = ap length ((bytes_eq-Decides p q).0 e)

as_good : (relax : Bool) (best x : Chosen) → is_equal_to relax best x ≡ true → IsAsGood best x
as_good relax best x e =
    let external = left (is_external x) _ e in
    let r1 = right (is_external x) _ e in
    let r2 = right (x.route.preference == best.route.preference) _ r1 in
    let r3 = right (origin_rank x.route.origin == origin_rank best.route.origin) _ r2 in
    record {
      class = learnt_class x.from (left (is_learnt x.from) (not x.internal) external);
      internal = outer_rank x.internal (right (is_learnt x.from) (not x.internal) external);
      preference = eqb-true _ _ (left (x.route.preference == best.route.preference) _ r1);
      origin = eqb-true _ _ (left (origin_rank x.route.origin == origin_rank best.route.origin) _ r2);
      metric = eqb-true _ _ (left (x.route.metric == best.route.metric) _ r3);
      path = same_length relax x.route.path best.route.path (right (x.route.metric == best.route.metric) _ r3);
    }

-- a learnt external candidate is as good as itself
pub equal_itself : (relax : Bool) (x : Chosen) → is_external x ≡ true → is_equal_to relax x x ≡ true
equal_itself relax x e =
    rw (e, eq-eqb x.route.preference x.route.preference refl, eq-eqb (origin_rank x.route.origin) (origin_rank x.route.origin) refl, eq-eqb x.route.metric x.route.metric refl) (path relax)
  where
    path : (relax : Bool) → same_path relax x.route.path x.route.path ≡ true
    path true = eq-eqb (length x.route.path) (length x.route.path) refl
    path false = (bytes_eq-Decides x.route.path x.route.path).1 refl

-- ---- their order

abbrev pub sender_cmp : Sender → Sender → Ordering
sender_cmp a b = ordering_then (nat_cmp a.id.0 b.id.0) (ordering_then (nat_cmp a.address.0 b.address.0) (nat_cmp a.place b.place))

then_then : (o p q : Ordering) → ordering_then (ordering_then o p) q ≡ ordering_then o (ordering_then p q)
then_then Less p q = refl
then_then Equal p q = refl
then_then Greater p q = refl

-- where the first six comparisons tie
all_tied : (a b c d e f o p q : Ordering) → a ≡ Equal → b ≡ Equal → c ≡ Equal → d ≡ Equal → e ≡ Equal → f ≡ Equal
    → ordering_then (ordering_then a (ordering_then b (ordering_then c (ordering_then d (ordering_then e (ordering_then f (ordering_then o p))))))) q ≡ ordering_then o (ordering_then p q)
all_tied a b c d e f o p q ea eb ec ed ee ef = rw (ea, eb, ec, ed, ee, ef) (then_then o p q)

by_sender : (best x y : Ranked) → IsAsGood best.candidate x.candidate → IsAsGood best.candidate y.candidate → place_cmp x y ≡ sender_cmp (sender_of x) (sender_of y)
unfolding preference_cmp
by_sender best x y g h =
    all_tied _ _ _ _ _ _ (nat_cmp x.candidate.sender_id.0 y.candidate.sender_id.0) (nat_cmp x.candidate.sender.0 y.candidate.sender.0) (nat_cmp x.place y.place)
    (tied_at _ _ (g.class ∙ sym h.class))
    (tied_at _ _ (h.preference ∙ sym g.preference))
    (tied_at _ _ (g.path ∙ sym h.path))
    (tied_at _ _ (g.origin ∙ sym h.origin))
    (tied_at _ _ (g.metric ∙ sym h.metric))
    (tied_at _ _ (g.internal ∙ sym h.internal))

module _ (relax : Bool) (best : Chosen) where
  abbrev pub is_equal : Ranked → Bool
  is_equal x = is_equal_to relax best x.candidate

  below_senders : (x : Ranked) (xs : List Ranked) → is_equal x ≡ true → AllByRecursion (λ y. is_equal y ≡ true) xs → AllByRecursion (λ y. place_cmp x y ≡ Less) xs → AllByRecursion (λ y. sender_cmp (sender_of x) y ≡ Less) (map sender_of xs)
  below_senders x [] e equal below = tt
  below_senders x (y ∷ xs) e equal below =
      let whole : Ranked = record { place = 0; candidate = best } in
      (sym (by_sender whole x y (as_good relax best x.candidate e) (as_good relax best y.candidate equal.0)) ∙ below.0, below_senders x xs e equal.1 below.1)

  sorted_senders : (xs : List Ranked) → AllByRecursion (λ y. is_equal y ≡ true) xs → IsStrictlySortedBy place_cmp xs → IsStrictlySortedBy sender_cmp (map sender_of xs)
  sorted_senders [] equal sorted = sorted_none sender_cmp
  sorted_senders (x ∷ xs) equal sorted =
      sorted_more sender_cmp (sender_of x) (map sender_of xs) (below_senders x xs equal.0 equal.1 (sorted_head place_cmp x xs sorted)) (sorted_senders xs equal.1 (sorted_tail place_cmp x xs sorted))

  -- the senders of those as good as the best, taken by preference, are in order
  pub senders_sorted : (candidates : List Chosen) → IsStrictlySortedBy sender_cmp (map sender_of (filter is_equal (by_preference candidates)))
  senders_sorted candidates =
      sorted_senders (filter is_equal (by_preference candidates)) (recursion_from_All (λ y. is_equal y ≡ true) (filter is_equal (by_preference candidates)) (filter_passes is_equal (by_preference candidates)))
      (IsStrictlySortedBy-filter place_cmp is_equal (by_preference candidates) (sorted_by_preference candidates))
