-- Which candidates are chosen doesn't depend on their prefix: the choice of candidates that are moved to another one is moved.
use Rattle.std.proofs.Common.{◌≡◌, ℕ, ◌+◌, Bool, true, false, not, ◌&&◌, ◌==◌, cond, List, [], ◌∷◌, length, map, filter, take, slice_get, Option, Some, None, refl, ap, ◌∙◌}
use Rattle.std.specs.List.{cons_option, filter_map}
use Rattle.std.specs.Option.{option_map}
use Rattle.std.specs.declared.cmp.Ordering.{Ordering}
use Rattle.std.specs.Ordering.{nat_cmp, ordering_then, is_gt}
use Rattle.std.proofs.lemmas.List.{take-map}
use Rattle.std.proofs.lemmas.Option.{slice_get-map}
use Rattle.nc_types.specs.Cidr.{Cidr}
use Rattle.nc_types.specs.Config.{ProcessView}
use Rattle.nc_tables.specs.declared.bgp.Chosen.{Chosen}
use Rattle.nc_tables.specs.declared.bgp.BgpFrom.{BgpFrom}
use Rattle.nc_tables.specs.declared.bgp.BgpFrom.TheVariants.{Origin, Aggregate, Entry}
use Rattle.nc_tables.specs.Choice.{class_of, is_learnt, origin_rank, internal_rank, preference_cmp, same_path, is_external, is_equal_to, Ranked, ranked_from, by_preference, used_with, choose}
use Rattle.nc_tables.specs.Order.{insert, in_order}
use Rattle.nc_tables.specs.Rounds.{chosen_by}
use Rattle.nc_round.specs.Likeness.{moved, moved_from}

-- ---- lists of items that are changed in a way which a test or an order doesn't see

module _ {X : Type 0} (f : X → X) where
  filter_over : (s t : X → Bool) → ((x : X) → s (f x) ≡ t x) → (xs : List X) → filter s (map f xs) ≡ map f (filter t xs)
  filter_over s t same [] = refl
  filter_over s t same (x ∷ xs) = ap (λ (b : Bool). cond b (f x ∷ filter s (map f xs)) (filter s (map f xs))) (same x) ∙ on (filter_over s t same xs) (t x)
    where
      on : filter s (map f xs) ≡ map f (filter t xs) → (b : Bool) → cond b (f x ∷ filter s (map f xs)) (filter s (map f xs)) ≡ map f (cond b (x ∷ filter t xs) (filter t xs))
      on rest true = ap (λ (l : List X). f x ∷ l) rest
      on rest false = rest

  module _ (cmp : X → X → Ordering) (same : (a b : X) → cmp (f a) (f b) ≡ cmp a b) where
    insert_over : (x : X) (ys : List X) → insert cmp (f x) (map f ys) ≡ map f (insert cmp x ys)
    insert_over x [] = refl
    insert_over x (y ∷ ys) = ap (λ (o : Ordering). cond (is_gt o) (f y ∷ insert cmp (f x) (map f ys)) (f x ∷ f y ∷ map f ys)) (same x y) ∙ on (insert_over x ys) (is_gt (cmp x y))
      where
        on : insert cmp (f x) (map f ys) ≡ map f (insert cmp x ys) → (b : Bool) → cond b (f y ∷ insert cmp (f x) (map f ys)) (f x ∷ f y ∷ map f ys) ≡ map f (cond b (y ∷ insert cmp x ys) (x ∷ y ∷ ys))
        on rest true = ap (λ (l : List X). f y ∷ l) rest
        on rest false = refl

    in_order_over : (xs : List X) → in_order cmp (map f xs) ≡ map f (in_order cmp xs)
    in_order_over [] = refl
    in_order_over (x ∷ xs) = ap (insert cmp (f x)) (in_order_over xs) ∙ insert_over x (in_order cmp xs)

  -- items by their places
  found_over : (xs : List X) (ks : List ℕ) → filter_map (slice_get (map f xs)) ks ≡ map f (filter_map (slice_get xs) ks)
  found_over xs [] = refl
  found_over xs (k ∷ ks) = ap (λ (o : Option X). cons_option o (filter_map (slice_get (map f xs)) ks)) (slice_get-map f xs k) ∙ on (found_over xs ks) (slice_get xs k)
    where
      on : filter_map (slice_get (map f xs)) ks ≡ map f (filter_map (slice_get xs) ks) → (o : Option X) → cons_option (option_map f o) (filter_map (slice_get (map f xs)) ks) ≡ map f (cons_option o (filter_map (slice_get xs) ks))
      on rest None = rest
      on rest (Some x) = ap (λ (l : List X). f x ∷ l) rest

-- ---- what is kept of a candidate

class_kept : (place : Option ℕ) (x : BgpFrom) → class_of (moved_from place x) ≡ class_of x
class_kept None (Origin own) = refl
class_kept (Some place) (Origin own) = refl
class_kept None (Aggregate own) = refl
class_kept (Some place) (Aggregate own) = refl
class_kept None (Entry own) = refl
class_kept (Some place) (Entry own) = refl

learnt_kept : (place : Option ℕ) (x : BgpFrom) → is_learnt (moved_from place x) ≡ is_learnt x
learnt_kept None (Origin own) = refl
learnt_kept (Some place) (Origin own) = refl
learnt_kept None (Aggregate own) = refl
learnt_kept (Some place) (Aggregate own) = refl
learnt_kept None (Entry own) = refl
learnt_kept (Some place) (Entry own) = refl

module _ (q : Cidr) (place : Option ℕ) where
  preference_kept : (a b : Chosen) → preference_cmp (moved q place a) (moved q place b) ≡ preference_cmp a b
  unfolding preference_cmp
  preference_kept a b =
      ap (λ (n : ℕ). by_class n (class_of (moved_from place b.from))) (class_kept place a.from)
      ∙ ap (λ (n : ℕ). by_class (class_of a.from) n) (class_kept place b.from)
    where
      by_class : ℕ → ℕ → Ordering
      by_class m n =
          ordering_then (nat_cmp m n)
          (ordering_then (nat_cmp b.route.preference a.route.preference)
          (ordering_then (nat_cmp (length a.route.path) (length b.route.path))
          (ordering_then (nat_cmp (origin_rank a.route.origin) (origin_rank b.route.origin))
          (ordering_then (nat_cmp a.route.metric b.route.metric)
          (ordering_then (nat_cmp (internal_rank a.internal) (internal_rank b.internal))
          (ordering_then (nat_cmp a.sender_id.0 b.sender_id.0) (nat_cmp a.sender.0 b.sender.0)))))))

  external_kept : (x : Chosen) → is_external (moved q place x) ≡ is_external x
  external_kept x = ap (λ (b : Bool). b && not x.internal) (learnt_kept place x.from)

  equal_kept : (relax : Bool) (best x : Chosen) → is_equal_to relax (moved q place best) (moved q place x) ≡ is_equal_to relax best x
  equal_kept relax best x =
      ap (λ (b : Bool). b && ((x.route.preference == best.route.preference)
      && ((origin_rank x.route.origin == origin_rank best.route.origin) && ((x.route.metric == best.route.metric) && same_path relax x.route.path best.route.path)))) (external_kept x)

  -- ---- candidates with their places

  abbrev moved_rank : Ranked → Ranked
  moved_rank r = record { place = r.place; candidate = moved q place r.candidate }

  ranked_over : (n : ℕ) (cs : List Chosen) → ranked_from n (map (moved q place) cs) ≡ map moved_rank (ranked_from n cs)
  ranked_over n [] = refl
  ranked_over n (x ∷ xs) = ap (λ (l : List Ranked). moved_rank (record { place = n; candidate = x }) ∷ l) (ranked_over (n + 1) xs)

  places_over : (rs : List Ranked) → map (λ x. x.place) (map moved_rank rs) ≡ map (λ x. x.place) rs
  places_over [] = refl
  places_over (r ∷ rs) = ap (λ (l : List ℕ). r.place ∷ l) (places_over rs)

  preferred_over : (cs : List Chosen) → by_preference (map (moved q place) cs) ≡ map moved_rank (by_preference cs)
  preferred_over cs =
      ap (in_order (λ (a b : Ranked). preference_cmp a.candidate b.candidate)) (ranked_over 0 cs)
      ∙ in_order_over moved_rank (λ (a b : Ranked). preference_cmp a.candidate b.candidate) (λ a b. preference_kept a.candidate b.candidate) (ranked_from 0 cs)

  used_over : (limit : ℕ) (relax : Bool) (rs : List Ranked) → used_with limit relax (map moved_rank rs) ≡ map moved_rank (used_with limit relax rs)
  used_over limit relax [] = refl
  used_over limit relax (best ∷ others) = ap (λ (b : Bool). cond b (take limit (moved_rank best ∷ equals)) (moved_rank best ∷ [])) (external_kept best.candidate) ∙ on (is_external best.candidate)
    where
      equals : List Ranked
      equals = filter (λ x. is_equal_to relax (moved q place best.candidate) x.candidate) (map moved_rank others)

      own : List Ranked
      own = filter (λ x. is_equal_to relax best.candidate x.candidate) others

      on : (b : Bool) → cond b (take limit (moved_rank best ∷ equals)) (moved_rank best ∷ []) ≡ map moved_rank (cond b (take limit (best ∷ own)) (best ∷ []))
      on true =
          ap (λ (l : List Ranked). take limit (moved_rank best ∷ l))
          (filter_over moved_rank (λ x. is_equal_to relax (moved q place best.candidate) x.candidate) (λ x. is_equal_to relax best.candidate x.candidate) (λ x. equal_kept relax best.candidate x.candidate) others)
          ∙ take-map moved_rank limit (best ∷ own)
      on false = refl

  choose_over : (limit : ℕ) (relax : Bool) (cs : List Chosen) → choose (map (moved q place) cs) limit relax ≡ choose cs limit relax
  unfolding choose
  choose_over limit relax cs =
      ap (λ (rs : List Ranked). map (λ x. x.place) (used_with limit relax rs)) (preferred_over cs)
      ∙ ap (map (λ x. x.place)) (used_over limit relax (by_preference cs))
      ∙ places_over (used_with limit relax (by_preference cs))

-- what is chosen of candidates that are moved to another prefix is what is chosen of them, moved
pub chosen_moved : (q : Cidr) (place : Option ℕ) (p : ProcessView) (cs : List Chosen) → chosen_by p (map (moved q place) cs) ≡ map (moved q place) (chosen_by p cs)
chosen_moved q place p cs =
    ap (filter_map (slice_get (map (moved q place) cs))) (choose_over q place p.max_paths p.relax cs)
    ∙ found_over (moved q place) cs (choose cs p.max_paths p.relax)
