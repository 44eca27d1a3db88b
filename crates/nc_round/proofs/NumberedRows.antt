-- Rows under the numbers of their prefixes: where numbers ascend, so do prefixes, and so do rows.
use Rattle.std.proofs.Common.{◌≡◌, ◌⊎◌, ℕ, suc, ◌+◌, ◌<◌, ◌==◌, Bool, true, List, [], ◌∷◌, ◌++◌, length, map, get_or, All, Contains, Option, Some, None, refl, sym, ap, subst, ◌∙◌, arith, inl, inr}
use Rattle.std.specs.Cmp.{IsEquivalence, nat_cmp_is}
use Rattle.std.specs.List.{AllPairs, Any, dedup, flat_map, slice_get}
use Rattle.std.specs.List.Sorted.{IsSortedByKey, IsPermutation}
use Rattle.std.specs.Option.{option_and_then, option_map_or}
use Rattle.std.specs.Ordering.{is_eq, nat_cmp, ordering_then}
use Rattle.std.specs.declared.cmp.Ordering.{Ordering}
use Rattle.std.specs.declared.cmp.Ordering.TheVariants.{Less, Equal}
use Rattle.std.proofs.lemmas.Bool.{eqb-true}
use Rattle.std.proofs.lemmas.Bool.Decides.{nat_tests}
use Rattle.std.proofs.lemmas.Cmp.{nat_cmp_total, on_total, on_equiv, nat_eq_equiv}
use Rattle.std.proofs.lemmas.List.{map-append}
use Rattle.std.proofs.lemmas.List.Elements.{All-append}
use Rattle.std.proofs.lemmas.List.Kept.{Any-dedup, Contains-from_dedup, IsStrictlySortedBy-dedup}
use Rattle.std.proofs.lemmas.List.Sorted.{Contains-permutation, IsPermutation-sym}
use Rattle.std.proofs.lemmas.Map.Keys.{Less-from_sorted}
use Rattle.std.proofs.lemmas.Option.{get_or_from_slice_get, slice_get_within, same_Some}
use Rattle.nc_types.specs.Cidr.{Cidr}
use Rattle.nc_types.specs.Config.{ConfigView, ProcessView}
use Rattle.nc_types.specs.declared.config.AggregateStatement.{AggregateStatement}
use Rattle.nc_types.specs.declared.config.RouterId.{RouterId}
use Rattle.nc_types.proofs.Members.{In, in_left, in_right, in_either, in_map, in_by_map, in_by_get, in_by_contains, contains_by_in, all_in, all_by_in}
use Rattle.nc_tables.specs.declared.ribs.Numbered.{Numbered}
use Rattle.nc_tables.specs.Base.{prefix_cmp}
use Rattle.nc_tables.specs.LocRibs.{Ascend, IsNumbered}
use Rattle.nc_tables.specs.Rounds.{distinct, prefixes, prefixes_in}
use Rattle.nc_tables.proofs.Ordered.{in_its_order}
use Rattle.nc_main_rib.proofs.Ascending.{in_distinct}
use Rattle.nc_round.specs.declared.changed.NumberedRow.{NumberedRow}
use Rattle.nc_round.specs.Keys.{Key, key, key_cmp, AreInOrder}
use Rattle.nc_round.specs.Rows.{numbered_row, row_key}
use Rattle.nc_round.specs.Waking.{aggregates_of, begun_from, AreWoken}
use Rattle.nc_round.proofs.Lists.{all_over, pairs_joined, pairs_over}
use Rattle.nc_round.proofs.NextRows.{in_prefixes}

-- ---- numbered prefixes that are sorted, each once

abbrev pub same_number : Numbered → Numbered → Bool
same_number a b = a.number == b.number

number_equivalence : IsEquivalence same_number
number_equivalence = on_equiv (λ (n : Numbered). n.number) nat_eq_equiv

ties : (a b : Numbered) → same_number a b ≡ is_eq (nat_cmp a.number b.number)
ties a b = grind (arith, nat_tests)

below : (a b : ℕ) → nat_cmp a b ≡ Less → a < b
below a b e = grind (arith, nat_tests)

pub once_ordered : (sorted : List Numbered) → IsSortedByKey (λ (n : Numbered). n.number) nat_cmp sorted → AllPairs (λ (a b : Numbered). a.number < b.number) (dedup same_number sorted)
once_ordered sorted up i j d less lt =
    let ns = dedup same_number sorted in
    let strict = IsStrictlySortedBy-dedup (on_total (λ (n : Numbered). n.number) nat_cmp_total) {E = same_number} ties sorted up in
    below (get_or ns i d).number (get_or ns j d).number (Less-from_sorted (λ (a b : Numbered). nat_cmp a.number b.number) ns i j d strict less lt)

numbered_is : (a b : Numbered) → a.prefix ≡ b.prefix → a.number ≡ b.number → a ≡ b
numbered_is a b e f =
    let first : Cidr → Numbered = λ p. record { prefix = p; number = a.number } in
    let second : ℕ → Numbered = λ n. record { prefix = b.prefix; number = n } in
    ap first e ∙ ap second f

module _ (prefixes : List Cidr) (noted sorted : List Numbered) (moved : IsPermutation noted sorted) (numbers : All (IsNumbered prefixes) noted) where
  there : (n : Numbered) → Contains (dedup same_number sorted) n → IsNumbered prefixes n
  there n some = all_in (IsNumbered prefixes) noted numbers n (in_by_contains noted n (Contains-permutation sorted noted n (IsPermutation-sym noted sorted moved) (Contains-from_dedup same_number sorted n some)))

  pub once_numbers : All (IsNumbered prefixes) (dedup same_number sorted)
  once_numbers = all_by_in (IsNumbered prefixes) (dedup same_number sorted) (λ n i. there n (contains_by_in (dedup same_number sorted) n i))

  -- two of one number are one
  pub once_kept : (n : Numbered) → Contains noted n → Contains (dedup same_number sorted) n
  once_kept n some =
      let found : Any (λ (m : Numbered). same_number n m ≡ true) (dedup same_number sorted) = Any-dedup number_equivalence sorted n (Contains-permutation noted sorted n moved some) in
      let m = found.1 in
      let kept : Contains (dedup same_number sorted) m = (found.0, found.2, found.3) in
      let same : n.number ≡ m.number = eqb-true n.number m.number found.4 in
      let mine : slice_get prefixes n.number ≡ Some n.prefix = all_in (IsNumbered prefixes) noted numbers n (in_by_contains noted n some) in
      let prefix : n.prefix ≡ m.prefix = same_Some n.prefix m.prefix (sym mine ∙ ap (slice_get prefixes) same ∙ there m kept) in
      subst (Contains (dedup same_number sorted)) (sym (numbered_is n m prefix same)) kept

-- ---- rows of one more router

same_router : (router : RouterId) (p q : Cidr) → prefix_cmp p q ≡ Less → key_cmp (router, p) (router, q) ≡ Less
same_router router p q less = ap (λ (o : Ordering). ordering_then o (prefix_cmp p q)) (sym (nat_cmp_is router.0 router.0 Equal refl)) ∙ less

later_router : (a b : Key) → a.0.0 < b.0.0 → key_cmp a b ≡ Less
later_router a b lt = ap (λ (o : Ordering). ordering_then o (prefix_cmp a.1 b.1)) (sym (nat_cmp_is a.0.0 b.0.0 Less lt))

-- numbers go as their prefixes do
prefix_before : (prefixes : List Cidr) → Ascend prefixes → (a b : Numbered) → IsNumbered prefixes a → IsNumbered prefixes b → a.number < b.number → prefix_cmp a.prefix b.prefix ≡ Less
prefix_before prefixes up a b e f lt =
    subst (λ (q : Cidr). prefix_cmp a.prefix q ≡ Less) (get_or_from_slice_get prefixes b.number b.prefix a.prefix f)
    (subst (λ (p : Cidr). prefix_cmp p (get_or prefixes b.number a.prefix) ≡ Less) (get_or_from_slice_get prefixes a.number a.prefix a.prefix e)
    (up a.number b.number a.prefix lt (slice_get_within prefixes b.number b.prefix f)))

pub none_woken : (prefixes : List Cidr) → AreWoken 0 prefixes []
none_woken prefixes = record {
  ordered = λ i j d less lt. absurd (omega arith);
  below = λ k d lt. absurd (omega arith);
  numbers = λ k d lt. absurd (omega arith);
}

module _ (prefixes : List Cidr) (router : RouterId) where
  abbrev row : Numbered → NumberedRow
  row = numbered_row router

  rows_ordered : (ns : List Numbered) → Ascend prefixes → AllPairs (λ (a b : Numbered). a.number < b.number) ns → All (IsNumbered prefixes) ns → AreInOrder (map row_key (map row ns))
  rows_ordered ns up pairs numbers =
      pairs_over (λ (a b : Key). key_cmp a b ≡ Less) row_key (map row ns)
      (pairs_over (λ (a b : NumberedRow). key_cmp (row_key a) (row_key b) ≡ Less) row ns (λ i j d less lt.
      let first : i < length ns = omega arith in
      same_router router (get_or ns i d).prefix (get_or ns j d).prefix (prefix_before prefixes up (get_or ns i d) (get_or ns j d) (numbers i d first) (numbers j d lt) (pairs i j d less lt))))

  of_router : (ns : List Numbered) (k : Key) → In k (map row_key (map row ns)) → router.0 ≡ k.0.0
  of_router ns k i =
      let at = in_by_map row_key (map row ns) k i in
      let of = in_by_map row ns at.0 at.1 in
      ap (λ (r : NumberedRow). r.router.0) of.2 ∙ ap (λ (q : Key). q.0.0) at.2

  -- the rows of its noted prefixes come behind those of the routers before it
  pub more_woken : (before : List NumberedRow) (ns : List Numbered) → Ascend prefixes → AreWoken router.0 prefixes before → AllPairs (λ (a b : Numbered). a.number < b.number) ns → All (IsNumbered prefixes) ns
      → AreWoken (router.0 + 1) prefixes (before ++ map row ns)
  more_woken before ns up woken pairs numbers = record {
    ordered = subst AreInOrder (sym keys) (pairs_joined (λ (a b : Key). key_cmp a b ≡ Less) (map row_key before) (map row_key (map row ns)) woken.ordered (rows_ordered ns up pairs numbers)
        (λ a b i j. later_router a b (let less : a.0.0 < router.0 = earlier a i in let same : router.0 ≡ b.0.0 = of_router ns b j in omega arith)));
    below = subst (All (λ (k : Key). k.0.0 < router.0 + 1)) (sym keys) (All-append (λ (k : Key). k.0.0 < router.0 + 1) (map row_key before) (map row_key (map row ns))
        (all_by_in (λ (k : Key). k.0.0 < router.0 + 1) (map row_key before) (λ k i. let less : k.0.0 < router.0 = earlier k i in omega arith))
        (all_by_in (λ (k : Key). k.0.0 < router.0 + 1) (map row_key (map row ns)) (λ k i. let same : router.0 ≡ k.0.0 = of_router ns k i in omega arith)));
    numbers = All-append (λ (r : NumberedRow). IsNumbered prefixes r.of) before (map row ns) woken.numbers (all_over (λ (r : NumberedRow). IsNumbered prefixes r.of) row ns numbers);
  }
    where
      keys : map row_key (before ++ map row ns) ≡ map row_key before ++ map row_key (map row ns)
      keys = map-append row_key before (map row ns)

      earlier : (k : Key) → In k (map row_key before) → k.0.0 < router.0
      earlier k i = all_in (λ (q : Key). q.0.0 < router.0) (map row_key before) woken.below k i

  pub row_kept : (before : List NumberedRow) (ns : List Numbered) (k : Key) → Contains (map row_key before) k → Contains (map row_key (before ++ map row ns)) k
  row_kept before ns k some =
      subst (λ (l : List Key). Contains l k) (sym (map-append row_key before (map row ns)))
      (contains_by_in (map row_key before ++ map row_key (map row ns)) k (in_left (map row_key before) (map row_key (map row ns)) k (in_by_contains (map row_key before) k some)))

  pub row_woken : (before : List NumberedRow) (ns : List Numbered) (n : Numbered) → Contains ns n → Contains (map row_key (before ++ map row ns)) (router, n.prefix)
  row_woken before ns n some =
      subst (λ (l : List Key). Contains l (router, n.prefix)) (sym (map-append row_key before (map row ns)))
      (contains_by_in (map row_key before ++ map row_key (map row ns)) (router, n.prefix)
      (in_right (map row_key before) (map row_key (map row ns)) (router, n.prefix) (in_map row_key (map row ns) (row n) (in_map row ns n (in_by_contains ns n some)))))

-- what holds of the routers of keys holds of those whose keys these are
pub all_under : (f : NumberedRow → Key) (count : ℕ) (rows : List NumberedRow) → All (λ (k : Key). k.0.0 < count) (map f rows) → All (λ (r : NumberedRow). (f r).0.0 < count) rows
all_under f count rows within = all_by_in (λ (r : NumberedRow). (f r).0.0 < count) rows (λ r i. all_in (λ (k : Key). k.0.0 < count) (map f rows) within (f r) (in_map f rows r i))

-- ---- what routers begin is among the prefixes that routers begin

module _ (routers : List ConfigView) where
  pub aggregates_known : (router : ℕ) → All (λ (a : AggregateStatement). Contains (prefixes routers) a.prefix) (aggregates_of routers router)
  aggregates_known router = all_by_in (λ (a : AggregateStatement). Contains (prefixes routers) a.prefix) (aggregates_of routers router) (λ a i. contains_by_in (prefixes routers) a.prefix (on a (slice_get routers router) refl i))
    where
      of_process : (a : AggregateStatement) (o : Option ProcessView) → In a (option_map_or (λ p. p.aggregates) o []) → In a.prefix (option_map_or (λ p. map (λ n. n.prefix) p.networks ++ map (λ b. b.prefix) p.aggregates) o [])
      of_process a None i = absurd i
      of_process a (Some p) i = in_right (map (λ n. n.prefix) p.networks) (map (λ b. b.prefix) p.aggregates) a.prefix (in_map (λ (b : AggregateStatement). b.prefix) p.aggregates a i)

      on : (a : AggregateStatement) (o : Option ConfigView) → slice_get routers router ≡ o → In a (option_map_or (λ p. p.aggregates) (option_and_then (λ (c : ConfigView). c.process) o) []) → In a.prefix (prefixes routers)
      on a None e i = absurd i
      on a (Some c) e i = in_prefixes routers c a.prefix (in_by_get routers router c e) (of_process a c.process i)

begun_in : (number : ℕ) (cs : List ConfigView) (k : Key) → In k (begun_from number cs) → In k.1 (flat_map prefixes_in cs)
begun_in number [] k i = absurd i
begun_in number (c ∷ cs) k i = on (begun_in (suc number) cs k) (in_either (map (λ (p : Cidr). key number p) (prefixes_in c)) (begun_from (suc number) cs) k i)
  where
    on : (In k (begun_from (suc number) cs) → In k.1 (flat_map prefixes_in cs)) → In k (map (λ (p : Cidr). key number p) (prefixes_in c)) ⊎ In k (begun_from (suc number) cs) → In k.1 (prefixes_in c ++ flat_map prefixes_in cs)
    on rest (inl h) =
        let at = in_by_map (λ (p : Cidr). key number p) (prefixes_in c) k h in
        in_left (prefixes_in c) (flat_map prefixes_in cs) k.1 (subst (λ (p : Cidr). In p (prefixes_in c)) (ap (λ (q : Key). q.1) at.2) at.1)
    on rest (inr h) = in_right (prefixes_in c) (flat_map prefixes_in cs) k.1 (rest h)

pub begun_known : (routers : List ConfigView) → All (λ (k : Key). Contains (prefixes routers) k.1) (begun_from 0 routers)
begun_known routers = all_by_in (λ (k : Key). Contains (prefixes routers) k.1) (begun_from 0 routers) (λ k i. contains_by_in (prefixes routers) k.1
    (in_its_order prefix_cmp (distinct (flat_map prefixes_in routers)) k.1 (in_distinct (flat_map prefixes_in routers) k.1 (begun_in 0 routers k i))))
