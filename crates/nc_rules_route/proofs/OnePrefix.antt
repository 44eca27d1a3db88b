-- The main rows of a prefix have it, and one prefix at most is the longest of a table that covers an address.
use Rattle.std.proofs.Common.{◌≡◌, ◌⊎◌, ℕ, ◌+◌, ◌*◌, ◌/◌, ◌≤◌, Bool, true, false, cond, not, ◌&&◌, nat_lt, List, [], ◌∷◌, length, map, Option, Some, None, sym, ap, ◌∙◌, arith, inl, inr}
use Rattle.std.specs.List.{list_any, range_with_len}
use Rattle.std.specs.Option.{option_map_or}
use Rattle.std.proofs.lemmas.Bool.{cases_lt, eqb-true, lt-ltb, and_parts, and_from}
use Rattle.std.proofs.lemmas.Option.{cond_some}
use Rattle.nc_types.specs.Cidr.{Cidr, IsCidr}
use Rattle.nc_types.specs.Masks.{size_of, network_of}
use Rattle.nc_types.specs.Config.{ConfigView, ProcessView}
use Rattle.nc_types.specs.declared.config.AggregateStatement.{AggregateStatement}
use Rattle.nc_types.proofs.Members.{In, in_by_map, passes_some}
use Rattle.nc_tables.specs.declared.TheConstants.{LOCAL_DISTANCE}
use Rattle.nc_tables.specs.declared.base.BaseRow.{BaseRow}
use Rattle.nc_tables.specs.declared.bgp.Chosen.{Chosen}
use Rattle.nc_tables.specs.declared.bgp.MainRow.{MainRow}
use Rattle.nc_tables.specs.declared.bgp.MainFrom.TheVariants.{Base, Bgp, Discard}
use Rattle.nc_tables.specs.Base.{covers, same_prefix}
use Rattle.nc_tables.specs.Choice.{is_learnt}
use Rattle.nc_tables.specs.Longest.{is_longest}
use Rattle.nc_tables.specs.Distances.{distance_of}
use Rattle.nc_tables.specs.Main.{discards, learnt_rows, bgp_side, base_side, main_rows_at}
use Rattle.nc_tables.specs.Reach.{rows_of}
use Rattle.nc_tables.specs.Rounds.{BgpRowView, chosen_at, is_active, made_from}
use Rattle.nc_tables.specs.Sessions.{first_of, process_of}
use Rattle.nc_tables.proofs.Ordered.{in_by_made}
use Rattle.nc_rules_route.proofs.MainRows.{by_nearer}

-- ---- the rows of a prefix

module _ (routers : List ConfigView) (tables : List (List BaseRow)) (table : List (List BgpRowView)) (router : ℕ) (prefix : Cidr) (m : MainRow) where
  of_base : In m (base_side tables router prefix) → m.prefix ≡ prefix
  of_base i =
      let made = in_by_made make 0 (rows_of tables router) m i in
      let is = cond_some (same_prefix made.1.prefix prefix) (record { prefix = prefix; distance = made.1.distance; from = Base (0 + made.0) }) m made.3 in
      ap (λ (z : MainRow). z.prefix) (sym is.1)
    where
      make : ℕ → BaseRow → Option MainRow
      make place row = cond (same_prefix row.prefix prefix) (Some (record { prefix = prefix; distance = row.distance; from = Base place })) None

  of_discards : In m (discards routers table router prefix) → m.prefix ≡ prefix
  of_discards i = by_process (process_of routers router) i
    where
      make : ℕ → AggregateStatement → Option MainRow
      make place a = cond (same_prefix a.prefix prefix && is_active table router a) (Some (record { prefix = prefix; distance = LOCAL_DISTANCE; from = Discard place })) None

      by_process : (o : Option ProcessView) → In m (option_map_or (λ p. made_from make 0 p.aggregates) o []) → m.prefix ≡ prefix
      by_process None j = absurd j
      by_process (Some p) j =
          let made = in_by_made make 0 p.aggregates m j in
          let is = cond_some (same_prefix made.1.prefix prefix && is_active table router made.1) (record { prefix = prefix; distance = LOCAL_DISTANCE; from = Discard (0 + made.0) }) m made.3 in
          ap (λ (z : MainRow). z.prefix) (sym is.1)

  of_learnt : (chosen : List Chosen) → In m (learnt_rows prefix chosen) → m.prefix ≡ prefix
  of_learnt [] i = absurd i
  of_learnt (best ∷ others) i = by_test (is_learnt best.from) i
    where
      make : ℕ → MainRow
      make place = record { prefix = prefix; distance = distance_of best; from = Bgp place }

      by_test : (b : Bool) → In m (cond b (map make (range_with_len 0 (length others + 1))) []) → m.prefix ≡ prefix
      by_test false j = absurd j
      by_test true j = let made = in_by_map make (range_with_len 0 (length others + 1)) m j in ap (λ (z : MainRow). z.prefix) (sym made.2)

  of_bgp : In m (bgp_side routers table router prefix) → m.prefix ≡ prefix
  of_bgp i = by_discards (discards routers table router prefix) of_discards i
    where
      by_discards : (ds : List MainRow) → (In m ds → m.prefix ≡ prefix) → In m (option_map_or (λ row. row ∷ []) (first_of ds) (learnt_rows prefix (chosen_at table router prefix))) → m.prefix ≡ prefix
      by_discards [] each j = of_learnt (chosen_at table router prefix) j
      by_discards (d ∷ ds) each (inl same) = each (inl same)
      by_discards (d ∷ ds) each (inr j) = absurd j

  -- a row of a prefix has it
  pub has_prefix : In m (main_rows_at routers tables table router prefix) → m.prefix ≡ prefix
  has_prefix i = by_side (by_nearer (base_side tables router prefix) (bgp_side routers table router prefix) m i)
    where
      by_side : In m (base_side tables router prefix) ⊎ In m (bgp_side routers table router prefix) → m.prefix ≡ prefix
      by_side (inl j) = of_base j
      by_side (inr j) = of_bgp j

-- ---- the longest prefix

module _ (prefixes : List Cidr) (addr : ℕ) where
  -- a prefix that covers the address and is longer than another
  abbrev is_longer : Cidr → Cidr → Bool
  is_longer p q = covers q addr && nat_lt p.len q.len

  covers_it : (p : Cidr) → is_longest prefixes addr p ≡ true → covers p addr ≡ true
  covers_it p is = (and_parts (covers p addr) (not (list_any (is_longer p) prefixes)) is).0

  -- none that covers the address is longer than the longest
  upto_longest : (p q : Cidr) → is_longest prefixes addr p ≡ true → In q prefixes → covers q addr ≡ true → q.len ≤ p.len
  upto_longest p q is i cover = elim (cases_lt p.len q.len) [
    | inl less ↦
        let none : not (list_any (is_longer p) prefixes) ≡ true = (and_parts (covers p addr) (not (list_any (is_longer p) prefixes)) is).1 in
        let some : list_any (is_longer p) prefixes ≡ true = passes_some (is_longer p) prefixes q i (and_from (covers q addr) (nat_lt p.len q.len) cover (lt-ltb p.len q.len less)) in
        let clash : false ≡ true = sym (ap not some) ∙ none in
        absurd cc
    | inr le ↦ le
  ]

  -- a prefix that covers the address begins where the address does in so many bits
  begins_at : (p : Cidr) → IsCidr p.base p.len → covers p addr ≡ true → network_of addr p.len ≡ p.base
  begins_at p valid cover =
      let part : addr / size_of p.len ≡ p.base / size_of p.len = eqb-true (addr / size_of p.len) (p.base / size_of p.len) cover in
      ap (λ (k : ℕ). k * size_of p.len) part ∙ valid.no_host_bits

  -- of two that are the longest each is the other
  pub one_longest : (p q : Cidr) → In p prefixes → In q prefixes → IsCidr p.base p.len → IsCidr q.base q.len → is_longest prefixes addr p ≡ true → is_longest prefixes addr q ≡ true → p ≡ q
  one_longest p q i j valid_p valid_q is_p is_q =
      let upto : q.len ≤ p.len = upto_longest p q is_p j (covers_it q is_q) in
      let back : p.len ≤ q.len = upto_longest q p is_q i (covers_it p is_p) in
      let len : p.len ≡ q.len = omega (arith, upto, back) in
      let base : p.base ≡ q.base = sym (begins_at p valid_p (covers_it p is_p)) ∙ ap (λ (n : ℕ). network_of addr n) len ∙ begins_at q valid_q (covers_it q is_q) in
      ap (λ (b : ℕ). record { base = b; len = p.len }) base ∙ ap (λ (l : ℕ). record { base = q.base; len = l }) len
