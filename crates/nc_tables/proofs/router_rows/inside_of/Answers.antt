use Rattle.std.proofs.Common.{◌≡◌, ◌≤◌, ◌+◌, ◌-◌, ℕ, Bool, true, false, All, List, drop, get_or, length, map, take, refl, sym, ap, subst, ◌∙◌, arith, rules}
use Rattle.std.specs.List.{find, AllWithin}
use Rattle.std.specs.List.Sorted.{IsPartitionedBy, IsPartitionPoint}
use Rattle.std.specs.Ordering.{is_le}
use Rattle.std.proofs.lemmas.List.{get_or-drop, length-drop}
use Rattle.std.proofs.lemmas.List.Elements.{All-take}
use Rattle.std.proofs.lemmas.List.Sorted.{IsPartitionPoint-from_clause}
use Rattle.nc_types.specs.Cidr.{Cidr, IsCidr}
use Rattle.nc_tables.specs.Base.{prefix_cmp, same_prefix}
use Rattle.nc_tables.specs.LocRibs.{Ascend}
use Rattle.nc_tables.specs.Rounds.{bgp_row_view, is_longer_in}
use Rattle.nc_tables.specs.Spread.{spread_rows}
use Rattle.nc_tables.proofs.Choices.{ascend_rises}
use Rattle.nc_tables.proofs.OwnRows.{same_spread}
use Rattle.nc_tables.proofs.LongerIn.{between, longer_behind}
use Rattle.nc_tables.proofs.SideBySide.{upto_first}
use Rattle.nc_tables.proofs.Spread.{rows_inside, within_first, within_last}
use Rattle.nc_tables.proofs.router_rows.inside_of.Goals as goal

module _ (ps : List Cidr) (up : Ascend ps) (each : All (λ p. IsCidr p.base p.len) ps) (outer : Cidr) (valid : IsCidr outer.base outer.len) (first : ℕ) (bound : first ≤ length ps)
    (point : IsPartitionPoint (λ (p : Cidr). is_le (prefix_cmp p outer) ≡ true) (λ (p : Cidr). is_le (prefix_cmp p outer) ≡ false) ps first) where
  abbrev inside : Cidr → Bool
  inside p = is_longer_in p outer

  -- none of those up to the outer one is inside
  before : AllWithin (λ (p : Cidr). inside p ≡ false) ps 0 first
  before k d lo hi = by_test (inside (get_or ps k d)) refl
    where
      by_test : (b : Bool) → inside (get_or ps k d) ≡ b → inside (get_or ps k d) ≡ false
      by_test false e = e
      by_test true e =
          let upto : is_le (prefix_cmp (get_or ps k d) outer) ≡ true = point.0 k d lo hi in
          let behind : is_le (prefix_cmp (get_or ps k d) outer) ≡ false = longer_behind outer valid (get_or ps k d) e in
          absurd cc

  -- of those behind it the ones inside come first
  in_front : IsPartitionedBy inside (drop first ps)
  in_front i j d le lt e =
      let count : length (drop first ps) ≡ length ps - first = length-drop first ps in
      let last : inside (get_or ps (first + j) d) ≡ true = subst (λ (p : Cidr). inside p ≡ true) (get_or-drop first ps j d) e in
      let here = between outer valid (get_or ps (first + i) d) (get_or ps (first + j) d) (each (first + i) d (omega arith)) (point.1 (first + i) d (omega arith) (omega arith)) (ascend_rises ps up (first + i) (first + j) d (omega arith) (omega arith)) last in
      subst (λ (p : Cidr). inside p ≡ true) (sym (get_or-drop first ps i d)) here

abbrev AreInFront : Cidr → List Cidr → Type 0
AreInFront outer ps = IsPartitionedBy (λ (p : Cidr). is_longer_in p outer) ps

pub returns-clause-rows : goal.returns-clause-rows
returns-clause-rows c =
    let s = c.args.spread in
    let ps = s.prefixes.now in
    let outer = c.args.outer in
    let placed = c.requires.0 in
    let first = c.partition_point-first.result in
    let valid = c.len-len.ensures.valid in
    let point = IsPartitionPoint-from_clause (λ (p : Cidr). is_le (prefix_cmp p outer)) ps first c.partition_point-first.ensures.partitioned (upto_first (λ (p : Cidr). p) ps (ascend_rises ps placed.ordered) outer) (λ a r q k. search rules) in
    let count = c.partition_point-count.result in
    let front = in_front ps placed.ordered placed.valid outer valid first c.partition_point-first.ensures.bound point in
    let own = map bgp_row_view s.own.now in
    let left = c.behind-left.result in
    let rest = c.behind-left.ensures.prefixes in
    let all : AreInFront outer left.prefixes.now = subst (AreInFront outer) (sym rest) front in
    let end = IsPartitionPoint-from_clause (λ (p : Cidr). is_longer_in p outer) left.prefixes.now count c.partition_point-count.ensures.partitioned all (λ a r q k. search rules) in
    c.upto.ensures.rows
    ∙ same_spread (map bgp_row_view left.own.now) own left.standing.now (take count left.prefixes.now) (take count left.places.now)
    (All-take (λ (p : Cidr). find (λ row. same_prefix row.prefix p) (map bgp_row_view left.own.now) ≡ find (λ row. same_prefix row.prefix p) own) count left.prefixes.now c.behind-left.ensures.own)
    ∙ ap (λ (b : _). spread_rows own b.now (take count left.prefixes.now) (take count left.places.now)) c.behind-left.ensures.standing
    ∙ ap (λ (l : List Cidr). spread_rows own s.standing.now (take count l) (take count left.places.now)) rest
    ∙ ap (λ (l : List ℕ). spread_rows own s.standing.now (take count (drop first ps)) (take count l)) c.behind-left.ensures.places
    ∙ rows_inside own s.standing.now ps s.places.now outer first count
    (within_first (λ (p : Cidr). is_longer_in p outer ≡ false) ps first c.partition_point-first.ensures.bound (before ps placed.ordered placed.valid outer valid first c.partition_point-first.ensures.bound point))
    (subst (λ (l : List Cidr). All (λ (p : Cidr). is_longer_in p outer ≡ true) (take count l)) rest (within_first (λ (p : Cidr). is_longer_in p outer ≡ true) left.prefixes.now count c.partition_point-count.ensures.bound end.0))
    (subst (λ (l : List Cidr). All (λ (p : Cidr). is_longer_in p outer ≡ false) (drop count l)) rest (within_last (λ (p : Cidr). is_longer_in p outer ≡ false) left.prefixes.now count end.1))
