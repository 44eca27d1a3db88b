-- Of each of some prefixes the clause that decides, found by asking one clause after the other about those of its span.
use Rattle.std.proofs.Common.{◌≡◌, ℕ, ◌+◌, ◌<◌, ◌≤◌, Bool, true, false, cond, ◌&&◌, ◌||◌, nat_lt, List, [], length, map, set, get_or, All, Option, Some, None, IfSome, refl, sym, ap, subst, ◌∙◌, arith, inl, inr}
use Rattle.std.specs.Prelude.{nat_le, slice_get}
use Rattle.std.specs.List.Sorted.{IsNonDecreasingBy, IsPartitionPoint, IsStrictlySortedBy}
use Rattle.std.specs.Option.{option_map}
use Rattle.std.specs.Ordering.{is_lt}
use Rattle.std.specs.Str.{bytes_eq}
use Rattle.std.proofs.lemmas.Bool.{cases_eq, cases_lt}
use Rattle.std.proofs.lemmas.Bool.Decides.{nat_tests}
use Rattle.std.proofs.lemmas.Cmp.{nat_list_eq_equiv}
use Rattle.std.proofs.lemmas.List.{length-map}
use Rattle.std.proofs.lemmas.Map.Keys.{Less-from_sorted}
use Rattle.std.proofs.lemmas.Option.{same_Some, get_or_from_slice_get, slice_get-map, slice_get_cases, slice_get_within}
use Rattle.nc_types.specs.Cidr.{Cidr}
use Rattle.nc_types.specs.Config.{ClauseView, ConfigView, clause_view, config_view}
use Rattle.nc_types.specs.declared.config.RouterConfig.{RouterConfig}
use Rattle.nc_types.proofs.Members.{all_in, in_by_get}
use Rattle.nc_tables.specs.Base.{prefix_cmp}
use Rattle.nc_tables.specs.Policy.{Placed, deciding, is_matching}
use Rattle.nc_tables.specs.declared.bgp.Route.{Route}
use Rattle.nc_policy.specs.Best.{with_clause, AreMatching, IsRising}
use Rattle.nc_policy.specs.Indexes.{place_from}
use Rattle.nc_policy.specs.Spans.{is_outside}
use Rattle.nc_policy.specs.Views.{asked, candidate_view, is_lower, map_names, IsCandidate}
use Rattle.nc_policy.specs.declared.clauses.Candidate.{Candidate}
use Rattle.nc_policy.specs.declared.spans.Span.{Span}
use Rattle.nc_policy.proofs.Asking.{set_same, set_other}
use Rattle.nc_policy.proofs.Deciding.{lower_of, rest_of, of_map, one_more, skip_from}

-- ---- addresses

pub below_span : (s : Span) (addr : ℕ) → nat_lt addr s.low ≡ true → is_outside s addr ≡ true
below_span s addr e = ap (λ (b : Bool). b || nat_le s.end addr) e

pub behind_span : (s : Span) (addr : ℕ) → nat_lt addr s.end ≡ false → is_outside s addr ≡ true
behind_span s addr e = grind (arith, nat_tests)

pub fits_at : (ps : List Cidr) → IsRising ps → (j : ℕ) (p : Cidr) → slice_get ps j ≡ Some p → p.base < 4294967296
fits_at ps is j p at = all_in (λ (q : Cidr). q.base < 4294967296) ps is.fit p (in_by_get ps j p at)

-- prefixes in their order have their addresses in order
base_rises : (p q : Cidr) → is_lt (prefix_cmp p q) ≡ true → p.base ≤ q.base
base_rises p q e = grind (arith, nat_tests)

pub rises : (ps : List Cidr) → IsStrictlySortedBy prefix_cmp ps → IsNonDecreasingBy (λ (p : Cidr). p.base) ps
rises ps strict i j d le lt = elim (cases_lt i j) [
  | inl less ↦ base_rises (get_or ps i d) (get_or ps j d) (ap is_lt (Less-from_sorted prefix_cmp ps i j d strict less lt))
  | inr back ↦
      let same : i ≡ j = omega arith in
      let own : (get_or ps i d).base ≡ (get_or ps j d).base = ap (λ (k : ℕ). (get_or ps k d).base) same in
      omega arith
]

-- the prefixes in front of the first one from an address on, and those behind
abbrev Parts : ℕ → List Cidr → ℕ → Type 0
Parts low ps i = IsPartitionPoint (λ (p : Cidr). nat_lt p.base low ≡ true) (λ (p : Cidr). nat_lt p.base low ≡ false) ps i

pub point_before : (ps : List Cidr) (low i : ℕ) → Parts low ps i → (k : ℕ) (p : Cidr) → slice_get ps k ≡ Some p → k < i → nat_lt p.base low ≡ true
point_before ps low i point k p at lt = subst (λ (q : Cidr). nat_lt q.base low ≡ true) (get_or_from_slice_get ps k p p at) (point.0 k p (omega arith) lt)

pub point_behind : (ps : List Cidr) (low i : ℕ) → Parts low ps i → (k : ℕ) (p : Cidr) → slice_get ps k ≡ Some p → i ≤ k → nat_lt p.base low ≡ false
point_behind ps low i point k p at le = subst (λ (q : Cidr). nat_lt q.base low ≡ false) (get_or_from_slice_get ps k p p at) (point.1 k p le (slice_get_within ps k p at))

-- ---- one clause

-- a clause that doesn't match leaves the best one so far
pub no_match : (c : ConfigView) (p : Cidr) (place : ℕ) (k : ClauseView) (best : Option Placed) → is_matching c (asked p []) k ≡ false → best ≡ with_clause c p place k best
no_match c p place k best e = on (is_lower k best) (is_matching c (asked p []) k) e
  where
    on : (low matches : Bool) → matches ≡ false → best ≡ cond (low && matches) (Some (record { place = place; clause = k })) best
    on true true e = absurd (cc)
    on true false e = refl
    on false matches e = refl

-- for each prefix before a number these are the better ones
abbrev pub IsDone : ConfigView → List Cidr → ℕ → ClauseView → List (Option Candidate) → List (Option Candidate) → ℕ → Type 0
IsDone c ps place k old new n = (j : ℕ) (p : Cidr) (a b : Option Candidate) → j < n → slice_get ps j ≡ Some p → slice_get old j ≡ Some a → slice_get new j ≡ Some b → option_map candidate_view b ≡ with_clause c p place k (option_map candidate_view a)

-- one prefix more
pub done_more : (c : ConfigView) (ps : List Cidr) (place : ℕ) (k : ClauseView) (old now : List (Option Candidate)) (n : ℕ) (p : Cidr) (a found : Option Candidate)
    → n < length now → slice_get ps n ≡ Some p → slice_get now n ≡ Some a → ((j : ℕ) → n ≤ j → slice_get now j ≡ slice_get old j)
    → option_map candidate_view found ≡ with_clause c p place k (option_map candidate_view a)
    → IsDone c ps place k old now n → IsDone c ps place k old (set now n found) (n + 1)
done_more c ps place k old now n p a found lt at was left step before j q x y less got had has = elim (cases_eq j n) [
  | inl same ↦
      let one : q ≡ p = same_Some q p (sym got ∙ ap (slice_get ps) same ∙ at) in
      let other : x ≡ a = same_Some x a (sym had ∙ ap (slice_get old) same ∙ sym (left n (omega arith)) ∙ was) in
      let put : y ≡ found = same_Some y found (sym has ∙ ap (slice_get (set now n found)) same ∙ set_same now n found lt) in
      ap (option_map candidate_view) put ∙ step
      ∙ ap (λ (r : Cidr). with_clause c r place k (option_map candidate_view a)) (sym one)
      ∙ ap (λ (z : Option Candidate). with_clause c q place k (option_map candidate_view z)) (sym other)
  | inr apart ↦ before j q x y (omega arith) got had (sym (set_other now n j found apart) ∙ has)
]

pub matching_more : (c : ConfigView) (ps : List Cidr) (now : List (Option Candidate)) (n : ℕ) (p : Cidr) (found : Option Candidate)
    → n < length now → slice_get ps n ≡ Some p → IfSome found (IsCandidate c (asked p [])) → AreMatching c ps now → AreMatching c ps (set now n found)
matching_more c ps now n p found lt at is before j q y got has = elim (cases_eq j n) [
  | inl same ↦
      let one : p ≡ q = same_Some p q (sym at ∙ ap (slice_get ps) (sym same) ∙ got) in
      let put : found ≡ y = same_Some found y (sym (set_same now n found lt) ∙ ap (slice_get (set now n found)) (sym same) ∙ has) in
      subst (λ (z : Option Candidate). IfSome z (IsCandidate c (asked q []))) put (subst (λ (r : Cidr). IfSome found (IsCandidate c (asked r []))) one is)
  | inr apart ↦ before j q y got (sym (set_other now n j found apart) ∙ has)
]

-- where nothing is found, it matches
pub none_at : (best : List (Option Candidate)) → All (λ b. b ≡ None) best → (j : ℕ) (b : Option Candidate) → slice_get best j ≡ Some b → b ≡ None
none_at best none j b at = all_in (λ (x : Option Candidate). x ≡ None) best none b (in_by_get best j b at)

pub none_matching : (c : ConfigView) (ps : List Cidr) (best : List (Option Candidate)) → All (λ b. b ≡ None) best → AreMatching c ps best
none_matching c ps best none j p b got at = subst (λ (x : Option Candidate). IfSome x (IsCandidate c (asked p []))) (sym (none_at best none j b at)) tt

-- ---- one clause of a map behind the other

-- the clause at a place that has a name has it
has_name : (all : List ClauseView) (place : ℕ) (k : ClauseView) (name : List ℕ) → slice_get all place ≡ Some k → slice_get (map (λ k. k.map_name) all) place ≡ Some name → bytes_eq name k.map_name ≡ true
has_name all place k name at own =
    let same : k.map_name ≡ name = same_Some k.map_name name (sym (slice_get-map (λ (k : ClauseView). k.map_name) all place ∙ ap (option_map (λ (k : ClauseView). k.map_name)) at) ∙ own) in
    ap (bytes_eq name) same ∙ nat_list_eq_equiv.refl name

-- and there is one
pub within : (config : RouterConfig) (place : ℕ) (name : List ℕ) → slice_get (map_names (config_view config)) place ≡ Some name → place < length config.clauses.items
within config place name at =
    let all = map clause_view config.clauses.items in
    omega (arith, slice_get_within (map_names (config_view config)) place name at, length-map all (λ (k : ClauseView). k.map_name), length-map config.clauses.items clause_view)

module _ (c : ConfigView) (name : List ℕ) (r : Route) where
  abbrev pub test : Placed → Bool
  test = of_map name (λ (k : Placed). is_matching c r k.clause)

  -- the better one and the clauses from the next one of the map on give the one that decides, as before
  pub one_clause : (place : ℕ) (later : Option ℕ) (old new : Option Placed) → slice_get (map_names c) place ≡ Some name → later ≡ place_from name (place + 1) (map_names c)
      → ((k : ClauseView) → slice_get c.clauses place ≡ Some k → new ≡ cond (is_lower k old && is_matching c r k) (Some (record { place = place; clause = k })) old)
      → lower_of old (rest_of test c.clauses (Some place)) ≡ deciding c name r
      → lower_of new (rest_of test c.clauses later) ≡ deciding c name r
  one_clause place later old new own is step before = elim (slice_get_cases c.clauses place).1 [
    | inl found ↦ by_clause found.0 found.2
    | inr none ↦
        let inside : place < length (map_names c) = slice_get_within (map_names c) place name own in
        absurd (omega (arith, none.0, length-map c.clauses (λ (k : ClauseView). k.map_name)))
  ]
    where
      by_clause : (k : ClauseView) → slice_get c.clauses place ≡ Some k → lower_of new (rest_of test c.clauses later) ≡ deciding c name r
      by_clause k at =
          let this : Placed = record { place = place; clause = k } in
          let low = is_lower k old in
          let named : bytes_eq name k.map_name ≡ true = has_name c.clauses place k name at own in
          ap (λ (o : Option Placed). lower_of o (rest_of test c.clauses later)) (step k at)
          ∙ ap (λ (b : Bool). lower_of (cond (low && (b && is_matching c r k)) (Some this) old) (rest_of test c.clauses later)) (sym named)
          ∙ ap (lower_of (cond (low && test this) (Some this) old)) (ap (rest_of test c.clauses) is ∙ skip_from name (λ (k : Placed). is_matching c r k.clause) c.clauses (place + 1))
          ∙ sym (one_more test c.clauses place k at old)
          ∙ before

-- where there is no further clause, the best one decides
pub lower_none : (o : Option Placed) → lower_of o None ≡ o
lower_none None = refl
lower_none (Some k) = refl
