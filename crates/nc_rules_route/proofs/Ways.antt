-- What an alternative names exists: its main row, the base row toward its next hop, and the interface to which it leads.
use Rattle.std.proofs.Common.{◌≡◌, ℕ, zero, suc, ◌<◌, Bool, true, false, cond, ◌||◌, List, [], ◌∷◌, length, map, Option, Some, None, refl, ap, subst, ◌∙◌, arith, inl, inr}
use Rattle.std.specs.List.{list_any, list_all, slice_get}
use Rattle.std.specs.Option.{option_map_or, is_some, is_none}
use Rattle.std.proofs.lemmas.Bool.{and_parts}
use Rattle.std.proofs.lemmas.Option.{slice_get_within}
use Rattle.nc_types.specs.Network.{PlaceIn, up_at, owner_of}
use Rattle.nc_tables.specs.declared.base.BaseRow.{BaseRow}
use Rattle.nc_tables.specs.declared.base.BaseFrom.{BaseFrom}
use Rattle.nc_tables.specs.declared.base.BaseFrom.TheVariants as row
use Rattle.nc_tables.specs.declared.bgp.MainRow.{MainRow}
use Rattle.nc_tables.specs.declared.bgp.MainFrom.{MainFrom}
use Rattle.nc_tables.specs.declared.bgp.MainFrom.TheVariants as main
use Rattle.nc_tables.specs.Forwarding.{Deliver, Go, Lost, Alternative, going, bgp_hop, outcome_by, outcome_of, ways_of, alternatives}
use Rattle.nc_tables.specs.Longest.{longest}
use Rattle.nc_tables.specs.Reach.{hits, leads_to}
use Rattle.nc_tables.specs.State.{StateView}
use Rattle.nc_fact.specs.Facts.{base_rows, main_rows}
use Rattle.nc_types.proofs.Members.{In, in_by_flat_map, in_by_map}
use Rattle.nc_rules_route.proofs.Hops.{hit_within, next_up}

-- ---- places at which items pass

module _ {X : Type 0} (p : X → Bool) where
  -- where each passes, the one at a place does
  pub passes_at : (xs : List X) → list_all p xs ≡ true → (k : ℕ) → k < length xs → option_map_or p (slice_get xs k) false ≡ true
  passes_at [] e k lt = absurd (omega arith)
  passes_at (x ∷ xs) e zero lt = (and_parts (p x) (list_all p xs) e).0
  passes_at (x ∷ xs) e (suc k) lt = passes_at xs (and_parts (p x) (list_all p xs) e).1 k (omega arith)

  -- where some item passes, one at a place does
  pub passing_at : (xs : List X) → list_any p xs ≡ true → (k : ℕ) × (k < length xs) × (option_map_or p (slice_get xs k) false ≡ true)
  passing_at [] e = absurd cc
  passing_at (x ∷ xs) e = by_first (p x) refl e (passing_at xs)
    where
      by_first : (b : Bool) → p x ≡ b → (b || list_any p xs) ≡ true → (list_any p xs ≡ true → (k : ℕ) × (k < length xs) × (option_map_or p (slice_get xs k) false ≡ true))
          → (k : ℕ) × (k < length (x ∷ xs)) × (option_map_or p (slice_get (x ∷ xs) k) false ≡ true)
      by_first true here e later = (zero, omega arith, here)
      by_first false here e later = let found = later e in let lt : found.0 < length xs = found.1 in (suc found.0, omega arith, found.2)

-- ---- alternatives

module _ (s : StateView) where
  abbrev IsUp : PlaceIn → Type 0
  IsUp next = is_some (up_at s.routers next.router next.place) ≡ true

  pub record IsWay (router : ℕ) (way : Alternative) : Type 0 where
    pub main : way.main < length (main_rows s router)
    pub base : (place : ℕ) → way.base ≡ Some place → place < length (base_rows s router)
    pub up : (next : PlaceIn) → way.outcome ≡ Go next → is_some (up_at s.routers next.router next.place) ≡ true

  going_up : (router addr place : ℕ) (next : PlaceIn) → going (leads_to s.routers s.base router addr place) ≡ Go next → IsUp next
  going_up router addr place next e = by_lead (leads_to s.routers s.base router addr place) refl e
    where
      by_lead : (o : Option PlaceIn) → leads_to s.routers s.base router addr place ≡ o → going o ≡ Go next → IsUp next
      by_lead None leads e = absurd cc
      by_lead (Some other) leads e = let same : other ≡ next = cc in next_up s.routers s.base router addr place next (leads ∙ ap Some same)

  outcome_up : (router addr place : ℕ) (next : PlaceIn) → outcome_of s.routers s.base router addr place ≡ Go next → IsUp next
  outcome_up router addr place next e = by_row (slice_get (base_rows s router) place) e
    where
      by_owner : (b : Bool) → cond b Deliver (going (leads_to s.routers s.base router addr place)) ≡ Go next → IsUp next
      by_owner true e = absurd cc
      by_owner false e = going_up router addr place next e

      by_from : (from : BaseFrom) → outcome_by s.routers s.base router addr place from ≡ Go next → IsUp next
      by_from (row.Connected iface) e = by_owner (is_none (owner_of s.routers addr)) e
      by_from (row.Static at iface) e = going_up router addr place next e
      by_from (row.Null at) e = absurd cc

      by_row : (o : Option BaseRow) → option_map_or (λ (r : BaseRow). outcome_by s.routers s.base router addr place r.from) o Lost ≡ Go next → IsUp next
      by_row None e = absurd cc
      by_row (Some r) e = by_from r.from e

  -- the alternatives of one main row
  ways_are : (router addr place : ℕ) (m : MainRow) → place < length (main_rows s router) → (from : MainFrom) (way : Alternative) → In way (ways_of s.routers s.base s.bgp s.main router addr place m from) → IsWay router way
  ways_are router addr place m lt (main.Base at) way (inl same) = subst (IsWay router) same (record { main = lt; base = λ k e. absurd cc; up = λ next e. outcome_up router addr at next e })
  ways_are router addr place m lt (main.Base at) way (inr i) = absurd i
  ways_are router addr place m lt (main.Discard at) way (inl same) = subst (IsWay router) same (record { main = lt; base = λ k e. absurd cc; up = λ next e. absurd cc })
  ways_are router addr place m lt (main.Discard at) way (inr i) = absurd i
  ways_are router addr place m lt (main.Bgp at) way i = by_hop (bgp_hop s.bgp router m at) i
    where
      way_by : ℕ → ℕ → Alternative
      way_by hop hit = record { main = place; base = Some hit; outcome = going (leads_to s.routers s.base router hop hit) }

      by_hop : (o : Option ℕ) → In way (option_map_or (λ hop. map (way_by hop) (hits s.base router hop)) o []) → IsWay router way
      by_hop None j = absurd j
      by_hop (Some hop) j =
          let made = in_by_map (way_by hop) (hits s.base router hop) way j in
          let within = hit_within s.routers s.base router hop made.0 made.1 in
          subst (IsWay router) made.2 (record { main = lt; base = λ k e. (let same : made.0 ≡ k = cc in subst (λ (n : ℕ). n < length (base_rows s router)) same within); up = λ next e. going_up router hop made.0 next e })

  pub way_is : (router addr : ℕ) (way : Alternative) → In way (alternatives s.routers s.base s.bgp s.main router addr) → IsWay router way
  way_is router addr way i =
      let found = in_by_flat_map each (longest (map (λ (m : MainRow). m.prefix) (main_rows s router)) addr) way i in by_row found.0 (slice_get (main_rows s router) found.0) refl found.2
    where
      of_row : ℕ → Option MainRow → List Alternative
      of_row place o = option_map_or (λ (m : MainRow). ways_of s.routers s.base s.bgp s.main router addr place m m.from) o []

      each : ℕ → List Alternative
      each place = of_row place (slice_get (main_rows s router) place)

      by_row : (place : ℕ) (o : Option MainRow) → slice_get (main_rows s router) place ≡ o → In way (of_row place o) → IsWay router way
      by_row place None at j = absurd j
      by_row place (Some m) at j = ways_are router addr place m (slice_get_within (main_rows s router) place m at) m.from way j
