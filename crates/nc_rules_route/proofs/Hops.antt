-- Hops: by which rows a packet goes on, and where to.
use Rattle.std.proofs.Common.{◌≡◌, ℕ, zero, suc, ◌+◌, ◌-◌, ◌<◌, ◌≤◌, Bool, true, false, not, ◌&&◌, ◌||◌, ◌==◌, nat_eq, nat_lt, List, length, map, Option, Some, None, refl, sym, ap, subst, ◌∙◌, arith}
use Rattle.std.proofs.lemmas.Bool.{and_parts, lt-ltb, le-ltb}
use Rattle.std.specs.List.{list_any, filter_map, slice_get, position}
use Rattle.std.specs.Option.{option_map_or, option_and_then, is_some}
use Rattle.std.proofs.lemmas.Option.{option_and_then_some, cond_some}
use Rattle.std.proofs.lemmas.List.{length-map}
use Rattle.nc_types.specs.Config.{ConfigView}
use Rattle.nc_types.specs.Network.{PlaceIn, up_at, owner_of, has_address}
use Rattle.nc_types.specs.declared.config.IfaceAddr.{IfaceAddr}
use Rattle.nc_tables.specs.declared.base.BaseRow.{BaseRow}
use Rattle.nc_tables.specs.Base.{same_prefix, is_own}
use Rattle.nc_tables.specs.Longest.{is_longest, longest}
use Rattle.nc_tables.specs.Reach.{rows_of, is_hit, hits, exit_of, is_linked, exit_leads, leads_to, owns, reaches}
use Rattle.nc_types.proofs.Members.{In, in_by_filter, in_by_filter_map, some_passes}
use Rattle.nc_tables.proofs.Ordered.{place_within}
use Rattle.nc_types.proofs.Lookups.{is_placed}
use Rattle.nc_types.specs.declared.TheConstants.{HOP_LIMIT}
use Rattle.nc_types.specs.declared.addr.Addr.{Addr}
use Rattle.nc_types.specs.declared.config.RouterId.{RouterId}
use Rattle.nc_tables.specs.State.{StateView}
use Rattle.nc_fact.specs.declared.fact.Fact.TheVariants.{Hop}
use Rattle.nc_fact.specs.Facts.{holds}
use Rattle.nc_fact.proofs.Places.{and_false}

module _ (routers : List ConfigView) (tables : List (List BaseRow)) where
  -- a hit is a row of the table
  pub hit_within : (router addr row : ℕ) → In row (hits tables router addr) → row < length (rows_of tables router)
  unfolding longest
  hit_within router addr row i =
      let prefixes = map (λ (r : BaseRow). r.prefix) (rows_of tables router) in
      let lt : row < 0 + length prefixes = place_within (is_longest prefixes addr) 0 prefixes row (in_by_filter (is_hit tables router) (longest prefixes addr) row i).0 in
      omega (arith, length-map (rows_of tables router) (λ (r : BaseRow). r.prefix))

  -- the interface to which a row leads is up
  linked_up : (router iface : ℕ) (other : PlaceIn) → is_linked routers router iface other ≡ true → is_some (up_at routers other.router other.place) ≡ true
  linked_up router iface other e = by_ends (up_at routers router iface) (up_at routers other.router other.place) e
    where
      by_ends : (here there : Option IfaceAddr) → option_map_or (λ a. option_map_or (λ b. same_prefix a.prefix b.prefix) there false) here false ≡ true → is_some there ≡ true
      by_ends None there e = absurd (cc)
      by_ends (Some a) None e = absurd (cc)
      by_ends (Some a) (Some b) e = refl

  pub next_up : (router addr row : ℕ) (next : PlaceIn) → leads_to routers tables router addr row ≡ Some next → is_some (up_at routers next.router next.place) ≡ true
  next_up router addr row next e =
      option_and_then_some (exit_leads routers router) (exit_of routers tables router addr row) next e (λ exit is_exit leads.
      option_and_then_some _ (owner_of routers exit.addr) next leads (λ other is_owner linked.
      let here = cond_some (not (other.router == router) && is_linked routers router exit.iface other) other next linked in
      subst (λ (p : PlaceIn). is_some (up_at routers p.router p.place) ≡ true) here.1 (linked_up router exit.iface other (and_parts (not (other.router == router)) (is_linked routers router exit.iface other) here.0).1)))

  -- a hit by which a packet comes to the owner of an address over so many hops
  pub record GoesOn (hops router addr : ℕ) : Type 0 where
    pub less : ℕ
    pub row : ℕ
    pub next : PlaceIn
    pub count : hops ≡ suc less
    pub hit : In row (hits tables router addr)
    pub leads : leads_to routers tables router addr row ≡ Some next
    pub reached : reaches routers tables less next.router addr ≡ true

  -- from a router that doesn't own an address a packet goes on by some hit
  pub goes_on : (hops router addr : ℕ) → owns routers router addr ≡ false → reaches routers tables hops router addr ≡ true → GoesOn hops router addr
  unfolding reaches
  goes_on zero router addr other e = absurd (cc)
  goes_on (suc hops) router addr other e =
      let on : list_any (λ (next : PlaceIn). reaches routers tables hops next.router addr) (filter_map (leads_to routers tables router addr) (hits tables router addr)) ≡ true = second (owns routers router addr) _ other e in
      let passed = some_passes (λ (next : PlaceIn). reaches routers tables hops next.router addr) (filter_map (leads_to routers tables router addr) (hits tables router addr)) on in
      let made = in_by_filter_map (leads_to routers tables router addr) (hits tables router addr) passed.0 passed.1 in
      record { less = hops; row = made.0; next = passed.0; count = refl; hit = made.1; leads = made.2; reached = passed.2 }
    where
      second : (a b : Bool) → a ≡ false → (a || b) ≡ true → b ≡ true
      second true b e f = absurd (cc)
      second false b e f = f

  -- a router that has no interface with an address doesn't own it
  pub not_own : (router addr : ℕ) → option_and_then (λ c. position (has_address addr) c.interfaces) (slice_get routers router) ≡ None → owns routers router addr ≡ false
  not_own router addr e = by_router (slice_get routers router) e
    where
      by_router : (o : Option ConfigView) → option_and_then (λ c. position (has_address addr) c.interfaces) o ≡ None → option_map_or (λ c. is_own c.interfaces addr) o false ≡ false
      by_router None e = refl
      by_router (Some c) e = sym (is_placed (has_address addr) c.interfaces) ∙ ap is_some e

-- ---- whether a hop holds

module _ (s : StateView) (router : RouterId) (addr : Addr) (row : ℕ) where
  abbrev hits_it : Bool
  hits_it = is_hit s.base router.0 row

  -- over no hop, or over more than there may be, none does
  pub no_hop : (hops : ℕ) → hops ≡ 0 → false ≡ (hits_it && holds s (Hop router addr row hops))
  unfolding holds
  no_hop hops none = sym (ap (λ (n : ℕ). hits_it && holds s (Hop router addr row n)) none ∙ and_false hits_it)

  pub too_many : (hops : ℕ) → HOP_LIMIT < hops → false ≡ (hits_it && holds s (Hop router addr row hops))
  unfolding holds
  too_many zero many = absurd (omega arith)
  too_many (suc hops) many = sym (ap (λ (b : Bool). hits_it && (b && (list_any (nat_eq row) (hits s.base router.0 addr.0) && leads_far hops (leads_to s.routers s.base router.0 addr.0 row)))) (le-ltb hops HOP_LIMIT (omega arith)) ∙ and_false hits_it)
    where
      leads_far : ℕ → Option PlaceIn → Bool
      leads_far n q = option_map_or (λ (next : PlaceIn). reaches s.routers s.base n next.router addr.0) q false

  -- else it does where the row leads to a router from which a packet comes on
  pub by_row : (hops : ℕ) (q : Option PlaceIn) → 0 < hops → hops ≤ HOP_LIMIT → list_any (nat_eq row) (hits s.base router.0 addr.0) ≡ hits_it → hits_it ≡ true → q ≡ leads_to s.routers s.base router.0 addr.0 row
      → option_map_or (λ (next : PlaceIn). reaches s.routers s.base (hops - 1) next.router addr.0) q false ≡ (hits_it && holds s (Hop router addr row hops))
  unfolding holds
  by_row zero q some few longest hit leads = absurd (omega arith)
  by_row (suc hops) q some few longest hit leads =
      let less : suc hops - 1 ≡ hops = omega arith in
      let there : nat_lt hops HOP_LIMIT ≡ true = lt-ltb hops HOP_LIMIT (omega arith) in
      ap (λ (n : ℕ). option_map_or (λ (next : PlaceIn). reaches s.routers s.base n next.router addr.0) q false) less
      ∙ ap (λ (p : Option PlaceIn). option_map_or (λ (next : PlaceIn). reaches s.routers s.base hops next.router addr.0) p false) leads
      ∙ rw (hit, there, longest, hit) refl
