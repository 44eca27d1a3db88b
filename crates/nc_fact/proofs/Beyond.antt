-- A router that doesn't exist has no rows, no sessions and no routes, and no packet comes from there.
use Rattle.std.proofs.Common.{◌≡◌, ℕ, zero, suc, ◌<◌, ◌≤◌, Bool, true, false, ◌||◌, List, [], length, map, filter, slice_index_or, Option, ap, ◌∙◌, arith, inl, inr}
use Rattle.std.specs.List.{list_any, filter_map}
use Rattle.std.specs.Option.{option_map_or}
use Rattle.std.specs.Bool.{IsTrue}
use Rattle.std.proofs.lemmas.Bool.{cases_lt}
use Rattle.std.proofs.lemmas.List.{get_or_past}
use Rattle.std.proofs.lemmas.Option.{slice_get_past}
use Rattle.nc_types.specs.Config.{ConfigView}
use Rattle.nc_tables.specs.declared.base.BaseRow.{BaseRow}
use Rattle.nc_tables.specs.Base.{is_own}
use Rattle.nc_tables.specs.Longest.{longest}
use Rattle.nc_tables.specs.Reach.{hits, is_hit, leads_to, next_places, owns, reaches}
use Rattle.nc_tables.specs.State.{StateView, IsState}
use Rattle.nc_tables.proofs.State.{base_count, sessions_count, bgp_count, main_count}
use Rattle.nc_fact.specs.Facts.{base_rows, main_rows}

-- what isn't below the count of routers
pub beyond_by : (there : Bool) (router count : ℕ) → (router < count → IsTrue there) → there ≡ false → count ≤ router
beyond_by true router count has e = absurd cc
beyond_by false router count has e = elim (cases_lt router count) [ inl lt ↦ (let never : false ≡ true = has lt in absurd cc) | inr le ↦ le ]

module _ (s : StateView) (is : IsState s) (router : ℕ) (beyond : length s.routers ≤ router) where
  pub no_base : base_rows s router ≡ []
  no_base = get_or_past s.base router [] (omega (arith, beyond, base_count s is))

  pub no_main : main_rows s router ≡ []
  no_main = get_or_past s.main router [] (omega (arith, beyond, main_count s is))

  pub no_sessions : slice_index_or s.sessions router [] ≡ []
  no_sessions = get_or_past s.sessions router [] (omega (arith, beyond, sessions_count s is))

  pub no_routes : slice_index_or s.bgp router [] ≡ []
  no_routes = get_or_past s.bgp router [] (omega (arith, beyond, bgp_count s is))

  not_own : (addr : ℕ) → owns s.routers router addr ≡ false
  not_own addr = ap (λ (o : Option ConfigView). option_map_or (λ (c : ConfigView). is_own c.interfaces addr) o false) (slice_get_past s.routers router beyond)

  no_hits : (addr : ℕ) → hits s.base router addr ≡ []
  unfolding longest
  no_hits addr = ap (λ (rows : List BaseRow). filter (is_hit s.base router) (longest (map (λ (row : BaseRow). row.prefix) rows) addr)) no_base

  -- whatever the hops
  pub not_reached : (addr hops : ℕ) → reaches s.routers s.base hops router addr ≡ false
  unfolding reaches
  not_reached addr zero = not_own addr
  not_reached addr (suc hops) =
      ap (λ (b : Bool). b || list_any (λ next. reaches s.routers s.base hops next.router addr) (next_places s.routers s.base router addr)) (not_own addr)
      ∙ ap (λ (ks : List ℕ). list_any (λ next. reaches s.routers s.base hops next.router addr) (filter_map (leads_to s.routers s.base router addr) ks)) (no_hits addr)

  -- the rows of the longest prefix there
  pub no_longest : (addr : ℕ) → longest (map (λ row. row.prefix) (base_rows s router)) addr ≡ []
  unfolding longest
  no_longest addr = ap (λ (rows : List BaseRow). longest (map (λ (row : BaseRow). row.prefix) rows) addr) no_base
