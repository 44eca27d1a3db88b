-- The ways of a router as a packet takes them.
use Rattle.std.proofs.Common.{◌≡◌, ℕ, zero, suc, Bool, true, false, ◌&&◌, ◌||◌, cond, nat_le, List, [], ◌∷◌, map, Option, Some, None, refl, sym, ap, ◌∙◌}
use Rattle.std.specs.List.{list_any, slice_get}
use Rattle.std.specs.Option.{option_map, option_map_or}
use Rattle.std.proofs.lemmas.Option.{slice_get-map}
use Rattle.nc_types.specs.declared.addr.Addr.{Addr}
use Rattle.nc_types.specs.declared.TheConstants.{HOP_LIMIT}
use Rattle.nc_tables.specs.Flows.{lets, flows, flow_step_at}
use Rattle.nc_tables.specs.Forwarding.{Outcome, Lost, Alternative, alternatives, arrives_by, goes_on}
use Rattle.nc_tables.specs.State.{StateView}
use Rattle.nc_trace.specs.declared.packet.By.TheVariants.{Filtered}
use Rattle.nc_trace.specs.declared.packet.Packet.{Packet}
use Rattle.nc_trace.specs.Found.{taken, taken_from, all_from, ways_out}
use Rattle.nc_trace.specs.Traced.{arrives_as, step_as}

pub none_taken : (s : StateView) (from : Option Addr) (to router : ℕ) → all_from s from to router [] ≡ []
none_taken s None to router = refl
none_taken s (Some from) to router = refl

pub taken_first : (s : StateView) (from : Option Addr) (to router : ℕ) (way : Alternative) (ways : List Alternative) → all_from s from to router (way ∷ ways) ≡ taken_from s from to router way ∷ all_from s from to router ways
taken_first s None to router way ways = refl
taken_first s (Some from) to router way ways = refl

-- the first of the ways that are left, and none
pub next_taken : (s : StateView) (from : Option Addr) (to router : ℕ) (old new : List Alternative) (way way_taken : Alternative) → old ≡ way ∷ new → way_taken ≡ taken_from s from to router way
    → all_from s from to router old ≡ way_taken ∷ all_from s from to router new
next_taken s from to router old new way way_taken left is =
    ap (all_from s from to router) left ∙ taken_first s from to router way new ∙ ap (λ (w : Alternative). w ∷ all_from s from to router new) (sym is)

pub none_left : (s : StateView) (from : Option Addr) (to router : ℕ) (old : List Alternative) → old ≡ [] → all_from s from to router old ≡ []
none_left s from to router old none = ap (all_from s from to router) none ∙ none_taken s from to router

-- the way at a place
as_it_is : {A : Type 0} (o : Option A) → o ≡ option_map (λ x. x) o
as_it_is None = refl
as_it_is (Some x) = refl

pub taken_at : (s : StateView) (from : Option Addr) (to router : ℕ) (ways : List Alternative) (k : ℕ) → slice_get (all_from s from to router ways) k ≡ option_map (taken_from s from to router) (slice_get ways k)
taken_at s None to router ways k = as_it_is (slice_get ways k)
taken_at s (Some from) to router ways k = slice_get-map (taken s from.0 to router) ways k

-- ---- what access lists let pass

module _ (s : StateView) (from to router : ℕ) where
  -- a packet that isn't let pass by a way is lost
  stopped : (f : ℕ → Bool) (o : Outcome) (b : Bool) → (b && arrives_by f o) ≡ arrives_by f (cond b o Lost)
  stopped f o true = refl
  stopped f o false = refl

  pub let_pass : (f : ℕ → Bool) (way : Alternative) → (lets s from to router way && arrives_by f way.outcome) ≡ arrives_by f (taken s from to router way).outcome
  let_pass f way = stopped f way.outcome (lets s from to router way)

  pub some_let_pass : (f : ℕ → Bool) (ways : List Alternative) → list_any (λ way. lets s from to router way && arrives_by f way.outcome) ways ≡ list_any (λ way. arrives_by f way.outcome) (map (taken s from to router) ways)
  some_let_pass f [] = refl
  some_let_pass f (way ∷ ways) =
      ap (λ (b : Bool). b || list_any (λ (w : Alternative). lets s from to router w && arrives_by f w.outcome) ways) (let_pass f way)
      ∙ ap (λ (b : Bool). arrives_by f (taken s from to router way).outcome || b) (some_let_pass f ways)

-- what comes of the packet by the way at a place
module _ (s : StateView) (p : Packet) (router place : ℕ) where
  abbrev all_ways : List Alternative
  all_ways = alternatives s.routers s.base s.bgp s.main router p.to.0

  abbrev outcome_of : Option Alternative → Option Outcome
  outcome_of o = option_map (λ way. way.outcome) o

  pub outcome_there : (way way_taken : Alternative) → Some way ≡ slice_get all_ways place → way_taken ≡ taken_from s p.from p.to.0 router way → Some way_taken.outcome ≡ outcome_of (slice_get (ways_out s p router) place)
  outcome_there way way_taken at is =
      ap (λ (w : Alternative). Some w.outcome) is
      ∙ ap (λ (o : Option Alternative). outcome_of (option_map (taken_from s p.from p.to.0 router) o)) at
      ∙ ap outcome_of (sym (taken_at s p.from p.to.0 router all_ways place))

  pub no_outcome : None ≡ slice_get all_ways place → None ≡ outcome_of (slice_get (ways_out s p router) place)
  no_outcome none =
      ap (λ (o : Option Alternative). outcome_of (option_map (taken_from s p.from p.to.0 router) o)) none
      ∙ ap outcome_of (sym (taken_at s p.from p.to.0 router all_ways place))

-- whether the packet arrives by the way of a number
module _ (s : StateView) (from : Addr) (to router : ℕ) where
  step_here : (way : Option Alternative) (hops : ℕ) → option_map_or (λ way. arrives_by (goes_on (arrives_as s (Filtered from)) to hops) way.outcome) (option_map (taken s from.0 to router) way) false
      ≡ option_map_or (λ way. lets s from.0 to router way && arrives_by (goes_on (λ hops router addr. flows s from.0 to hops router) to hops) way.outcome) way false
  step_here None hops = refl
  step_here (Some way) zero = sym (let_pass s from.0 to router (goes_on (λ hops router addr. flows s from.0 to hops router) to 0) way)
  step_here (Some way) (suc hops) = sym (let_pass s from.0 to router (goes_on (λ hops router addr. flows s from.0 to hops router) to (suc hops)) way)

  pub flow_step : (number hops : ℕ) → step_as s (Filtered from) router to number hops ≡ flow_step_at s from.0 to router number hops
  flow_step number hops =
      let ways = alternatives s.routers s.base s.bgp s.main router to in
      ap (λ (o : Option Alternative). nat_le hops HOP_LIMIT && option_map_or (λ way. arrives_by (goes_on (arrives_as s (Filtered from)) to hops) way.outcome) o false) (taken_at s (Some from) to router ways number)
      ∙ ap (λ (b : Bool). nat_le hops HOP_LIMIT && b) (step_here (slice_get ways number) hops)
