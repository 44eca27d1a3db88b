-- Of routers, their ways, and over how few hops a packet arrives from each.
use Rattle.std.specs.Prelude.{◌≡◌, ℕ, ◌≤◌, Bool, true, false, ◌&&◌, nat_le, List, [], length, slice_get}
use Rattle.std.specs.Option.{option_map_or}
use Rattle.nc_types.specs.declared.TheConstants.{HOP_LIMIT}
use Rattle.nc_tables.specs.Flows.{flows}
use Rattle.nc_tables.specs.State.{StateView}
use Rattle.nc_tables.specs.Forwarding.{Alternative, alternatives, arrives_by, goes_on, some_way, each_way, traces, all_trace}
use Rattle.nc_underlay.specs.Distances as distances
use Rattle.nc_trace.specs.declared.packet.By.{By}
use Rattle.nc_trace.specs.declared.packet.By.TheVariants.{SomeWay, EachWay, Filtered}
use Rattle.nc_trace.specs.Found.{FoundWays, covers, IsCoveredOrNone, IsFoundTo, ways_out}
use Rattle.nc_trace.specs.Packets.{anywhere, packet_of}

-- of each router its ways, where they were found, and of those routers the fewest hops over which a packet arrives, by some way and by each; a number above the limit where it doesn't
pub record Traced : Type 0 where
  pub found : FoundWays
  pub some : List ℕ
  pub each : List ℕ

-- no router is among those whose ways were found
abbrev pub IncludesNone : Traced → Type 0
IncludesNone traced = (router : ℕ) → covers traced.found router ≡ false

-- some way passes, or each of them does
abbrev pub ways_pass : Bool → (Alternative → Bool) → List Alternative → Bool
ways_pass true passes ways = each_way passes ways
ways_pass false passes ways = some_way passes ways

module _ (s : StateView) where
  -- whether a packet arrives from a router by each way, or by some, over at most so many hops
  abbrev pub arrives_within : Bool → ℕ → ℕ → ℕ → Bool
  arrives_within true = all_trace s.routers s.base s.bgp s.main
  arrives_within false = traces s.routers s.base s.bgp s.main

  -- the same where access lists may be asked whether it may pass
  abbrev pub arrives_as : By → ℕ → ℕ → ℕ → Bool
  arrives_as SomeWay = arrives_within false
  arrives_as EachWay = arrives_within true
  arrives_as (Filtered from) = λ hops router addr. flows s from.0 addr hops router

  -- whether it is by the way of this number, over at most so many hops, of which there are no more than the limit
  abbrev pub step_as : By → ℕ → ℕ → ℕ → ℕ → Bool
  step_as by router addr number hops =
      nat_le hops HOP_LIMIT
      && option_map_or (λ way. arrives_by (goes_on (arrives_as by) addr hops) way.outcome) (slice_get (ways_out s (packet_of by addr) router) number) false

  -- these are the numbers of the routers whose ways were found
  abbrev pub AreFewest : FoundWays → By → ℕ → List ℕ → Type 0
  AreFewest found by addr fewest = distances.AreFewest (λ hops router. covers found router && arrives_as by hops router addr) fewest

  -- from a router that doesn't exist there is no way, and no packet arrives
  pub record IsNone (addr router : ℕ) : Type 0 where
    pub ways : alternatives s.routers s.base s.bgp s.main router addr ≡ []
    pub over : (by : By) (hops : ℕ) → arrives_as by hops router addr ≡ false

  -- what was found is right, with all routers to which the ways lead, and the numbers are
  pub record IsTracedTo (addr : ℕ) (traced : Traced) : Type 0 where
    pub found : IsFoundTo s (anywhere addr) traced.found
    pub none : (router : ℕ) → length s.routers ≤ router → IsNone addr router
    pub some : AreFewest traced.found SomeWay addr traced.some
    pub each : AreFewest traced.found EachWay addr traced.each

  -- a router is among those whose ways were found, or it doesn't exist
  abbrev pub IsIncluded : Traced → ℕ → Type 0
  IsIncluded traced router = IsCoveredOrNone (length s.routers) traced.found router
