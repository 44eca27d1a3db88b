-- Routers by levels: from which a packet arrives over so many hops, with what is known of fewer.
use Rattle.std.specs.Prelude.{ℕ, Bool, true, ◌||◌, ◌&&◌, List, Option, None, Some}
use Rattle.nc_tables.specs.Forwarding.{arrives_by, alternatives}
use Rattle.nc_tables.specs.Reach.{owns}
use Rattle.nc_tables.specs.State.{StateView}
use Rattle.nc_underlay.specs.Distances as distances
use Rattle.nc_trace.specs.declared.packet.By.{By}
use Rattle.nc_trace.specs.Found.{FoundWays, covers, ways_out}
use Rattle.nc_trace.specs.Packets.{packet_of, is_each}
use Rattle.nc_trace.specs.Traced.{ways_pass, arrives_as}

-- a router is asked about: each is, or those whose ways were found
abbrev pub is_asked : Option FoundWays → ℕ → Bool
is_asked None router = true
is_asked (Some found) router = covers found router

module _ (s : StateView) (every : Bool) (addr : ℕ) where
  -- a router owns the address, or its ways lead to where a packet arrives
  abbrev pub passes : (ℕ → Bool) → ℕ → Bool
  passes from router = owns s.routers router addr || ways_pass every (λ way. arrives_by from way.outcome) (alternatives s.routers s.base s.bgp s.main router addr)

module _ (s : StateView) (by : By) (addr : ℕ) where
  -- the same of the ways as the packet takes them
  abbrev pub passes_as : (ℕ → Bool) → ℕ → Bool
  passes_as from router = owns s.routers router addr || ways_pass (is_each by) (λ way. arrives_by from way.outcome) (ways_out s (packet_of by addr) router)

  module _ (found : Option FoundWays) where
    -- one that is asked about does
    abbrev pub step : (ℕ → Bool) → ℕ → Bool
    step from router = is_asked found router && passes_as from router

    -- whether a packet arrives from a router that is asked about over so many hops
    abbrev pub over : ℕ → ℕ → Bool
    over hops router = is_asked found router && arrives_as s by hops router addr

    -- the numbers are right for fewer hops than these
    abbrev pub AreRight : ℕ → List ℕ → Type 0
    AreRight hops fewest = distances.AreRight over hops fewest

    -- and each is one of them or none
    abbrev pub AreMarked : ℕ → List ℕ → Type 0
    AreMarked hops fewest = distances.AreMarked over hops fewest

    -- all are right
    abbrev pub AreFewest : List ℕ → Type 0
    AreFewest fewest = distances.AreFewest over fewest
