-- Of routers, the ways as a packet takes them that access lists may stop, and over how few hops it arrives from each.
use Rattle.std.specs.Prelude.{◌≡◌, ℕ, ◌≤◌, false, length}
use Rattle.std.specs.Option.{ForSome}
use Rattle.nc_tables.specs.State.{StateView}
use Rattle.nc_filter.specs.Tables.{AreFilters}
use Rattle.nc_trace.specs.declared.flow.FlowTo.{FlowTo}
use Rattle.nc_trace.specs.declared.packet.By.TheVariants.{Filtered}
use Rattle.nc_trace.specs.Found.{covers, IsCoveredOrNone, IsFoundTo}
use Rattle.nc_trace.specs.Packets.{between}
use Rattle.nc_trace.specs.Traced.{AreFewest, IsNone}

-- no router is among those whose ways were found
abbrev pub FlowIncludesNone : FlowTo → Type 0
FlowIncludesNone flow = (router : ℕ) → covers flow.found router ≡ false

module _ (s : StateView) where
  -- what was found of a packet is right, with all routers to which the ways lead, and the numbers and the tables are
  pub record IsFlowTo (from to : ℕ) (flow : FlowTo) : Type 0 where
    pub found : IsFoundTo s (between from to) flow.found
    pub none : (router : ℕ) → length s.routers ≤ router → IsNone s to router
    pub fewest : AreFewest s flow.found (Filtered (record { 0 = from })) to flow.fewest.items
    pub tables : ForSome flow.tables (AreFilters s.routers)

  -- a router is among those whose ways were found, or it doesn't exist
  abbrev pub IsFlowIncluded : FlowTo → ℕ → Type 0
  IsFlowIncluded flow router = IsCoveredOrNone (length s.routers) flow.found router
