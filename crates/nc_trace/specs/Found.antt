-- The ways of routers that were found for a packet.
use Rattle.std.specs.Prelude.{◌≡◌, ◌⊎◌, ◌==◌, ℕ, ◌-◌, ◌<◌, ◌≤◌, Bool, true, List, length, map, take, drop, All, Option, None, Some, is_some, slice_get, slice_index_or, if◌then◌else◌}
use Rattle.std.specs.List.{list_any}
use Rattle.std.specs.Option.{option_map, ForSome}
use Rattle.nc_types.specs.declared.config.RouterId.{RouterId}
use Rattle.nc_types.specs.Network.{PlaceIn}
use Rattle.nc_types.specs.declared.addr.Addr.{Addr}
use Rattle.nc_tables.specs.Flows.{lets}
use Rattle.nc_tables.specs.State.{StateView}
use Rattle.nc_tables.specs.Forwarding as defined
use Rattle.nc_trace.specs.declared.alternative.Alternative.{Alternative}
use Rattle.nc_trace.specs.declared.packet.Packet.{Packet}
use Rattle.nc_trace.specs.declared.span.Span.{Span}
use Rattle.nc_trace.specs.Views.{alternative_view}

-- of each router its ways, where they were found
abbrev pub FoundWays : Type 0
FoundWays = List (Option (List defined.Alternative))

abbrev pub found_at : FoundWays → ℕ → Option (List defined.Alternative)
found_at found router = slice_index_or found router None

-- those that stand in a span
abbrev pub in_span : List Alternative → Span → List defined.Alternative
in_span ways span = map alternative_view (take (span.to - span.from) (drop span.from ways))

abbrev pub found_view : List (Option Span) → List Alternative → FoundWays
found_view spans ways = map (option_map (in_span ways)) spans

-- the span is one of those
pub record IsWithin (count : ℕ) (span : Span) : Type 0 where
  pub order : span.from ≤ span.to
  pub within : span.to ≤ count

abbrev pub AreWithin : List (Option Span) → List Alternative → Type 0
AreWithin spans ways = (router : ℕ) → ForSome (slice_index_or spans router None) (IsWithin (length ways))

-- a router is one of these
abbrev pub is_one_of : List RouterId → ℕ → Bool
is_one_of list router = list_any (λ other. other.0 == router) list

-- these are the routers that have a span
abbrev pub AreListed : List (Option Span) → List RouterId → Type 0
AreListed spans list = (router : ℕ) → is_some (slice_index_or spans router None) ≡ is_one_of list router

-- the spans are among the ways, and those of these routers
pub record AreKept (spans : List (Option Span)) (ways : List Alternative) (list : List RouterId) : Type 0 where
  pub within : AreWithin spans ways
  pub listed : AreListed spans list

-- the ways of a router were found
abbrev pub covers : FoundWays → ℕ → Bool
covers found router = is_some (found_at found router)

-- where a packet goes on to, if it does, passes
abbrev pub GoesTo : (ℕ → Type 0) → defined.Outcome → Type 0
GoesTo to defined.Deliver = Unit {0}
GoesTo to (defined.Go next) = to next.router
GoesTo to defined.Lost = Unit {0}

-- a router is in a list
pub record IsListed (list : List RouterId) (router : ℕ) : Type 0 where
  pub place : ℕ
  pub at : slice_get list place ≡ Some (record { 0 = router })

-- it is in a list, or doesn't exist
abbrev pub IsListedOrNone : ℕ → List RouterId → ℕ → Type 0
IsListedOrNone count list router = IsListed list router ⊎ (count ≤ router)

module _ (s : StateView) (from to : ℕ) where
  -- a way out of a router as a packet takes it that goes from one address to another: where it isn't let pass, it is lost
  abbrev pub taken : ℕ → defined.Alternative → defined.Alternative
  taken router way = record way { outcome = if lets s from to router way then way.outcome else defined.Lost }

  abbrev pub flow_ways : ℕ → List defined.Alternative
  flow_ways router = map (taken router) (defined.alternatives s.routers s.base s.bgp s.main router to)

-- the same of a packet that may come from anywhere: it takes each way as it is
abbrev pub taken_from : StateView → Option Addr → ℕ → ℕ → defined.Alternative → defined.Alternative
taken_from s None to router way = way
taken_from s (Some from) to router way = taken s from.0 to router way

abbrev pub all_from : StateView → Option Addr → ℕ → ℕ → List defined.Alternative → List defined.Alternative
all_from s None to router ways = ways
all_from s (Some from) to router ways = map (taken s from.0 to router) ways

module _ (s : StateView) (p : Packet) where
  -- the ways out of a router as the packet takes them
  abbrev pub ways_out : ℕ → List defined.Alternative
  ways_out router = all_from s p.from p.to.0 router (defined.alternatives s.routers s.base s.bgp s.main router p.to.0)

  -- the ways that were found are right
  abbrev pub AreWays : FoundWays → Type 0
  AreWays found = (router : ℕ) → ForSome (found_at found router) (λ ways. ways ≡ ways_out router)

  -- they lead to where a router passes
  abbrev pub LeadTo : (ℕ → Type 0) → FoundWays → Type 0
  LeadTo to found = (router : ℕ) → covers found router ≡ true → All (λ way. GoesTo to way.outcome) (ways_out router)

-- the ways of a router were found, or it doesn't exist; it may also be one of those that are listed
abbrev pub IsCoveredOrNone : ℕ → FoundWays → ℕ → Type 0
IsCoveredOrNone count found router = (covers found router ≡ true) ⊎ (count ≤ router)

abbrev pub IsCoveredOrListed : ℕ → List RouterId → FoundWays → ℕ → Type 0
IsCoveredOrListed count list found router = IsCoveredOrNone count found router ⊎ IsListed list router

-- where the ways of a router were found, so were those of each router to which they lead
abbrev pub IsClosed : StateView → Packet → FoundWays → Type 0
IsClosed s p found =
    (router place : ℕ) (way : defined.Alternative) (next : PlaceIn) → covers found router ≡ true → slice_get (ways_out s p router) place ≡ Some way
    → way.outcome ≡ defined.Go next → next.router < length s.routers → covers found next.router ≡ true

-- the ways that were found are right, and so were those of all routers to which they lead
pub record IsFoundTo (s : StateView) (p : Packet) (found : FoundWays) : Type 0 where
  pub ways : AreWays s p found
  pub closed : IsClosed s p found
