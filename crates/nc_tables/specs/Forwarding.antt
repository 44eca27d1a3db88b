-- Where the main tables of a network lead a packet.
use Rattle.std.specs.Prelude.{ℕ, zero, suc, Bool, true, false, ◌&&◌, ◌||◌, nat_lt, nat_le, List, [], ◌∷◌, length, map, Option, Some, None, option_and_then, slice_get, slice_index_or, if◌then◌else◌}
use Rattle.std.specs.List.{flat_map, list_any, list_all}
use Rattle.std.specs.Option.{option_map, option_map_or, is_none}
use Rattle.nc_types.specs.declared.TheConstants.{HOP_LIMIT}
use Rattle.nc_types.specs.Config.{ConfigView}
use Rattle.nc_types.specs.Network.{PlaceIn, owner_of}
use Rattle.nc_tables.specs.declared.base.BaseRow.{BaseRow}
use Rattle.nc_tables.specs.declared.base.BaseFrom.{BaseFrom}
use Rattle.nc_tables.specs.declared.base.BaseFrom.TheVariants.{Connected, Static, Null}
use Rattle.nc_tables.specs.declared.bgp.MainRow.{MainRow}
use Rattle.nc_tables.specs.declared.bgp.MainFrom.{MainFrom}
use Rattle.nc_tables.specs.declared.bgp.MainFrom.TheVariants.{Base, Bgp, Discard}
use Rattle.nc_tables.specs.Longest.{longest}
use Rattle.nc_tables.specs.Reach.{Exit, rows_of, hits, exit_of, leads_to, owns}
use Rattle.nc_tables.specs.Rounds.{BgpRowView, chosen_at}

-- what comes of a packet by one way: it is delivered on a network, goes to an interface of another router, or is lost
pub data Outcome : Type 0 where
  Deliver : Outcome
  Go : PlaceIn → Outcome
  Lost : Outcome

-- one way out: the main row, the base row by which a BGP row's next hop is reached, and what comes of the packet
pub record Alternative : Type 0 where
  pub main : ℕ
  pub base : Option ℕ
  pub outcome : Outcome

abbrev pub going : Option PlaceIn → Outcome
going None = Lost
going (Some next) = Go next

-- a packet arrives where it is delivered, or goes to a router from which it arrives
abbrev pub arrives_by : (ℕ → Bool) → Outcome → Bool
arrives_by from Deliver = true
arrives_by from (Go next) = from next.router
arrives_by from Lost = false

-- some way passes
abbrev pub some_way : (Alternative → Bool) → List Alternative → Bool
some_way passes ways = list_any passes ways

-- there is a way, and each passes
abbrev pub each_way : (Alternative → Bool) → List Alternative → Bool
each_way passes ways = nat_lt 0 (length ways) && list_all passes ways

-- where no hop is left, from no router
abbrev pub nowhere : ℕ → Bool
nowhere router = false

-- whether a packet for an address goes on from a router by one of so many hops: some hop has to be left
abbrev pub goes_on : (ℕ → ℕ → ℕ → Bool) → ℕ → ℕ → ℕ → Bool
goes_on from addr zero router = false
goes_on from addr (suc hops) router = from hops router addr

module _ (mains : List (List MainRow)) where
  -- the main rows of a router
  abbrev pub mains_of : ℕ → List MainRow
  mains_of router = slice_index_or mains router []

module _ (table : List (List BgpRowView)) where
  -- the next hop of the chosen route of a BGP row
  abbrev pub bgp_hop : ℕ → MainRow → ℕ → Option ℕ
  bgp_hop router row place = option_map (λ x. x.route.next_hop.0) (slice_get (chosen_at table router row.prefix) place)

module _ (routers : List ConfigView) (tables : List (List BaseRow)) where
  -- a connected row delivers what no router owns; all else goes where the row leads, or is lost
  abbrev pub outcome_by : ℕ → ℕ → ℕ → BaseFrom → Outcome
  outcome_by router addr place (Connected iface) = if is_none (owner_of routers addr) then Deliver else going (leads_to routers tables router addr place)
  outcome_by router addr place (Static at iface) = going (leads_to routers tables router addr place)
  outcome_by router addr place (Null at) = Lost

  abbrev pub outcome_of : ℕ → ℕ → ℕ → Outcome
  outcome_of router addr place = option_map_or (λ row. outcome_by router addr place row.from) (slice_get (rows_of tables router) place) Lost

module _ (routers : List ConfigView) (tables : List (List BaseRow)) (table : List (List BgpRowView)) (mains : List (List MainRow)) where
  -- the ways of one main row
  abbrev pub ways_of : ℕ → ℕ → ℕ → MainRow → MainFrom → List Alternative
  ways_of router addr main row (Base place) = record { main = main; base = None; outcome = outcome_of routers tables router addr place } ∷ []
  ways_of router addr main row (Discard place) = record { main = main; base = None; outcome = Lost } ∷ []
  ways_of router addr main row (Bgp place) =
      option_map_or (λ hop. map (λ hit. record { main = main; base = Some hit; outcome = going (leads_to routers tables router hop hit) }) (hits tables router hop)) (bgp_hop table router row place) []

  -- the ways out of a router for an address, by the main rows of the longest prefix
  abbrev pub alternatives : ℕ → ℕ → List Alternative
  alternatives router addr =
      flat_map (λ main. option_map_or (λ row. ways_of router addr main row row.from) (slice_get (mains_of mains router) main) [])
      (longest (map (λ row. row.prefix) (mains_of mains router)) addr)

  -- the way out by a main row: that of its base row for the address, or that of the base row toward its next hop
  abbrev pub exit_by_main : ℕ → ℕ → MainRow → MainFrom → Option ℕ → Option Exit
  exit_by_main router addr row (Base place) hit = exit_of routers tables router addr place
  exit_by_main router addr row (Discard place) hit = None
  exit_by_main router addr row (Bgp place) hit = option_and_then (λ hop. option_and_then (exit_of routers tables router hop) hit) (bgp_hop table router row place)

  -- the interface by which an alternative leaves a router; one that discards has none
  abbrev pub exit_iface : ℕ → ℕ → Alternative → Option ℕ
  exit_iface router addr way =
      option_and_then (λ row. option_map (λ exit. exit.iface) (exit_by_main router addr row row.from way.base)) (slice_get (mains_of mains router) way.main)

  -- whether some way leads to the owner of an address, or to a network on which it is delivered, over at most so many hops
  unfoldable pub traces : ℕ → ℕ → ℕ → Bool
  traces zero router addr = owns routers router addr || some_way (λ way. arrives_by nowhere way.outcome) (alternatives router addr)
  traces (suc hops) router addr =
      owns routers router addr || some_way (λ way. arrives_by (λ next. traces hops next addr) way.outcome) (alternatives router addr)

  -- whether there is a way and every one does
  unfoldable pub all_trace : ℕ → ℕ → ℕ → Bool
  all_trace zero router addr = owns routers router addr || each_way (λ way. arrives_by nowhere way.outcome) (alternatives router addr)
  all_trace (suc hops) router addr =
      owns routers router addr || each_way (λ way. arrives_by (λ next. all_trace hops next addr) way.outcome) (alternatives router addr)

  -- a way passes over at most so many hops, of which there are no more than the limit
  abbrev pub step_by : (ℕ → ℕ → ℕ → Bool) → ℕ → ℕ → ℕ → ℕ → Bool
  step_by from router addr number hops =
      nat_le hops HOP_LIMIT && option_map_or (λ way. arrives_by (goes_on from addr hops) way.outcome) (slice_get (alternatives router addr) number) false

  -- one step: the alternative of this number delivers a packet, or leads to a router from which some way leads on
  abbrev pub step_at : ℕ → ℕ → ℕ → ℕ → Bool
  step_at = step_by traces

  -- the same where every way has to lead on
  abbrev pub all_step_at : ℕ → ℕ → ℕ → ℕ → Bool
  all_step_at = step_by all_trace
