-- What packets rest on that access lists have to let pass, on two routers with two links: a list denies what comes in from one of them to a
-- host behind the second router.
use Rattle.std.specs.Prelude.{◌≡◌, ℕ, true, false, List, [], ◌∷◌, None, refl}
use Rattle.nc_types.specs.declared.addr.Addr.{Addr}
use Rattle.nc_types.specs.declared.config.IfaceId.{IfaceId}
use Rattle.nc_types.specs.declared.config.RouterId.{RouterId}
use Rattle.nc_types.specs.declared.filters.AddrMatch.{AddrMatch}
use Rattle.nc_types.specs.Config.{ConfigView}
use Rattle.nc_tables.specs.Base.{base_table, base_tables}
use Rattle.nc_tables.specs.Cases.{address, prefix, interface, route_to, router}
use Rattle.nc_tables.specs.Filters.{passing}
use Rattle.nc_tables.specs.Flows.{flows}
use Rattle.nc_tables.specs.Longest.{longest}
use Rattle.nc_tables.specs.Main.{main_table, main_tables}
use Rattle.nc_tables.specs.State.{StateView}
use Rattle.nc_fact.specs.Facts.{holds}
use Rattle.nc_fact.specs.declared.fact.Fact.TheVariants.{Element, Connected, Main, Pass, FlowStep, Flow}
use Rattle.nc_rules_route.specs.Parents.{parents}

abbrev to : ℕ → Addr
to addr = record { 0 = addr }

abbrev at : ℕ → RouterId
at router = record { 0 = router }

abbrev by : ℕ → IfaceId
by iface = record { 0 = iface }

abbrev any : AddrMatch
any = record { addr = to 0; wild = to (address 255 255 255 255) }

-- the packets' addresses: two from where they come, and the host to which they go
abbrev near : Addr
near = to (address 10 1 0 5)

abbrev far : Addr
far = to (address 10 3 0 1)

abbrev host : Addr
host = to (address 10 2 0 9)

-- the list denies packets from 10.1.0.0/24 to the host; its second entry is of another protocol
abbrev second : ConfigView
second =
    record
    (router
    (interface (1 ∷ []) (address 10 0 12 2) (prefix 10 0 12 0 30) ∷ interface (2 ∷ []) (address 10 0 13 2) (prefix 10 0 13 0 30)
    ∷ interface (3 ∷ []) (address 10 2 0 1) (prefix 10 2 0 0 24) ∷ [])
    [] None [] []) {
      filters =
          record {
            list = 70 ∷ [];
            permit = false;
            ip = true;
            from = record { addr = to (address 10 1 0 0); wild = to (address 0 0 0 255) };
            to = record { addr = host; wild = to 0 };
            element = 4;
          }
          ∷ record { list = 70 ∷ []; permit = true; ip = false; from = any; to = any; element = 5 }
          ∷ record { list = 70 ∷ []; permit = true; ip = true; from = any; to = any; element = 6 } ∷ [];
      groups = record { iface = 1 ∷ []; inward = true; list = 70 ∷ []; element = 3 } ∷ [];
    }

abbrev routers : List ConfigView
routers =
    router
    (interface (1 ∷ []) (address 10 0 12 1) (prefix 10 0 12 0 30) ∷ interface (2 ∷ []) (address 10 0 13 1) (prefix 10 0 13 0 30)
    ∷ interface (3 ∷ []) (address 10 1 0 1) (prefix 10 1 0 0 24) ∷ [])
    (route_to (prefix 10 2 0 0 24) (address 10 0 12 2) ∷ route_to (prefix 10 2 0 0 24) (address 10 0 13 2) ∷ []) None [] []
    ∷ second ∷ []

abbrev state : StateView
state = record { routers = routers; base = base_tables routers; sessions = []; bgp = [] ∷ [] ∷ []; main = main_tables routers (base_tables routers) ([] ∷ [] ∷ []) }

-- the packet that the list denies takes the other link alone, the other packet both
pub denied : parents state (Flow (at 0) near host 1) ≡ FlowStep 1 (at 0) near host 1 ∷ []
unfolding parents holds base_table longest main_table flows passing
denied = refl

pub permitted : parents state (Flow (at 0) far host 1) ≡ FlowStep 1 (at 0) far host 0 ∷ FlowStep 1 (at 0) far host 1 ∷ []
unfolding parents holds base_table longest main_table flows passing
permitted = refl

-- a step rests on the row, the interface to which it leads, the packet's way from there, and on what lets it out and in
pub over_a_link : parents state (FlowStep 30 (at 0) near host 1) ≡ Main (at 0) 4 ∷ Connected (at 1) (by 1) ∷ Flow (at 1) near host 29 ∷ Pass false (at 0) (by 1) near host ∷ Pass true (at 1) (by 1) near host ∷ []
unfolding parents base_table longest main_table
over_a_link = refl

pub delivered : parents state (FlowStep 29 (at 1) near host 0) ≡ Main (at 1) 2 ∷ Pass false (at 1) (by 2) near host ∷ []
unfolding parents base_table longest main_table
delivered = refl

-- the entry that decides, and the filter that names its list; an interface without a filter lets pass what it will
pub let_in_by_entry : parents state (Pass true (at 1) (by 0) far host) ≡ Connected (at 1) (by 0) ∷ Element (record { 0 = 3 }) ∷ Element (record { 0 = 6 }) ∷ []
unfolding parents passing
let_in_by_entry = refl

pub without_filter : parents state (Pass false (at 1) (by 0) near host) ≡ Connected (at 1) (by 0) ∷ []
unfolding parents passing
without_filter = refl

pub not_let_in : holds state (Pass true (at 1) (by 0) near host) ≡ false
unfolding holds passing
not_let_in = refl
