-- What a session rests on, on two routers with one link between them.
use Rattle.std.specs.Prelude.{◌≡◌, List, [], ◌∷◌, Some, refl}
use Rattle.nc_types.specs.Config.{ElementView, ConfigView}
use Rattle.nc_types.specs.declared.config.Kind.TheVariants.{Process}
use Rattle.nc_tables.specs.Base.{base_table, base_tables}
use Rattle.nc_tables.specs.Longest.{longest}
use Rattle.nc_tables.specs.Reach.{reaches}
use Rattle.nc_tables.specs.State.{StateView}
use Rattle.nc_tables.specs.Cases.{address, process, sessions_in}
use Rattle.nc_tables.specs.CaseSessions.{left, right, to_right, to_left, to_nobody}
use Rattle.nc_fact.specs.declared.fact.Fact.TheVariants.{Element, Connected, Reach, Session}
use Rattle.nc_rules_route.specs.Parents.{parents}

-- an element, of which the kind and the lines tell nothing here
abbrev any : ElementView
any = record { kind = Process; lines = [] }

-- the first router has five elements: the fourth is its process and the fifth its statement for the second router; of the second router they are the third and the first
abbrev network : List ConfigView
network =
    record (left []) {
      elements = any ∷ any ∷ any ∷ any ∷ any ∷ [];
      process = Some (record (process 65001 1 (to_nobody ∷ record to_right { element = 4 } ∷ []) [] []) { element = 3 });
    }
    ∷ record (right []) { elements = any ∷ any ∷ any ∷ []; process = Some (record (process 65002 1 (to_left ∷ []) [] []) { element = 2 }) } ∷ []

abbrev state : StateView
state = record { routers = network; base = base_tables network; sessions = sessions_in network; bgp = []; main = [] }

-- the elements of the first router come first, then those of the second; its interface on the link is the second, that of the other router the first; and each comes to the other's address
pub both_sides : parents state (Session (record { 0 = 0 }) 1)
    ≡ Element (record { 0 = 3 }) ∷ Element (record { 0 = 4 }) ∷ Element (record { 0 = 7 }) ∷ Element (record { 0 = 5 })
    ∷ Connected (record { 0 = 0 }) (record { 0 = 1 }) ∷ Connected (record { 0 = 1 }) (record { 0 = 0 })
    ∷ Reach (record { 0 = 0 }) (record { 0 = address 10 0 12 2 }) 30 ∷ Reach (record { 0 = 1 }) (record { 0 = address 10 0 12 1 }) 30 ∷ []
unfolding parents base_table reaches longest
both_sides = refl

-- seen from the second router the sides change places
pub from_there : parents state (Session (record { 0 = 1 }) 0)
    ≡ Element (record { 0 = 7 }) ∷ Element (record { 0 = 5 }) ∷ Element (record { 0 = 3 }) ∷ Element (record { 0 = 4 })
    ∷ Connected (record { 0 = 1 }) (record { 0 = 0 }) ∷ Connected (record { 0 = 0 }) (record { 0 = 1 })
    ∷ Reach (record { 0 = 1 }) (record { 0 = address 10 0 12 1 }) 30 ∷ Reach (record { 0 = 0 }) (record { 0 = address 10 0 12 2 }) 30 ∷ []
unfolding parents base_table reaches longest
from_there = refl
