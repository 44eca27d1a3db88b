-- What the ways of packets rest on, on three routers: the first has two ways to a network that the second has and of which the third knows nothing.
use Rattle.std.specs.Prelude.{◌≡◌, ℕ, [], ◌∷◌, refl}
use Rattle.nc_types.specs.declared.addr.Addr.{Addr}
use Rattle.nc_types.specs.declared.config.RouterId.{RouterId}
use Rattle.nc_tables.specs.Base.{base_table, base_tables}
use Rattle.nc_tables.specs.Forwarding.{traces}
use Rattle.nc_tables.specs.Longest.{longest}
use Rattle.nc_tables.specs.Main.{main_table}
use Rattle.nc_tables.specs.State.{StateView}
use Rattle.nc_tables.specs.Cases.{address}
use Rattle.nc_tables.specs.CaseForwarding.{branching, branching_bgp, mains}
use Rattle.nc_fact.specs.Facts.{holds}
use Rattle.nc_fact.specs.declared.fact.Fact.TheVariants.{Connected, Base, Main, Step, Trace, AllStep, AllTrace}
use Rattle.nc_rules_route.specs.Parents.{parents}

abbrev state : StateView
state = record { routers = branching; base = base_tables branching; sessions = []; bgp = branching_bgp; main = mains }

abbrev at : ℕ → RouterId
at router = record { 0 = router }

abbrev to : ℕ → Addr
to addr = record { 0 = addr }

-- a host on the second router's network, one on the first router's own, one behind a BGP row, and an address of the second router
abbrev host : Addr
host = to (address 10 2 0 9)

abbrev near : Addr
near = to (address 10 1 0 9)

abbrev beyond : Addr
beyond = to (address 10 9 0 1)

abbrev owned : Addr
owned = to (address 10 2 0 1)

-- a step over a static row: the row, the interface to which it leads, and the way from there over one hop fewer; where it is delivered, the
-- row alone
pub by_static : parents state (Step (at 0) host 0 1) ≡ Main (at 0) 3 ∷ Connected (at 1) (record { 0 = 0 }) ∷ Trace (at 1) host 0 ∷ []
unfolding parents base_table longest main_table
by_static = refl

pub delivered : parents state (Step (at 0) near 0 0) ≡ Main (at 0) 2 ∷ []
unfolding parents base_table longest main_table
delivered = refl

-- over a BGP row the base row toward its next hop stands behind the main row
pub by_bgp : parents state (Step (at 0) beyond 1 5) ≡ Main (at 0) 7 ∷ Base (at 0) 8 ∷ Connected (at 2) (record { 0 = 1 }) ∷ Trace (at 2) beyond 4 ∷ []
unfolding parents base_table longest main_table
by_bgp = refl

-- by every way it goes on by every way
pub by_every : parents state (AllStep (at 0) host 1 1) ≡ Main (at 0) 4 ∷ Connected (at 2) (record { 0 = 1 }) ∷ AllTrace (at 2) host 0 ∷ []
unfolding parents base_table longest main_table
by_every = refl

-- some way: those that lead there; every way: each, though the second leads nowhere; and the owner's interface alone
pub some : parents state (Trace (at 0) host 1) ≡ Step (at 0) host 0 1 ∷ []
unfolding parents holds base_table longest main_table traces
some = refl

pub every : parents state (AllTrace (at 0) host 1) ≡ AllStep (at 0) host 0 1 ∷ AllStep (at 0) host 1 1 ∷ []
unfolding parents base_table longest main_table
every = refl

pub by_owner : parents state (Trace (at 1) owned 3) ≡ Connected (at 1) (record { 0 = 1 }) ∷ []
unfolding parents base_table longest main_table
by_owner = refl
