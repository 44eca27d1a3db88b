-- The state in which a network settles: its routers with all their tables.
use Rattle.std.specs.Prelude.{◌≡◌, ℕ, ◌≤◌, List, length, All}
use Rattle.nc_types.specs.declared.TheConstants.{ROUTER_LIMIT}
use Rattle.nc_types.specs.Config.{ConfigView}
use Rattle.nc_types.specs.Joining.{IsValid}
use Rattle.nc_tables.specs.declared.base.BaseRow.{BaseRow}
use Rattle.nc_tables.specs.declared.bgp.SessionRow.{SessionRow}
use Rattle.nc_tables.specs.declared.bgp.MainRow.{MainRow}
use Rattle.nc_tables.specs.Base.{base_tables}
use Rattle.nc_tables.specs.Sessions.{sessions}
use Rattle.nc_tables.specs.Rounds.{BgpRowView, AreBgpRows, IsStable}
use Rattle.nc_tables.specs.Main.{main_tables}

-- the routers of a network, and by router the rows of each table
pub record StateView : Type 0 where
  pub routers : List ConfigView
  pub base : List (List BaseRow)
  pub sessions : List (List SessionRow)
  pub bgp : List (List BgpRowView)
  pub main : List (List MainRow)

-- the state of a network in which BGP has this table
unfoldable pub state_at : List ConfigView → List (List BgpRowView) → StateView
state_at routers bgp =
    record {
      routers = routers;
      base = base_tables routers;
      sessions = sessions routers (base_tables routers);
      bgp = bgp;
      main = main_tables routers (base_tables routers) bgp;
    }

-- the routers are valid together, every table is as it is defined for them, and the BGP table is the first that no round changes
pub record IsState (s : StateView) : Type 0 where
  pub valid : IsValid s.routers
  pub few : length s.routers ≤ ROUTER_LIMIT
  pub tables : s ≡ state_at s.routers s.bgp
  pub rows : All AreBgpRows s.bgp
  pub rounds : ℕ
  pub stable : IsStable s.routers s.base s.sessions rounds s.bgp
