-- A network with its tables, from which it follows what its routers learn.
use Rattle.std.specs.Prelude.{◌≡◌, ℕ, List, length, IfSome, Some, slice_get}
use Rattle.nc_types.specs.Cidr.{Cidr}
use Rattle.nc_types.specs.Config.{ConfigView}
use Rattle.nc_tables.specs.Rounds.{Link}
use Rattle.nc_tables.specs.declared.bgp.Chosen.{Chosen}
use Rattle.nc_policy.specs.Indexes.{ArePolicies}
use Rattle.nc_message.specs.declared.inputs.RoutingInputs.{RoutingInputs}
use Rattle.nc_message.specs.Adjacencies.{AreAdjacencies}

-- each router has a list of base rows and one of sessions, and the tables of its maps; where adjacencies are there they are those of the sessions
pub record AreRoutingInputs (g : RoutingInputs) : Type 0 where
  pub base : length g.base.now ≡ length g.network.now
  pub sessions : length g.sessions.now ≡ length g.network.now
  pub policies : ArePolicies g.network.now g.policies.now
  pub adjacencies : IfSome g.adjacencies (λ l. AreAdjacencies g.network.now g.base.now g.sessions.now l.now)

-- both ends of a session are those of routers: the receiver of this one, the sender of the session's peer
pub record IsBetween (routers : List ConfigView) (router : ℕ) (k : Link) : Type 0 where
  pub receiver : slice_get routers router ≡ Some k.receiver.config
  pub sender : slice_get routers k.session.peer.0 ≡ Some k.sender.config

-- a candidate of a prefix
abbrev pub IsOf : Cidr → Chosen → Type 0
IsOf prefix x = x.route.prefix ≡ prefix
