-- What a router accepts over one of its sessions, by the rows of the peer.
use Rattle.std.specs.Prelude.{◌≡◌, ℕ, Bool, List, Option, filter, is_some, map, option_and_then}
use Rattle.nc_tables.specs.declared.base.BaseRow.{BaseRow}
use Rattle.nc_types.specs.Cidr.{Cidr}
use Rattle.nc_tables.specs.Rounds.{Accepted, BgpRowView, Link, accepted_of, best_at, message_of}
use Rattle.nc_tables.specs.Sessions.{first_of}
use Rattle.nc_tables.specs.State.{StateView}
use Rattle.nc_message.specs.declared.inputs.RoutingInputs.{RoutingInputs}
use Rattle.nc_message.specs.Inputs.{AreRoutingInputs}
use Rattle.nc_fact.specs.declared.fact.Fact.{Fact}
use Rattle.nc_fact.specs.declared.fact.Fact.TheVariants.{Entry}

-- the tables of a state, from which is told what its routers learn
pub record AreInputsOf (s : StateView) (g : RoutingInputs) : Type 0 where
  pub inputs : AreRoutingInputs g
  pub network : g.network.now ≡ s.routers
  pub base : g.base.now ≡ s.base
  pub sessions : g.sessions.now ≡ s.sessions

-- the receiver, which is this router, accepts the message of the best of a row
abbrev pub accepts : List (List BaseRow) → ℕ → Link → BgpRowView → Bool
accepts base router k row = is_some (option_and_then (accepted_of base router) (option_and_then (message_of k) (first_of row.chosen)))

-- what it accepts of the best that the peer has chosen of a prefix
abbrev pub accepted_by : StateView → ℕ → Link → Cidr → Option Accepted
accepted_by s router k prefix = option_and_then (accepted_of s.base router) (option_and_then (message_of k) (best_at s.bgp k.session.peer.0 prefix))

-- the facts of what it accepts of some rows, by the place of its neighbor statement
abbrev pub entries_by : List (List BaseRow) → ℕ → ℕ → Link → List BgpRowView → List Fact
entries_by base router place k rows = map (λ row. Entry (record { 0 = router }) place row.prefix) (filter (accepts base router k) rows)
