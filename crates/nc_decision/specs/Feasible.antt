-- A feasible route, as the definitions of BGP have it.
use Rattle.std.specs.Prelude.{◌<◌, length}
use Rattle.nc_types.specs.declared.TheConstants.{PATH_LIMIT}
use Rattle.nc_tables.specs.declared.bgp.Chosen.{Chosen}
use Rattle.nc_tables.specs.Rounds.{begun, learnt_from}
use Rattle.nc_decision.specs.declared.feasible.Way.{Way}
use Rattle.nc_decision.specs.declared.feasible.Way.TheVariants.{Begun, Bare, Learnt}
use Rattle.nc_decision.specs.Bare.{bare_from}
use Rattle.nc_message.specs.Views.{accepted_view, advertised, learnt_as, HasId, IsAccepted}

-- the candidate that would be made: begun by the router, or learnt by the neighbor statement at a place
abbrev pub way_view : Way → Chosen
way_view (Begun prefix from) = begun prefix from
way_view (Bare place bare best) = bare_from place bare.now best.now
way_view (Learnt place taken) = learnt_from place (accepted_view (learnt_as taken))

-- what was learnt was accepted, and the router id of its sender, where it is known, is so; where nothing stood on the way, the path has room
-- for the sender's number
abbrev pub IsSound : Way → Type 0
IsSound (Begun prefix from) = Unit {0}
IsSound (Bare place bare best) = length best.now.route.path < PATH_LIMIT
IsSound (Learnt place taken) = IsAccepted (learnt_as taken) × HasId (advertised taken.sent)
