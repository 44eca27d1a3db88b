-- Ends and sides as the definition of sessions has them.
use Rattle.nc_types.specs.Config.{config_view, process_view}
use Rattle.nc_tables.specs.Sessions.{End as EndView, SourceOf, Side as SideView, Sides as SidesView}
use Rattle.nc_tables.specs.Rounds.{Link as LinkView}
use Rattle.nc_sessions.specs.declared.ends.End.{End}
use Rattle.nc_sessions.specs.declared.ends.Source.{Source}
use Rattle.nc_sessions.specs.declared.ends.Side.{Side}
use Rattle.nc_sessions.specs.declared.conditions.Sides.{Sides}
use Rattle.nc_sessions.specs.declared.links.Link.{Link}

abbrev pub end_view : End → EndView
end_view e = record { config = config_view e.config.now; process = process_view e.process.now; statement = e.statement.now }

abbrev pub source_view : Source → SourceOf
source_view s = record { iface = s.iface.0; addr = s.addr.0 }

abbrev pub side_view : Side → SideView
side_view s = record { router = s.router.0; place = s.place; end = end_view s.end; source = source_view s.source }

abbrev pub sides_view : Sides → SidesView
sides_view k = record { own = side_view k.own; peer = side_view k.peer }

abbrev pub link_view : Link → LinkView
link_view k = record { session = k.session; receiver = end_view k.receiver; sender = end_view k.sender; source = k.source.0 }
