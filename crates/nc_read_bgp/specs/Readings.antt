-- What a line says, as the code hands it on.
use Rattle.nc_lines.specs.Statements.{Reading, said_as}
use Rattle.nc_lines.specs.Readings.{reading_of}
use Rattle.nc_lines.specs.declared.statement.Reading.{Reading as Read}
use Rattle.nc_read_bgp.specs.declared.statement.NeighborStatement.{NeighborStatement}
use Rattle.nc_read_bgp.specs.declared.statement.NeighborStatement.TheVariants as ofs
use Rattle.nc_read_bgp.specs.declared.statement.BgpStatement.{BgpStatement}
use Rattle.nc_read_bgp.specs.declared.statement.BgpStatement.TheVariants as statements
use Rattle.nc_read_bgp.specs.Statements.{NeighborSays, RemoteAs, Source, Multihop, SelfHop, MapIn, MapOut, SendsCommunities, Shuts, Activates, ProcessSays, Opens, RouterId, MaxPaths, Relax, Agrees, Originates, Aggregates, Of}

-- what is said of a neighbor: names as they are written
abbrev pub neighbor_view : NeighborStatement → NeighborSays
neighbor_view (ofs.RemoteAs n) = RemoteAs n
neighbor_view (ofs.Source name) = Source name.now
neighbor_view ofs.Multihop = Multihop
neighbor_view ofs.SelfHop = SelfHop
neighbor_view (ofs.MapIn name) = MapIn name.now
neighbor_view (ofs.MapOut name) = MapOut name.now
neighbor_view ofs.SendsCommunities = SendsCommunities
neighbor_view ofs.Shuts = Shuts
neighbor_view ofs.Activates = Activates

-- what is said of the process, or of a thing of it
abbrev pub statement_view : BgpStatement → ProcessSays
statement_view (statements.Opens n) = Opens n
statement_view (statements.RouterId a) = RouterId a.0
statement_view (statements.MaxPaths n) = MaxPaths n
statement_view statements.Relax = Relax
statement_view statements.Agrees = Agrees
statement_view (statements.Network p) = Originates p
statement_view (statements.Aggregate p summary_only) = Aggregates p summary_only
statement_view (statements.Neighbor a s) = Of a.0 (neighbor_view s)

-- what a line says by its reading
abbrev pub neighbor_reading : Read NeighborStatement → Reading NeighborSays
neighbor_reading r = said_as neighbor_view (reading_of r)

abbrev pub statement_reading : Read BgpStatement → Reading ProcessSays
statement_reading r = said_as statement_view (reading_of r)
