-- What a header and a statement say, as the code hands them on.
use Rattle.std.specs.List.{filter_map}
use Rattle.nc_lines.specs.Lines.{words_of}
use Rattle.nc_lines.specs.Statements.{Reading, said_as}
use Rattle.nc_lines.specs.Readings.{reading_of}
use Rattle.nc_lines.specs.declared.statement.Reading.{Reading as Read}
use Rattle.nc_read_policy.specs.declared.header.ClauseHeader.{ClauseHeader}
use Rattle.nc_read_policy.specs.declared.setting.Setting.{Setting}
use Rattle.nc_read_policy.specs.declared.setting.Setting.TheVariants as sets
use Rattle.nc_read_policy.specs.Clauses.{Header, ClauseStatement, Opens, Matches, MatchesCommunities, SetsPreference, SetsMetric, Prepends, SetsOrigin, SetsCommunities, asn_of}

-- a header, with its map's name
abbrev pub header_view : ClauseHeader → Header
header_view h = record { map_name = h.map.now; number = h.number; permit = h.permit }

-- a statement: names and numbers are the words of what is left of its line
abbrev pub statement_view : Setting → ClauseStatement
statement_view (sets.Opens h) = Opens (header_view h)
statement_view (sets.Matches names) = Matches (words_of names.now)
statement_view (sets.MatchesCommunities names) = MatchesCommunities (words_of names.now)
statement_view (sets.Preference n) = SetsPreference n
statement_view (sets.Metric n) = SetsMetric n
statement_view (sets.Prepend numbers) = Prepends (filter_map asn_of (words_of numbers.now))
statement_view (sets.Origin code) = SetsOrigin code
statement_view (sets.Communities set additive) = SetsCommunities (record { values = set; additive = additive })

-- what a header says by its reading
abbrev pub header_reading : Read ClauseHeader → Reading Header
header_reading r = said_as header_view (reading_of r)

-- what a line says by its reading
abbrev pub statement_reading : Read Setting → Reading ClauseStatement
statement_reading r = said_as statement_view (reading_of r)
