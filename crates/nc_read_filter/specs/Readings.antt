-- What a line says of a list, as the code hands it on.
use Rattle.nc_read_filter.specs.declared.filters.Statement.{Statement}
use Rattle.nc_read_filter.specs.declared.groups.GroupStatement.{GroupStatement}
use Rattle.nc_read_filter.specs.declared.lists.ListHead.{ListHead}
use Rattle.nc_read_filter.specs.Filters.{ListSays}
use Rattle.nc_read_filter.specs.Groups.{GroupSays}
use Rattle.nc_read_filter.specs.Lists.{Head}

abbrev pub head_view : ListHead → Head
head_view h = record { name = h.name.now; standard = h.standard }

abbrev pub statement_view : Statement → ListSays
statement_view s = record { list = s.list.now; rule = s.rule }

abbrev pub group_view : GroupStatement → GroupSays
group_view g = record { list = g.list.now; inward = g.inward }
