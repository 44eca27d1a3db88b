use Rattle.std.proofs.Common.{sym, ap, ◌∙◌}
use Rattle.nc_reader.specs.Steps.{Heads}
use Rattle.nc_reader.proofs.KnownLemmas.{list_line, interface_line, route_line}
use Rattle.nc_reader.proofs.known.known_header.Goals as goal

pub returns-in-Some : goal.returns-in-Some
returns-in-Some c = λ later. list_line _ _ later c.in-Some.ensures.whole c.in-Some.ensures.gap ∙ ap Heads (sym c.prefix_list.ensures)

pub returns-in-Some-behind_header : goal.returns-in-Some-behind_header
returns-in-Some-behind_header c = λ later. interface_line _ _ later c.in-Some-behind_header.ensures.whole c.in-Some-behind_header.ensures.gap ∙ ap Heads (sym c.behind_interface.ensures)

pub returns-in-Some-behind_route : goal.returns-in-Some-behind_route
returns-in-Some-behind_route c = λ later. route_line _ _ later c.in-Some-behind_route.ensures.whole c.in-Some-behind_route.ensures.gap
