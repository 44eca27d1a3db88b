use Rattle.std.proofs.Common.{◌≡◌, ◌-◌}
use Rattle.std.specs.List.{range_with_len}
use Rattle.nc_fact.proofs.Asked.{facts_at}
use Rattle.nc_fact.proofs.tested.asked_rows.Given as goal

-- the facts of the rows so far
abbrev pub invariant-rows : goal.invariant-rows
invariant-rows l = l.facts.items ≡ facts_at l.state l.router l.via (range_with_len l.initial.place (l.place - l.initial.place))
