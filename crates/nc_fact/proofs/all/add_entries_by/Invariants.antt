use Rattle.std.proofs.Common.{◌≡◌, ◌++◌, length}
use Rattle.nc_sessions.specs.Views.{link_view}
use Rattle.nc_fact.specs.Accepting.{entries_by}
use Rattle.nc_fact.proofs.all.add_entries_by.Given as goal

-- the facts so far and those of the rows that are left are all
abbrev pub invariant-rows : goal.invariant-rows
invariant-rows l =
    l.facts.items ++ entries_by l.inputs.base.now l.router.0 l.place (link_view l.adjacency.link) l.rows
    ≡ l.fn.facts.items ++ entries_by l.inputs.base.now l.router.0 l.place (link_view l.adjacency.link) l.fn.rows

abbrev pub decreases-rows : goal.decreases-rows
decreases-rows l = length l.rows
