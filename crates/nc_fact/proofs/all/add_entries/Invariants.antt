use Rattle.std.proofs.Common.{◌≡◌, ◌++◌, drop}
use Rattle.std.specs.List.{flat_map}
use Rattle.nc_fact.specs.Roots.{entries_over}
use Rattle.nc_fact.proofs.all.add_entries.Given as goal

-- the facts so far and those over the sessions that are left are all
abbrev pub invariant-sessions : goal.invariant-sessions
invariant-sessions l = l.facts.items ++ flat_map (entries_over l.state l.router.0) (drop l.session-index l.sessions) ≡ l.fn.facts.items ++ flat_map (entries_over l.state l.router.0) l.sessions
