use Rattle.std.proofs.Common.{◌≡◌, ◌++◌, map, drop}
use Rattle.nc_fact.specs.declared.fact.Fact.TheVariants.{Session}
use Rattle.nc_fact.proofs.all.add_sessions.Given as goal

-- the facts so far and those of the sessions that are left are all
abbrev pub invariant-rows : goal.invariant-rows
invariant-rows l = l.facts.items ++ map (λ row. Session l.router row.neighbor) (drop l.row-index l.rows) ≡ l.fn.facts.items ++ map (λ row. Session l.router row.neighbor) l.rows
