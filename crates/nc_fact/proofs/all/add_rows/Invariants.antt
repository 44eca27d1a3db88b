use Rattle.std.proofs.Common.{◌≡◌, ◌++◌, map}
use Rattle.std.specs.List.{range_with_len}
use Rattle.nc_fact.specs.declared.fact.Fact.TheVariants.{Main}
use Rattle.nc_fact.proofs.all.add_rows.Given as goal

-- the facts of the rows so far
abbrev pub invariant-rows : goal.invariant-rows
invariant-rows l = l.facts.items ≡ l.fn.facts.items ++ map (Main l.router) (range_with_len 0 l.row)
