use Rattle.std.proofs.Common.{◌≡◌, map}
use Rattle.nc_types.specs.Config.{ClauseView, clause_view}
use Rattle.nc_policy.specs.Indexes.{place_from}
use Rattle.nc_policy.proofs.clauses.clause_from.Given as goal

-- no clause of the map stands before this place
abbrev pub invariant-clauses : goal.invariant-clauses
invariant-clauses l = place_from l.name l.place (map (λ (k : ClauseView). k.map_name) (map clause_view l.clauses)) ≡ place_from l.name l.from (map (λ (k : ClauseView). k.map_name) (map clause_view l.clauses))
