use Rattle.std.proofs.Common.{◌≡◌, ◌≤◌, length}
use Rattle.nc_policy.proofs.Tabling.{ArePlaces}
use Rattle.nc_policy.proofs.decisions.Decisions.of.Given as goal

-- the prefixes so far have the places of their decisions
abbrev pub invariant-prefixes : goal.invariant-prefixes
invariant-prefixes l = record {
  count : length l.places.items ≡ l.found-index;
  few : length l.each.items ≤ l.found-index;
  own : ArePlaces l.best l.each.items l.places.items l.found-index;
}
