use Rattle.std.proofs.Common.{◌<◌, map, length}
use Rattle.std.specs.List.{IsFirstBest}
use Rattle.nc_select.proofs.Best.{is_preferred}
use Rattle.nc_select.proofs.choice.best_place.Given as goal

abbrev pub invariant-candidates : goal.invariant-candidates
invariant-candidates g l = record {
  first : IsFirstBest is_preferred (map g.C.Candidate.candidate_of l.candidates) l.place l.best;
  within : l.best < length l.candidates;
}
