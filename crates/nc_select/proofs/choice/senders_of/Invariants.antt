use Rattle.std.proofs.Common.{◌≡◌, ◌++◌, drop, map}
use Rattle.nc_select.specs.Senders.{senders_from}
use Rattle.nc_select.proofs.choice.senders_of.Given as goal

abbrev pub invariant-candidates : goal.invariant-candidates
invariant-candidates g l =
    l.senders.items ++ senders_from l.relax (g.C.Candidate.candidate_of l.best) l.place (drop l.place (map g.C.Candidate.candidate_of l.candidates))
    ≡ senders_from l.relax (g.C.Candidate.candidate_of l.best) 0 (map g.C.Candidate.candidate_of l.candidates)
