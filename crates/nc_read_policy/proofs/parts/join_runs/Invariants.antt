use Rattle.std.proofs.Common.{◌≡◌, ◌++◌, map, length}
use Rattle.nc_read_policy.specs.Lists.{parts_of}
use Rattle.nc_read_policy.specs.Outcomes.{entry_part}
use Rattle.nc_read_policy.proofs.RunLemmas.{Rises}
use Rattle.nc_read_policy.proofs.parts.join_runs.Given as goal

abbrev pub invariant-runs : goal.invariant-runs
invariant-runs l = record {
  made : map entry_part l.parts.items ++ parts_of l.rest ≡ parts_of l.entries;
  rises : Rises l.rest;
}

abbrev pub decreases-runs : goal.decreases-runs
decreases-runs l = length l.rest
