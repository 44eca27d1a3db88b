use Rattle.std.proofs.Common.{Some}
use Rattle.nc_trace.specs.Levels.{over, step}
use Rattle.nc_trace.proofs.Marking.{found_stepped}
use Rattle.nc_trace.proofs.Numbers.{fewest_stay}
use Rattle.nc_trace.proofs.counting.lower_all.Goals as goal

pub times-init : goal.times-init
times-init c = record {
  backed = c.requires.backed;
  least = λ e. absurd cc;
}

pub returns-clause-fewest : goal.returns-clause-fewest
returns-clause-fewest c =
    let asked = c.args.asked in
    let found = c.args.found.now in
    fewest_stay (over asked.state.now asked.by asked.addr.0 (Some found)) (step asked.state.now asked.by asked.addr.0 (Some found))
    (found_stepped asked.state.now asked.by asked.addr.0 c.requires.asked.none found c.requires.found) c.times.fewest c.times.invariant.backed (c.times.invariant.least c.times-test.false)
