use Rattle.std.proofs.Common.{rules, ◌≡◌, None}
use Rattle.nc_reader.proofs.FaultLemmas.{lowest-first, lowest-other, lowest-none}
use Rattle.nc_reader.proofs.faults.lowest_of.Goals as goal

pub returns-in_default : goal.returns-in_default
returns-in_default c = λ fs same. let is : c.args.told ≡ None = search rules in lowest-none fs c.args.told c.args.fault is same

pub returns-then-first-fault : goal.returns-then-first-fault
returns-then-first-fault c = λ fs same. lowest-first fs c.args.told c.in-Some.first c.args.fault c.in-Some.is c.if-first-fault.true same

pub returns : goal.returns
returns c = λ fs same. lowest-other fs c.args.told c.in-Some.first c.args.fault c.in-Some.is c.if-first-fault.false same
