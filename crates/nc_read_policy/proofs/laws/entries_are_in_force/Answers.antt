use Rattle.nc_read_policy.proofs.EntryLaws.{ascend, each, all, filled}
use Rattle.nc_read_policy.proofs.laws.entries_are_in_force.Goals as goal

pub returns-clause-ascend : goal.returns-clause-ascend
returns-clause-ascend c = ascend

pub returns-clause-each : goal.returns-clause-each
returns-clause-each c = each

pub returns-clause-all : goal.returns-clause-all
returns-clause-all c = all

pub returns-clause-filled : goal.returns-clause-filled
returns-clause-filled c = filled
