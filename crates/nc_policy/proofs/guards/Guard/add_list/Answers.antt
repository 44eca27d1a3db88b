use Rattle.std.proofs.Common.{◌<◌, length, arith}
use Rattle.std.proofs.lemmas.Option.{slice_get_within}
use Rattle.nc_policy.proofs.Outside.{none_held}
use Rattle.nc_policy.proofs.guards.Guard.add_list.Goals as goal

pub returns-clause-list : goal.returns-clause-list
returns-clause-list c = λ held out. none_held c.args.entries.now held (λ k e at permits. c.entries.invariant.entries k e (let lt : k < length c.args.entries.now = slice_get_within c.args.entries.now k e at in omega arith) at permits held out)
