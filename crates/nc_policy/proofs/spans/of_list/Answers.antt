use Rattle.std.proofs.Common.{◌<◌, length, arith}
use Rattle.std.proofs.lemmas.Option.{slice_get_within}
use Rattle.nc_policy.proofs.Outside.{outside_none}
use Rattle.nc_policy.proofs.spans.of_list.Goals as goal

pub returns : goal.returns
returns c = λ p few out. outside_none c.args.entries.now c.entries.span (λ k e at. c.entries.invariant k e (let lt : k < length c.args.entries.now = slice_get_within c.args.entries.now k e at in omega arith) at) p few out
