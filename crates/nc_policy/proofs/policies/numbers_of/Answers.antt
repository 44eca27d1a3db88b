use Rattle.std.proofs.Common.{sym, subst}
use Rattle.nc_policy.specs.Seen.{IsPrefixIndex}
use Rattle.nc_policy.proofs.policies.numbers_of.Goals as goal

pub returns : goal.returns
returns c = subst (IsPrefixIndex c.args.prefixes.now) (sym c.in_ok-numbers.ensures.ok) c.in_ok-table.ensures
