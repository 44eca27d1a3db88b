use Rattle.std.proofs.Common.{sym, ap, ◌∙◌}
use Rattle.nc_policy.specs.Passing.{communities_by}
use Rattle.nc_decision.proofs.learnt.communities_of.Goals as goal

pub returns-then-is_bare : goal.returns-then-is_bare
returns-then-is_bare c = c.new.ensures ∙ sym (c.is_bare.ensures c.if-is_bare.true)

pub returns : goal.returns
returns c = c.in_ok-left.ensures ∙ ap (communities_by c.args.taken.now.into) c.carried-held.ensures
