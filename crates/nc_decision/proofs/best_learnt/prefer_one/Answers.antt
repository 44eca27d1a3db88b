use Rattle.std.proofs.Common.{sym, ◌∙◌}
use Rattle.nc_decision.proofs.Preferred.{gives_way, stays_with}
use Rattle.nc_decision.proofs.best_learnt.prefer_one.Goals as goal

pub returns-then-is_preferred_to : goal.returns-then-is_preferred_to
returns-then-is_preferred_to c = stays_with c.args.route c.args.best.now (sym c.is_preferred_to.ensures ∙ c.if-is_preferred_to.true)

pub returns : goal.returns
returns c = gives_way c.args.route c.args.best.now (sym c.is_preferred_to.ensures ∙ c.if-is_preferred_to.false)
