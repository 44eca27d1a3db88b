use Rattle.std.proofs.Common.{◌∙◌}
use Rattle.nc_fact.specs.declared.fact.Fact.TheVariants.{Main}
use Rattle.nc_fact.proofs.Adding.{number_more}
use Rattle.nc_fact.proofs.all.add_rows.Goals as goal

pub rows-preserved : goal.rows-preserved
rows-preserved c = c.in_ok-push.ensures.items ∙ number_more (Main c.args.router) c.args.facts.now.items c.rows.facts.items c.rows.row c.rows.invariant
