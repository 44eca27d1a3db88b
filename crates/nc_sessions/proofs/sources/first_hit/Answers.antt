use Rattle.std.proofs.Common.{sym, ◌∙◌}
use Rattle.nc_tables.specs.Reach.{is_hit}
use Rattle.nc_sessions.proofs.Numbers.{first_later}
use Rattle.nc_sessions.proofs.sources.first_hit.Goals as goal

pub rows-preserved : goal.rows-preserved
rows-preserved c =
    sym (first_later (is_hit c.args.base.now c.args.router.0) c.rows.place c.longest-rows.result.to c.rows-test.true (sym c.is_hit.ensures ∙ c.if-is_hit.false)) ∙ c.rows.invariant
