use Rattle.std.proofs.Common.{sym, ◌∙◌}
use Rattle.nc_engine.specs.Work.{with_lent}
use Rattle.nc_engine.proofs.Fewer.{forgotten}
use Rattle.nc_engine.proofs.work.Work.forget.Goals as goal

pub returns-clause-forgotten : goal.returns-clause-forgotten
returns-clause-forgotten c =
    forgotten c.args.self.now c.forget_at.new.self c.forget_at.ensures.network c.in-Some.place c.args.number (sym c.live_place.ensures.place ∙ c.in-Some.is)
    c.in_ok-forget_at.ensures.kept c.forget_at.ensures.asked c.forget_at.ensures.store c.args.out.now.items c.push_forgot.new.out.items (with_lent c.in_ok-lends.lends c.forget_at.new.self.shown c.push_report.new.out.items) c.in_ok-push_forgot.ensures c.in_ok-lends.ensures
