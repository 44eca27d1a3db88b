use Rattle.std.proofs.Common.{arith}
use Rattle.nc_engine.specs.Work.{with_lent}
use Rattle.nc_engine.proofs.Replying.{replies}
use Rattle.nc_engine.proofs.work.Work.reply.Goals as goal

pub returns : goal.returns
returns c =
    let w = c.args.self.now in
    replies w c.requires c.args.out.now.items c.push_accepted.new.out.items (with_lent c.in_ok-lends.lends w.shown c.push_report.new.out.items) c.len.result c.len-2.result
    (omega (arith, w.tests.ok.0)) c.len-2.ensures.len c.in_ok-push_accepted.ensures c.in_ok-lends.ensures
