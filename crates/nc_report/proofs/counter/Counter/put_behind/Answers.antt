use Rattle.std.proofs.Common.{ap, ◌∙◌, set}
use Rattle.nc_report.specs.Counters.{Numbered}
use Rattle.nc_report.proofs.Digits.{put-behind}
use Rattle.nc_report.proofs.counter.Counter.put_behind.Goals as goal

pub returns : goal.returns
returns c =
    put-behind c.self.inside.text.items c.self.inside.start c.self.inside.end c.self.inside.number c.self.invariant c.args.place c.args.byte
    ∙ ap (λ (v : Numbered). record { head = v.head; number = v.number; tail = set v.tail c.args.place c.args.byte }) c.self.view_is
