use Rattle.std.proofs.Common.{◌<◌, ap, ◌∙◌, length, set, subst, sym}
use Rattle.nc_report.specs.Counters.{Numbered}
use Rattle.nc_report.proofs.Digits.{put-before}
use Rattle.nc_report.proofs.counter.Counter.put_before.Goals as goal

pub returns : goal.returns
returns c =
    let place = c.args.place in
    put-before c.self.inside.text.items c.self.inside.start c.self.inside.end c.self.inside.number c.self.invariant place c.args.byte
    (subst (λ (v : Numbered). place < length v.head) (sym c.self.view_is) c.requires)
    ∙ ap (λ (v : Numbered). record { head = set v.head place c.args.byte; number = v.number; tail = v.tail }) c.self.view_is
