use Rattle.nc_policy.proofs.Permitting.{read_at}
use Rattle.std.proofs.Common.{refl}
use Rattle.nc_policy.proofs.spans.span_at.Goals as goal

pub returns-in-Some : goal.returns-in-Some
returns-in-Some c = λ lists l are at p few out.
    let read = c.in-Some.ensures.lookup in
    are.each c.args.place l c.in-Some.span.now at (read_at c.args.spans.now c.args.spans.now c.args.place c.in-Some.span.now refl read.3.0 read.1) p few out
