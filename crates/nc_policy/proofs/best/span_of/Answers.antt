use Rattle.nc_policy.proofs.Permitting.{read_at}
use Rattle.nc_policy.proofs.best.span_of.Goals as goal

pub returns-in-Some : goal.returns-in-Some
returns-in-Some c = λ config k is at p few out.
    let read = c.in-Some.ensures.lookup in
    is.spans.each c.args.place k c.in-Some.span.now at (read_at c.args.index.now.spans.items c.deref.result.now c.args.place c.in-Some.span.now c.deref.ensures.value read.3.0 read.1) p few out
