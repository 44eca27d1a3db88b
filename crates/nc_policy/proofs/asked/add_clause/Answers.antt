use Rattle.nc_policy.proofs.Permitting.{read_at}
use Rattle.nc_policy.proofs.asked.add_clause.Goals as goal

pub returns-clause-clause : goal.returns-clause-clause
returns-clause-clause c = λ known k at asked held out.
    let guard = c.in-Some-get.guard.now in
    let read = c.in-Some-get.ensures.lookup in
    let found = read_at c.args.index.now.guards.items c.deref-2.result.now c.args.place guard c.deref-2.ensures.value read.3.0 read.1 in
    c.requires.indexed.guards.each c.args.place k guard at found held (c.in_ok-known.ensures.added known held out)
