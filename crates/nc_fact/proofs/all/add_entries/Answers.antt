use Rattle.std.proofs.Common.{◌+◌, drop, ◌∙◌, arith}
use Rattle.std.proofs.lemmas.List.{drop_more}
use Rattle.nc_fact.specs.Roots.{entries_over}
use Rattle.nc_fact.proofs.Adding.{part_more}
use Rattle.nc_fact.proofs.all.add_entries.Goals as goal

pub sessions-preserved : goal.sessions-preserved
sessions-preserved c =
    let all = c.sessions_at-sessions.result.now in
    let index = c.sessions.session-index in
    part_more _ (drop index all) (drop (index + 1) all) (drop_more all index _ (omega arith)) c.sessions.facts.items c.add_entries_over.new.facts.items
    (entries_over c.args.state.now c.args.router.0) c.in_ok-add_entries_over.ensures
    ∙ c.sessions.invariant
