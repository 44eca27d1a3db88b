use Rattle.nc_round.proofs.settling.table_of.Goals as goal

pub returns-clause-rows : goal.returns-clause-rows
returns-clause-rows c k d lt =
    let rows = c.count-count.ensures.valid k d lt in
    record { ordered = rows.ordered; some = rows.some }
