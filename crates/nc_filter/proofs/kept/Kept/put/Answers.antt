use Rattle.nc_filter.proofs.kept.Kept.put.Goals as goal

pub returns-clause-put : goal.returns-clause-put
returns-clause-put c r f = c.in_ok-insert.ensures.updates.0 (record { router = record { 0 = r }; first = f })
