use Rattle.nc_marks.proofs.raise.raise.Goals as goal

pub returns-in-Ok-clause-raises : goal.returns-in-Ok-clause-raises
returns-in-Ok-clause-raises g c = c.raise_all.ensures.raises

pub returns-in-Ok-clause-reached : goal.returns-in-Ok-clause-reached
returns-in-Ok-clause-reached g c = c.in-Ok.ensures.reached
