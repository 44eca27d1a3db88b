use Rattle.nc_diagram.proofs.table.Table.note.Goals as goal

pub returns-clause-right : goal.returns-clause-right
returns-clause-right c = λ nodes operator h is. c.put.ensures.right nodes operator (c.in_ok-make_room.ensures.right nodes operator h) is
