use Rattle.nc_round.proofs.Alike.{row_alike}
use Rattle.nc_round.proofs.laws.rows_are_made_of_what_is_read.Goals as goal

pub returns : goal.returns
returns c = record { alike = row_alike }
