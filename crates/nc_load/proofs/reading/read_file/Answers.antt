use Rattle.std.proofs.Common.{arith}
use Rattle.nc_load.proofs.Taking.{takes_more}
use Rattle.nc_load.proofs.reading.read_file.Goals as goal

pub returns-in_err-read_piece-clause-takes : goal.returns-in_err-read_piece-clause-takes
returns-in_err-read_piece-clause-takes g c =
    takes_more _ _ _ _ _ c.reading.bytes.items c.reading.invariant.taken (omega (arith, c.reading.invariant.within)) c.in_err-read_piece.ensures.takes
