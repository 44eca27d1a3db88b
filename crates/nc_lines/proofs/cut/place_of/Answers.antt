use Rattle.memchr.specs.Find.{is_byte}
use Rattle.nc_lines.proofs.FirstLemmas.{first_is_position}
use Rattle.nc_lines.proofs.cut.place_of.Goals as goal

pub returns : goal.returns
returns c = first_is_position (is_byte c.args.byte) c.args.bytes.now c.memchr.result c.memchr.ensures
