use Rattle.std.proofs.Common.{Some}
use Rattle.std.proofs.lemmas.Bool.Decides.{Decides-eqb}
use Rattle.std.proofs.lemmas.Slice.Eq.{strip_prefix_is}
use Rattle.nc_reader.proofs.known.behind.Goals as goal

pub returns : goal.returns
returns c = strip_prefix_is Decides-eqb c.args.line.now c.args.head.now (Some c.in_ok-rest.rest) c.in_ok-rest.ensures.cases
