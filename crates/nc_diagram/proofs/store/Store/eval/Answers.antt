use Rattle.std.proofs.Common.{sym, ◌∙◌, arith}
use Rattle.nc_diagram.specs.Sets.{among}
use Rattle.nc_diagram.proofs.DiagramLemmas.{meaning-constant}
use Rattle.nc_diagram.proofs.store.Store.eval.Goals as goal

pub returns : goal.returns
returns c = sym (c.walk.invariant.value ∙ meaning-constant c.args.self.now.nodes c.walk.place (omega arith) (among c.args.members.now))
