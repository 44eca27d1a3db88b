use Rattle.std.proofs.Common.{sym, ap, ◌∙◌}
use Rattle.nc_types.specs.Communities.{has}
use Rattle.nc_community.proofs.SetLemmas.{all_has}
use Rattle.nc_community.proofs.held.Held.parts.Goals as goal

pub returns : goal.returns
returns c = λ n. ap (has n) (sym c.self.view_is) ∙ all_has n c.self.inside.numbers.now c.self.inside.added.now
