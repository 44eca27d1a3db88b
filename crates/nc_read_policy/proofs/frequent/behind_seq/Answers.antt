use Rattle.std.proofs.Common.{[], ◌∷◌, ap}
use Rattle.std.specs.Prelude.{codes}
use Rattle.nc_lines.specs.Statements.{after}
use Rattle.nc_read_policy.proofs.FrequentLemmas.{seq_first}
use Rattle.nc_read_policy.proofs.frequent.behind_seq.Goals as goal

pub returns-in-Some : goal.returns-in-Some
returns-in-Some c = ap (after (codes "seq" ∷ [])) (seq_first _ _ c.in-Some.ensures.whole c.in-Some.ensures.gap)
