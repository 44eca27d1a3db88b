use Rattle.nc_read_policy.specs.Heads.{IsHead}
use Rattle.nc_read_policy.proofs.HeadLemmas.{behind_head}
use Rattle.nc_read_policy.proofs.heads.cut_behind.Goals as goal

pub returns-in-Some-behind_known : goal.returns-in-Some-behind_known
returns-in-Some-behind_known c =
    let head : IsHead c.in-Some.known.now = rw c.in-Some.is at c.requires in
    behind_head _ _ _ head c.in-Some-behind_known.ensures.whole c.in-Some-behind_known.ensures.gap
