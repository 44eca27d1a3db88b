use Rattle.nc_read_policy.proofs.FrequentLemmas.{says_name}
use Rattle.nc_read_policy.proofs.frequent.begins_entry.Goals as goal

pub returns-in-Some : goal.returns-in-Some
returns-in-Some c = λ t. says_name _ _ c.in-Some.ensures.whole c.in-Some.ensures.gap
