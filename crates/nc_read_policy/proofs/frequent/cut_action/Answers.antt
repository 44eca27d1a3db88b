use Rattle.nc_read_policy.proofs.FrequentLemmas.{permit_first, deny_first}
use Rattle.nc_read_policy.proofs.frequent.cut_action.Goals as goal

pub returns-in-Some : goal.returns-in-Some
returns-in-Some c = permit_first _ _ _ c.in-Some.ensures c.in_ok-rest.ensures

pub returns : goal.returns
returns c = deny_first _ _ _ c.in_ok-rest-2.ensures c.in_ok-rest-3.ensures
