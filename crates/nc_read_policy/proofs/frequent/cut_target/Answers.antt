use Rattle.std.proofs.Common.{sym, ◌∙◌}
use Rattle.nc_read_policy.proofs.FrequentLemmas.{target_first}
use Rattle.nc_read_policy.proofs.frequent.cut_target.Goals as goal

pub returns : goal.returns
returns c = target_first _ _ _ _ _ _ _ c.in_ok-permit.ensures c.in_ok-address.ensures.read (sym c.ends_word.ensures ∙ c.if-not-ends_word.false) c.around.ensures
