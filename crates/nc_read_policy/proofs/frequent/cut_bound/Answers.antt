use Rattle.std.proofs.Common.{sym, ◌∙◌}
use Rattle.nc_read_policy.proofs.FrequentLemmas.{front_bound}
use Rattle.nc_read_policy.proofs.frequent.cut_bound.Goals as goal

pub returns-clause-read : goal.returns-clause-read
returns-clause-read c =
    front_bound _ _ _ _ _ _ c.in_ok-rest.ensures.whole c.in_ok-rest.ensures.gap c.in_ok-behind_gap.ensures c.in_ok-bound.ensures.read (sym c.ends_word.ensures ∙ c.if-not-ends_word.false)
