use Rattle.std.proofs.Common.{sym, ◌∙◌}
use Rattle.nc_read_policy.proofs.FrequentLemmas.{seq_number}
use Rattle.nc_read_policy.proofs.frequent.cut_seq.Goals as goal

pub returns : goal.returns
returns c = seq_number _ _ _ _ c.in_ok-digits.ensures c.in_ok-number.ensures.read c.if-number-eq0.false (sym c.ends_word.ensures ∙ c.if-not-ends_word.false)
