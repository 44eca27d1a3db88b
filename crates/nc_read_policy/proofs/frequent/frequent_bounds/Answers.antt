use Rattle.std.proofs.Common.{sym, ◌∙◌}
use Rattle.std.proofs.lemmas.Bool.{eqb-true}
use Rattle.nc_read_policy.proofs.FrequentLemmas.{le_alone, ge_alone, both_bounds}
use Rattle.nc_read_policy.proofs.frequent.frequent_bounds.Goals as goal

pub returns-in-Some : goal.returns-in-Some
returns-in-Some c = le_alone c.args.len _ _ _ c.in-Some.ensures.read (eqb-true _ _ (sym c.is_empty.ensures ∙ c.if-not-is_empty.false))

pub returns-then-is_empty : goal.returns-then-is_empty
returns-then-is_empty c = ge_alone c.args.len _ _ _ c.in_ok-low.ensures.read (eqb-true _ _ (sym c.is_empty-2.ensures ∙ c.if-is_empty.true))

pub returns : goal.returns
returns c = both_bounds c.args.len _ _ _ _ _ c.in_ok-low.ensures.read c.in_ok-high.ensures.read (eqb-true _ _ (sym c.is_empty-3.ensures ∙ c.if-not-is_empty-2.false))
