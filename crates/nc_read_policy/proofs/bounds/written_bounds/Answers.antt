use Rattle.std.proofs.Common.{sym, ap, ◌∙◌}
use Rattle.std.proofs.lemmas.Bool.{eqb-true}
use Rattle.nc_read_policy.specs.Entries.{written_bounds}
use Rattle.nc_read_policy.proofs.FrequentLemmas.{no_words}
use Rattle.nc_read_policy.proofs.bounds.written_bounds.Goals as goal

pub returns-then-is_empty : goal.returns-then-is_empty
returns-then-is_empty c = sym (ap (written_bounds c.args.len) (no_words c.args.text.now (eqb-true _ _ (sym c.is_empty.ensures ∙ c.if-is_empty.true))))
