use Rattle.std.proofs.Common.{◌≡◌, false, sym, ◌∙◌, arith}
use Rattle.std.specs.Ordering.{is_le}
use Rattle.nc_tables.specs.Base.{prefix_cmp}
use Rattle.nc_tables.proofs.SideBySide.{rises, behind_from, one_more}
use Rattle.nc_tables.proofs.longest.next_behind.Goals as goal

pub returns-then-not-is_upto-clause-parts : goal.returns-then-not-is_upto-clause-parts
returns-then-not-is_upto-clause-parts g c =
    let past : is_le (prefix_cmp (g.R.HasPrefix.prefix_of c.index-rows-at.result) c.args.prefix) ≡ false = sym c.is_upto.ensures ∙ c.if-not-is_upto.true in
    (c.rows.invariant.passed, behind_from g.R.HasPrefix.prefix_of c.args.rows.now (rises g.R.HasPrefix.prefix_of c.args.rows.now c.requires.ordered) c.args.prefix c.rows.at c.index-rows-at.result (omega arith) c.index-rows-at.is past)

pub rows-preserved : goal.rows-preserved
rows-preserved g c = record {
  passed = one_more g.R.HasPrefix.prefix_of c.args.rows.now c.args.prefix c.rows.at c.index-rows-at.result (omega arith) c.index-rows-at.is (sym c.is_upto.ensures ∙ c.if-not-is_upto.false) c.rows.invariant.passed;
  within = omega arith;
}

pub returns-clause-parts : goal.returns-clause-parts
returns-clause-parts g c = (c.rows.invariant.passed, λ k d lo hi. absurd (omega arith))
