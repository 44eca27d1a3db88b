use Rattle.std.proofs.Common.{rules, ◌<◌, ◌∙◌, arith}
use Rattle.nc_tables.specs.Reach.{is_hit}
use Rattle.nc_trace.proofs.Walking.{first_kept, first_dropped}
use Rattle.nc_trace.proofs.left.next_hit.Goals as goal

pub returns-then-is_hit : goal.returns-then-is_hit
returns-then-is_hit c =
    let lt : c.rows.place < c.args.rows.to = omega (arith, c.rows-test.true) in
    (lt, c.rows.invariant.left ∙ first_kept (is_hit c.args.state.now.base c.args.router.0) c.rows.place c.args.rows.to lt (search rules))

pub rows-preserved : goal.rows-preserved
rows-preserved c = record {
  left = c.rows.invariant.left ∙ first_dropped (is_hit c.args.state.now.base c.args.router.0) c.rows.place c.args.rows.to (omega (arith, c.rows-test.true)) (search rules);
}
