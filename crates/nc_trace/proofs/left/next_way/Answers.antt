use Rattle.std.proofs.Common.{Option, ap, ◌∙◌}
use Rattle.std.specs.List.{cons_option}
use Rattle.std.specs.Option.{option_map}
use Rattle.nc_tables.specs.Forwarding.{Alternative}
use Rattle.nc_trace.specs.Views.{alternative_view}
use Rattle.nc_trace.specs.Left.{left_ways}
use Rattle.nc_trace.proofs.Walking.{after_row}
use Rattle.nc_trace.proofs.left.next_way.Goals as goal

pub returns-in-Some-way : goal.returns-in-Some-way
returns-in-Some-way c = (
  c.opened-way.ensures.left,
  c.rows.invariant.same
      ∙ after_row c.args.state.now c.args.router.0 c.args.addr.0 c.rows.left c.opened-way.result.1 (option_map alternative_view c.opened-way.result.0) c.rows-test.true c.in_default.ensures c.opened-way.ensures.ways c.opened-way.ensures.rest
      ∙ ap (λ (o : Option Alternative). cons_option o (left_ways c.args.state.now c.args.router.0 c.args.addr.0 c.opened-way.result.1)) (ap (option_map alternative_view) c.in-Some-way.is),
)

pub rows-preserved : goal.rows-preserved
rows-preserved c = record {
  same =
      c.rows.invariant.same
      ∙ after_row c.args.state.now c.args.router.0 c.args.addr.0 c.rows.left c.opened-way.result.1 (option_map alternative_view c.opened-way.result.0) c.rows-test.true c.in_default.ensures c.opened-way.ensures.ways c.opened-way.ensures.rest
      ∙ ap (λ (o : Option Alternative). cons_option o (left_ways c.args.state.now c.args.router.0 c.args.addr.0 c.opened-way.result.1)) (ap (option_map alternative_view) c.in_default-way.is);
  left = c.opened-way.ensures.left;
}
