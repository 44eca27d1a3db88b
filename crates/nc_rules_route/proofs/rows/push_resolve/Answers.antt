use Rattle.std.proofs.Common.{◌+◌, sym, ap, ◌∙◌}
use Rattle.nc_tables.specs.Reach.{is_hit}
use Rattle.nc_fact.specs.declared.fact.Fact.TheVariants.{Base}
use Rattle.nc_rules_route.proofs.Ranges.{made_between, made_more, taken, passed_over}
use Rattle.nc_rules_route.proofs.rows.push_resolve.Goals as goal
use Rattle.nc_rules_route.proofs.rows.push_resolve.Goals.{then-is_hit+in_ok-push, else-is_hit}

pub rows-preserved : goal.rows-preserved
rows-preserved c =
    let row = Base c.args.router in
    let hit = is_hit c.args.state.now.base c.args.router.0 in
    let from = c.longest_rows-longest.result.from in
    let place = c.rows.place in
    let more = made_more row hit from place c.rows.auto.place in
    elim c.if-is_hit.branch [
      | then-is_hit+in_ok-push w ↦ ap (λ v. v.items) w.into-is ∙ w.in_ok-push.ensures.items ∙ taken c.args.into.now.items c.rows.into.items (made_between row hit from place) (made_between row hit from (place + 1)) (row place) (hit place) c.rows.invariant more (sym c.is_hit.ensures ∙ w.if-is_hit.true)
      | else-is_hit w ↦ ap (λ v. v.items) w.into-is ∙ passed_over c.args.into.now.items c.rows.into.items (made_between row hit from place) (made_between row hit from (place + 1)) (row place) (hit place) c.rows.invariant more (sym c.is_hit.ensures ∙ w.if-is_hit.false)
    ]
