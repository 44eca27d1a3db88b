use Rattle.std.proofs.Common.{◌≡◌, ◌-◌, ◌||◌, Some, None, ap, sym, ◌∙◌, arith}
use Rattle.std.specs.List.{list_any, range_with_len}
use Rattle.nc_underlay.specs.Levels.{flag, leads_there}
use Rattle.nc_types.proofs.Truth.{or_false}
use Rattle.nc_underlay.proofs.Hits.{next_by_rows, leads_there_is}
use Rattle.nc_underlay.proofs.Marks.{one_more, flagged_one}
use Rattle.nc_underlay.proofs.levels.flag_next.Goals as goal
use Rattle.nc_underlay.proofs.levels.flag_next.Goals.{in-Some, in_default}

pub rows-preserved : goal.rows-preserved
rows-preserved c = record {
  flags = λ other.
      one_more (leads_there c.args.network.now c.args.base.now c.args.router.0 c.args.addr.0 other) (flag c.args.flags.now other) (flag c.rows.flags other) (flag c.match-leads_to.flags other) c.longest-rows.result.from c.rows.place c.rows.auto.place (c.rows.invariant.flags other)
      (elim c.match-leads_to.branch [
        | in-Some w ↦
            ap (λ fs. flag fs other) w.flags-is ∙ flagged_one c.rows.flags w.in-Some.other.0 other (omega (arith, w.in-Some.ensures.within, c.requires.room, c.rows.auto.flags))
            ∙ ap (λ b. flag c.rows.flags other || b) (sym (leads_there_is c.args.network.now c.args.base.now c.args.router.0 c.args.addr.0 other c.rows.place (Some (record { router = w.in-Some.other.0; place = w.in-Some.field-0-1.0 })) w.in-Some.ensures.leads))
        | in_default w ↦
            ap (λ fs. flag fs other) w.flags-is ∙ sym (or_false (flag c.rows.flags other))
            ∙ ap (λ b. flag c.rows.flags other || b) (sym (leads_there_is c.args.network.now c.args.base.now c.args.router.0 c.args.addr.0 other c.rows.place None w.in_default.ensures.leads))
      ]);
}

pub returns-clause-flags : goal.returns-clause-flags
returns-clause-flags c other =
    let from = c.longest-rows.result.from in
    let last : c.rows.place - from ≡ c.longest-rows.result.to - from = omega arith in
    let test = leads_there c.args.network.now c.args.base.now c.args.router.0 c.args.addr.0 other in
    c.rows.invariant.flags other
    ∙ ap (λ b. flag c.args.flags.now other || b)
    (ap (λ n. list_any test (range_with_len from n)) last
    ∙ sym (next_by_rows c.args.network.now c.args.base.now c.args.router.0 c.args.addr.0 other from (c.longest-rows.result.to - from) c.longest-rows.ensures.rows))
