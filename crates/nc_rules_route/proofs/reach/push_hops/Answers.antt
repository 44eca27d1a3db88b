use Rattle.std.proofs.Common.{ℕ, ◌+◌, filter, sym, ap, ◌∙◌}
use Rattle.nc_tables.specs.Reach.{is_hit}
use Rattle.nc_fact.specs.declared.fact.Fact.TheVariants.{Hop}
use Rattle.nc_fact.specs.Facts.{holds}
use Rattle.nc_fact.proofs.Hits.{hit_there}
use Rattle.nc_rules_route.proofs.Ranges.{made_between, kept_more, taken, passed_over}
use Rattle.nc_rules_route.proofs.reach.push_hops.Goals as goal
use Rattle.nc_rules_route.proofs.reach.push_hops.Goals.{then-leads+in_ok-push, else-leads}

pub leads_on-requires-clause-longest : goal.leads_on-requires-clause-longest
leads_on-requires-clause-longest c =
    let rows = c.longest_rows-rows in
    hit_there c.args.state.now c.args.router.0 c.args.addr.0 rows.result.from rows.result.to rows.ensures.rows c.rows.place c.rows.auto.place c.rows-test.true

pub rows-preserved : goal.rows-preserved
rows-preserved c =
    let s = c.args.state.now in
    let hop = λ (row : ℕ). Hop c.args.router c.args.addr row c.args.hops in
    let hit = is_hit s.base c.args.router.0 in
    let from = c.longest_rows-rows.result.from in
    let place = c.rows.place in
    let more = kept_more hop hit (holds s) from place c.rows.auto.place in
    let before = filter (holds s) (made_between hop hit from place) in
    let after = filter (holds s) (made_between hop hit from (place + 1)) in
    let told = sym c.in_ok-leads.ensures.leads in
    record {
      kept = c.leads_on.ensures.kept;
      hops = elim c.if-leads.branch [
        | then-leads+in_ok-push w ↦ ap (λ v. v.items) w.into-is ∙ w.in_ok-push.ensures.items ∙ taken c.args.into.now.items c.rows.into.items before after (hop place) _ c.rows.invariant.hops more (told ∙ w.if-leads.true)
        | else-leads w ↦ ap (λ v. v.items) w.into-is ∙ passed_over c.args.into.now.items c.rows.into.items before after (hop place) _ c.rows.invariant.hops more (told ∙ w.if-leads.false)
      ];
    }
