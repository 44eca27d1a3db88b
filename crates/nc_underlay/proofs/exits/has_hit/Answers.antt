use Rattle.std.proofs.Common.{◌≡◌, ◌+◌, ◌-◌, ◌||◌, ℕ, Bool, length, sym, ap, ◌∙◌, arith}
use Rattle.std.specs.List.{list_any, range_with_len}
use Rattle.std.proofs.lemmas.List.{length-map}
use Rattle.nc_types.specs.Config.{config_view}
use Rattle.nc_tables.specs.Reach.{is_hit}
use Rattle.nc_underlay.proofs.Flagging.{any_in, any_more}
use Rattle.nc_underlay.proofs.Hits.{some_hit, no_hit}
use Rattle.nc_underlay.proofs.exits.has_hit.Goals as goal

pub returns-then-router-routers : goal.returns-then-router-routers
returns-then-router-routers c =
    let count : length c.routers.result.now ≡ length c.args.network.now = sym (length-map c.routers.result.now config_view) ∙ ap length c.routers.ensures.routers in
    sym (no_hit c.args.base.now c.args.router.0 c.args.addr.0 (omega (arith, count, c.requires, c.if-router-routers.true)))

pub returns-then-is_hit : goal.returns-then-is_hit
returns-then-is_hit c =
    let from = c.longest-rows.result.from in
    let to = c.longest-rows.result.to in
    let test = is_hit c.args.base.now c.args.router.0 in
    sym (some_hit c.args.base.now c.args.router.0 c.args.addr.0 from (to - from) c.longest-rows.ensures.rows
    ∙ any_in test from (to - from) c.rows.place c.rows.auto.place (omega (arith, c.rows.auto.place, c.rows-test.true)) (sym c.is_hit.ensures ∙ c.if-is_hit.true))

pub rows-preserved : goal.rows-preserved
rows-preserved c =
    let from = c.longest-rows.result.from in
    let test = is_hit c.args.base.now c.args.router.0 in
    any_more test from (c.rows.place - from) (c.rows.place + 1 - from) c.rows.place (omega (arith, c.rows.auto.place)) (omega (arith, c.rows.auto.place))
    ∙ ap (λ (b : Bool). b || test c.rows.place) c.rows.invariant ∙ (sym c.is_hit.ensures ∙ c.if-is_hit.false)

pub returns : goal.returns
returns c =
    let from = c.longest-rows.result.from in
    let to = c.longest-rows.result.to in
    let test = is_hit c.args.base.now c.args.router.0 in
    let last : to - from ≡ c.rows.place - from = omega (arith, c.rows-test.false, c.rows.auto.place-end, c.longest-rows.ensures.ordered) in
    sym (some_hit c.args.base.now c.args.router.0 c.args.addr.0 from (to - from) c.longest-rows.ensures.rows ∙ ap (λ (n : ℕ). list_any test (range_with_len from n)) last ∙ c.rows.invariant)
