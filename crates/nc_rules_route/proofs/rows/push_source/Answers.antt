use Rattle.std.proofs.Common.{◌≡◌, ℕ, ◌+◌, ◌-◌, true, ◌++◌, map, refl, sym, ap, ◌∙◌, arith}
use Rattle.std.specs.List.{range_with_len}
use Rattle.nc_fact.specs.declared.fact.Fact.TheVariants.{Base}
use Rattle.nc_rules_route.specs.Parents.{parents}
use Rattle.nc_rules_route.proofs.Ranges.{made_between, made_more, taken, each_kept}
use Rattle.nc_rules_route.proofs.rows.push_source.Goals as goal

pub rows-preserved : goal.rows-preserved
rows-preserved c =
    let row = Base c.args.router in
    let all = λ (n : ℕ). true in
    let from = c.rows_of_prefix-rows.result.from in
    let place = c.rows.place in
    c.in_ok-push.ensures.items
    ∙ taken c.args.into.now.items c.rows.into.items (made_between row all from place) (made_between row all from (place + 1)) (row place) true c.rows.invariant (made_more row all from place c.rows.auto.place) refl

pub returns-clause-ok : goal.returns-clause-ok
unfolding parents
returns-clause-ok c =
    let row = Base c.args.router in
    let from = c.rows_of_prefix-rows.result.from in
    let last : c.rows.place - from ≡ c.rows_of_prefix-rows.result.to - from = omega arith in
    c.rows.invariant
    ∙ ap (λ ks. c.args.into.now.items ++ map row ks) (each_kept from (c.rows.place - from) ∙ ap (λ (n : ℕ). range_with_len from n) last ∙ sym c.rows_of_prefix-rows.ensures.rows)
