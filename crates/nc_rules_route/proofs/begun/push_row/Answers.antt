use Rattle.std.proofs.Common.{◌≡◌, ℕ, ◌+◌, ◌-◌, true, ◌++◌, length, map, refl, ap, ◌∙◌, arith}
use Rattle.std.specs.List.{range_with_len}
use Rattle.nc_tables.specs.SpreadView.{row_view}
use Rattle.nc_fact.specs.declared.fact.Fact.TheVariants.{Chosen}
use Rattle.nc_rules_route.proofs.Ranges.{made_between, made_more, taken, each_kept}
use Rattle.nc_rules_route.proofs.begun.push_row.Goals as goal

pub places-preserved : goal.places-preserved
places-preserved c =
    let route = Chosen c.args.router c.args.row.prefix.now in
    let all = λ (n : ℕ). true in
    let place = c.places.place in
    c.in_ok-push.ensures.items
    ∙ taken c.args.into.now.items c.places.into.items (made_between route all 0 place) (made_between route all 0 (place + 1)) (route place) true c.places.invariant (made_more route all 0 place (omega arith)) refl

pub returns-clause-ok : goal.returns-clause-ok
returns-clause-ok c =
    let route = Chosen c.args.router c.args.row.prefix.now in
    let last : c.places.place - 0 ≡ length (row_view c.args.row).chosen = omega (arith, c.count-place-end.ensures) in
    c.places.invariant ∙ ap (λ ks. c.args.into.now.items ++ map route ks) (each_kept 0 (c.places.place - 0) ∙ ap (λ (n : ℕ). range_with_len 0 n) last)
