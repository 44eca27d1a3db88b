use Rattle.std.proofs.Common.{◌≡◌, ◌+◌, ◌-◌, ◌<◌, ◌++◌, ◌∷◌, [], List, Vec, length, Bool, true, false, cond, ◌&&◌, sym, ap, ◌∙◌, arith}
use Rattle.std.specs.Global.{Global}
use Rattle.std.specs.List.{range_with_len}
use Rattle.std.proofs.lemmas.List.{append-nil}
use Rattle.nc_tables.specs.declared.bgp.MainRow.{MainRow}
use Rattle.nc_fact.specs.declared.fact.Fact.{Fact}
use Rattle.nc_fact.specs.declared.fact.Fact.TheVariants.{Main}
use Rattle.nc_fact.specs.Facts.{holds}
use Rattle.nc_fact.specs.Tested.{has_hop}
use Rattle.nc_fact.proofs.Asked.{facts_at, facts_step, asked_by}
use Rattle.nc_fact.proofs.tested.asked_rows.Goals as goal
use Rattle.nc_fact.proofs.tested.asked_rows.Goals.{then-is_tested+in_ok-push, else-is_tested}

pub rows-preserved : goal.rows-preserved
rows-preserved c =
    let rows = c.main_rows-rows in
    let fact : Fact = Main c.args.router c.rows.place in
    let within = ap (λ (rs : List MainRow). length rs) rows.ensures.rows in
    let lt : c.rows.place < length rows.result.now = omega (arith, within, c.rows-test.true, c.main_rows_of-found.ensures.within) in
    let step : (b : Bool) → (has_hop c.args.state.now c.args.router.0 c.args.via c.index-rows-place.result && holds c.args.state.now fact) ≡ b
    → c.rows.facts.items ++ cond b (fact ∷ []) [] ≡ facts_at c.args.state.now c.args.router c.args.via (range_with_len c.main_rows_of-found.result.from (c.rows.place + 1 - c.main_rows_of-found.result.from)) =
    λ b is. facts_step c.args.state.now c.args.router c.args.via rows.result.now c.main_rows_of-found.result.from c.rows.place c.index-rows-place.result b c.rows.facts.items rows.ensures.rows c.rows.auto.place lt c.index-rows-place.is is c.rows.invariant in
    elim c.if-is_tested.branch [
      | then-is_tested+in_ok-push w ↦ ap (λ (v : Vec Fact Global). v.items) w.facts-is ∙ w.in_ok-push.ensures.items ∙ step true (sym c.is_tested.ensures ∙ w.if-is_tested.true)
      | else-is_tested w ↦ ap (λ (v : Vec Fact Global). v.items) w.facts-is ∙ sym (append-nil c.rows.facts.items) ∙ step false (sym c.is_tested.ensures ∙ w.if-is_tested.false)
    ]

pub returns : goal.returns
returns c =
    let found = c.main_rows_of-found in
    let last : c.rows.place - found.result.from ≡ found.result.to - found.result.from = omega (arith, c.rows-test.false, c.rows.auto.place-end, found.ensures.ordered) in
    c.rows.invariant ∙ ap (λ n. facts_at c.args.state.now c.args.router c.args.via (range_with_len found.result.from n)) last
    ∙ sym (asked_by c.args.state.now c.args.router c.args.via c.args.prefix found.result.from (found.result.to - found.result.from) found.ensures.rows)
