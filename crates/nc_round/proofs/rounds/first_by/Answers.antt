use Rattle.std.proofs.Common.{◌≡◌, List, map, sym, ap, subst, ◌∙◌}
use Rattle.nc_tables.specs.Rounds.{BgpRowView}
use Rattle.nc_round.specs.Keys.{Key}
use Rattle.nc_round.specs.Renewing.{AreEnough}
use Rattle.nc_round.specs.Rows.{row_key, rows_among, AreRows}
use Rattle.nc_round.proofs.Woken.{first_enough}
use Rattle.nc_round.proofs.rounds.first_by.Goals as goal

pub renew-requires-clause-rows : goal.renew-requires-clause-rows
renew-requires-clause-rows c =
    let ps = c.in_ok-none.none.prefixes in
    let keys : map row_key c.deref-2.result.now ≡ rows_among ps c.in_ok-keys.keys.items = ap (map row_key) c.deref-2.ensures.value ∙ c.in_ok-rows.ensures.keys ∙ ap (rows_among ps) c.deref.ensures.value in
    subst (λ (l : List Key). AreEnough c.args.inputs ps c.in_ok-none.none.rows l) (sym keys)
    (subst (λ (t : List (List BgpRowView)). AreEnough c.args.inputs ps t (rows_among ps c.in_ok-keys.keys.items)) (sym c.in_ok-none.ensures.rows)
    (first_enough c.args.inputs ps c.in_ok-keys.keys.items c.in_ok-keys.ensures.ordered (λ k. (c.in_ok-keys.ensures.same k).0) (λ k. (c.in_ok-keys.ensures.same k).1)))

pub renew-requires-clause-numbers : goal.renew-requires-clause-numbers
renew-requires-clause-numbers c = subst (AreRows c.in_ok-none.none.prefixes) (sym c.deref-2.ensures.value) c.in_ok-rows.ensures.numbers
