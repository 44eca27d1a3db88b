use Rattle.std.proofs.Common.{◌≡◌, ◌++◌, ◌∷◌, [], List, Option, map, append-nil, sym, ap, ◌∙◌, rules}
use Rattle.std.specs.List.{cons_option}
use Rattle.std.proofs.lemmas.List.{map_push}
use Rattle.nc_tables.specs.declared.bgp.Chosen.{Chosen}
use Rattle.nc_tables.specs.Rounds.{chosen_at}
use Rattle.nc_round.specs.Keys.{Key}
use Rattle.nc_round.specs.Renewing.{RowChange, row_change}
use Rattle.nc_round.proofs.LocRibChanges.{anew, change_none, change_some}
use Rattle.nc_round.proofs.renewal.add_of.Goals as goal

pub returns-then-same_chosen-clause-rows : goal.returns-then-same_chosen-clause-rows
returns-then-same_chosen-clause-rows c =
    let i = c.args.inputs in
    let t = c.args.ribs.now.rows in
    let k : Key = (c.args.router, c.args.of.now.prefix) in
    let same : c.as_slice.result.now ≡ c.chosen-2.result.now = c.same_chosen.ensures.0 c.if-same_chosen.true in
    let is : anew i t k ≡ chosen_at t k.0.0 k.1 = sym (c.as_slice.ensures ∙ c.in_ok-chosen.ensures.chosen) ∙ same ∙ c.chosen-2.ensures.chosen in
    sym (ap (λ (o : Option RowChange). map row_change c.args.changes.now.items ++ cons_option o []) (change_none i t k is) ∙ append-nil (map row_change c.args.changes.now.items))

pub returns-clause-rows : goal.returns-clause-rows
returns-clause-rows c =
    let i = c.args.inputs in
    let t = c.args.ribs.now.rows in
    let k : Key = (c.args.router, c.args.of.now.prefix) in
    let changes = c.args.changes.now.items in
    let chosen : c.in_ok-chosen.chosen ≡ anew i t k = c.in_ok-chosen.ensures.chosen in
    let change : RowChange = record { key = k; chosen = anew i t k } in
    let differs : anew i t k ≡ chosen_at t k.0.0 k.1 → ⊥ = λ e.
    let same : c.as_slice.result.now ≡ c.chosen-2.result.now = c.as_slice.ensures ∙ chosen ∙ e ∙ sym c.chosen-2.ensures.chosen in
    let is = c.same_chosen.ensures.1 same in
    absurd (search rules) in
    ap (map row_change) c.in_ok-push.ensures.items
    ∙ map_push row_change changes (record { router = c.args.router; of = c.args.of.now; chosen = c.in_ok-chosen.chosen })
    ∙ ap (λ (cs : List Chosen). map row_change changes ++ record { key = k; chosen = cs } ∷ []) chosen
    ∙ sym (ap (λ (o : Option RowChange). map row_change changes ++ cons_option o []) (change_some i t k differs))
