use Rattle.std.proofs.Common.{◌++◌, ◌∷◌, [], List, map, append_assoc, sym, ap, ◌∙◌, arith}
use Rattle.std.specs.List.{range_with_len}
use Rattle.std.proofs.lemmas.List.FromFn.{map-range_with_len_more}
use Rattle.nc_tables.specs.declared.bgp.MainRow.{MainRow}
use Rattle.nc_main_rib.specs.Sides.{learnt_row}
use Rattle.nc_main_rib.proofs.rows.add_learnt.Goals as goal

pub chosen-preserved : goal.chosen-preserved
chosen-preserved c =
    let made = learnt_row c.args.prefix c.args.distance in
    let place = c.chosen.place in
    let before = c.args.main.now.items in
    c.in_ok-push.ensures.items
    ∙ ap (λ (l : List MainRow). l ++ made place ∷ []) c.chosen.invariant
    ∙ append_assoc before (map made (range_with_len 0 place)) (made place ∷ [])
    ∙ ap (λ (l : List MainRow). before ++ l) (sym (map-range_with_len_more made 0 place place (omega arith)))
