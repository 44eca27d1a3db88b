use Rattle.std.proofs.Common.{◌≡◌, ◌≤◌, [], List, Option, None, Some, IfSome, length, map, get_or, slice_get, sym, ap, subst, ◌∙◌}
use Rattle.std.specs.Option.{option_map_or}
use Rattle.std.proofs.lemmas.Option.{slice_get-get_or, same_Some}
use Rattle.nc_types.specs.declared.TheConstants.{MULTIPATH_LIMIT}
use Rattle.nc_types.proofs.Members.{contains_by_in}
use Rattle.nc_tables.specs.declared.bgp.Chosen.{Chosen}
use Rattle.nc_tables.specs.declared.router_rows.ChosenRow.{ChosenRow}
use Rattle.nc_tables.specs.Rounds.{bgp_row_view}
use Rattle.nc_tables.specs.SpreadView.{choices_in, row_view}
use Rattle.nc_tables.proofs.Choices.{at_number, not_among, nowhere, searchable}
use Rattle.nc_tables.proofs.InOrder.{equal_is}
use Rattle.nc_tables.proofs.Spread.{count_of, few_choices, few_at}
use Rattle.nc_tables.proofs.router_rows.row_of.Goals as goal
use Rattle.nc_tables.proofs.router_rows.row_of.Goals.{After-row_at}

-- the prefix stands at its number
there : (c : After-row_at) → slice_get c.args.spread.prefixes.now c.in-Ok.number ≡ Some c.args.prefix
there c =
    let ps = c.args.spread.prefixes.now in
    slice_get-get_or ps c.in-Ok.number c.args.prefix c.in-Ok.ensures.bound ∙ ap Some (equal_is (get_or ps c.in-Ok.number c.args.prefix) c.args.prefix (c.in-Ok.ensures.ok c.args.prefix))

pub returns-in-Ok-clause-chosen : goal.returns-in-Ok-clause-chosen
returns-in-Ok-clause-chosen c =
    let s = c.args.spread in
    c.row_at.ensures.chosen
    ∙ sym (at_number s.prefixes.now (choices_in s) c.in-Ok.number c.args.prefix c.requires.0.ordered (count_of (map bgp_row_view s.own.now) s.standing.now s.prefixes.now s.places.now c.requires.0.count) (there c))

pub returns-in-Ok-clause-prefix : goal.returns-in-Ok-clause-prefix
returns-in-Ok-clause-prefix c = on c.row_at.result c.row_at.ensures.prefix
  where
    on : (o : Option ChosenRow) → IfSome o (λ row. slice_get c.args.spread.prefixes.now c.in-Ok.number ≡ Some row.prefix.now) → IfSome o (λ row. row.prefix.now ≡ c.args.prefix)
    on None e = tt
    on (Some row) e = same_Some row.prefix.now c.args.prefix (sym e ∙ there c)

pub returns-in-Ok-clause-few : goal.returns-in-Ok-clause-few
returns-in-Ok-clause-few c = on c.row_at.result c.row_at.ensures.chosen
  where
    most : length (get_or (choices_in c.args.spread) c.in-Ok.number []) ≤ MULTIPATH_LIMIT
    most =
        let s = c.args.spread in
        few_at (choices_in s) c.in-Ok.number (few_choices (map bgp_row_view s.own.now) s.standing.now c.requires.1.own c.requires.1.few s.prefixes.now s.places.now)

    on : (o : Option ChosenRow) → option_map_or (λ (row : ChosenRow). (row_view row).chosen) o [] ≡ get_or (choices_in c.args.spread) c.in-Ok.number [] → IfSome o (λ row. length (row_view row).chosen ≤ MULTIPATH_LIMIT)
    on None e = tt
    on (Some row) e = subst (λ (l : List Chosen). length l ≤ MULTIPATH_LIMIT) (sym e) most

pub returns-in-Err-clause-chosen : goal.returns-in-Err-clause-chosen
returns-in-Err-clause-chosen c =
    let ps = c.args.spread.prefixes.now in
    sym (nowhere ps (choices_in c.args.spread) c.args.prefix
    (λ i. not_among ps c.args.prefix c.in-Err.field-0 (c.in-Err.ensures.position (searchable ps c.args.prefix c.requires.0.ordered)) (contains_by_in ps c.args.prefix i)))
