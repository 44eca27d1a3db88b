use Rattle.std.proofs.Common.{◌++◌, List, All, map, sym, subst, arith}
use Rattle.nc_tables.specs.declared.ribs.Numbered.{Numbered}
use Rattle.nc_tables.specs.LocRibs.{IsNumbered}
use Rattle.nc_round.specs.declared.changed.NumberedRow.{NumberedRow}
use Rattle.nc_round.specs.Renewing.{AreChangesOf}
use Rattle.nc_round.specs.Rows.{numbered_row}
use Rattle.nc_round.proofs.Renewed.{more_renewed}
use Rattle.nc_round.proofs.renewal.renew_at.Goals as goal

pub get-peerings-requires : goal.get-peerings-requires
get-peerings-requires c = omega (arith, c.requires.router, c.requires.all.count)

pub add_each-requires-clause-peerings : goal.add_each-requires-clause-peerings
add_each-requires-clause-peerings c = c.requires.all.each c.args.router.0 c.get-peerings.result.now c.get-peerings.ensures

pub add_each-requires-clause-numbers : goal.add_each-requires-clause-numbers
add_each-requires-clause-numbers c = subst (All (IsNumbered c.args.ribs.now.prefixes)) (sym c.deref.ensures.value) c.in_ok-wake.ensures.noted

pub add_each-requires-clause-changes : goal.add_each-requires-clause-changes
add_each-requires-clause-changes c = c.requires.anew.each

pub returns-clause-anew : goal.returns-clause-anew
returns-clause-anew c =
    let i = c.args.inputs in
    let ps = c.args.ribs.now.prefixes in
    let t = c.args.ribs.now.rows in
    let added : List Numbered → List NumberedRow = map (numbered_row c.args.router) in
    subst (λ (l : List NumberedRow). AreChangesOf i ps t l c.add_each.new.changes.items) (sym c.in_ok-wake.ensures.added)
    (subst (λ (l : List Numbered). AreChangesOf i ps t (c.args.renewed.now.rows.items ++ added l) c.add_each.new.changes.items) c.deref.ensures.value
    (more_renewed i ps t c.args.renewed.now.rows.items (added c.deref.result.now) c.args.renewed.now.changes.items c.add_each.new.changes.items c.requires.anew c.in_ok-add_each.ensures.rows c.add_each.ensures.changes))
