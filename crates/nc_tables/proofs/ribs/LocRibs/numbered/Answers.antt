use Rattle.std.proofs.Common.{List, Contains, sym, ap, subst, ◌∙◌}
use Rattle.nc_types.specs.Cidr.{Cidr}
use Rattle.nc_tables.specs.LocRibs.{Ascend, LocRibsView}
use Rattle.nc_tables.proofs.Choices.{not_among, searchable}
use Rattle.nc_tables.proofs.ribs.LocRibs.numbered.Goals as goal

pub returns-in-Err-clause-none : goal.returns-in-Err-clause-none
returns-in-Err-clause-none c some =
    let ps = c.deref.result.now in
    let up : Ascend ps = subst Ascend (sym c.deref.ensures.value) c.self.invariant.0 in
    let among : Contains ps c.args.prefix = subst (λ (l : List Cidr). Contains l c.args.prefix) (sym (c.deref.ensures.value ∙ ap (λ (v : LocRibsView). v.prefixes) c.self.view_is)) some in
    not_among ps c.args.prefix c.in-Err.field-0 (c.in-Err.ensures.position (searchable ps c.args.prefix up)) among
