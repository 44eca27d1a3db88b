use Rattle.std.proofs.Common.{Bor, IfSome, Option, Some, refl, subst, ap, ◌∙◌}
use Rattle.nc_policy.specs.declared.router_index.RouterIndex.{RouterIndex}
use Rattle.std.specs.Option.{option_map}
use Rattle.nc_policy.specs.declared.index.ListIndex.{ListIndex}
use Rattle.nc_policy.specs.Seen.{entry_table, IsIndexed}
use Rattle.nc_policy.proofs.Permitting.{seen_at}
use Rattle.nc_policy.proofs.lists.index_of.Goals as goal

pub returns-in-Some-Some : goal.returns-in-Some-Some
returns-in-Some-Some c = λ config list given at.
    let index = c.in_ok-index.index.now in
    let is : IsIndexed config index = subst (λ (o : Option (Bor RouterIndex)). IfSome o (λ x. IsIndexed config x.now)) c.in_ok-index.was given in
    let some = c.in-Some-Some in
    let read = some.ensures.lookup in
    let seen = seen_at (option_map entry_table) index.lists.items c.deref.result.now c.args.place some.field-0.now c.deref.ensures.value read.3.0 read.1 in
    is.entries.each c.args.place list (Some (entry_table some.table)) at (seen ∙ ap (λ (o : Option ListIndex). Some (option_map entry_table o)) some.field-0-is) (entry_table some.table) refl
