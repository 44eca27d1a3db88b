use Rattle.std.proofs.Common.{◌≡◌, ◌<◌, ◌++◌, ◌∷◌, [], Some, get_or, set, slice_get, sym, ap, subst, ◌∙◌}
use Rattle.std.proofs.lemmas.Option.{slice_get-get_or}
use Rattle.nc_types.specs.Cidr.{Cidr}
use Rattle.nc_tables.proofs.Choices.{not_among, searchable}
use Rattle.nc_tables.proofs.InOrder.{equal_is}
use Rattle.nc_round.specs.declared.owners.Owner.{Owner}
use Rattle.nc_round.specs.Likeness.{AreOwners}
use Rattle.nc_round.proofs.Owned.{noted, unnoted}
use Rattle.nc_round.proofs.owners.note.Goals as goal

pub returns-in-Ok-clause-owners : goal.returns-in-Ok-clause-owners
returns-in-Ok-clause-owners c seen are =
    let all = c.args.all.now in
    let owners = c.args.owners.now.items in
    let at = c.in-Ok.number in
    let prefix : Cidr = c.args.key.1 in
    let here : slice_get all at ≡ Some prefix = slice_get-get_or all at prefix c.in-Ok.ensures.bound ∙ ap Some (equal_is (get_or all at prefix) prefix (c.in-Ok.ensures.ok prefix)) in
    let own : slice_get owners at ≡ Some c.index.result.now = slice_get-get_or owners at c.index.result.now (subst (λ n. at < n) (sym c.requires.count) c.in-Ok.ensures.bound) ∙ ap Some (sym c.index.ensures) in
    subst (λ (o : Owner). AreOwners (seen ++ c.args.key ∷ []) all (set owners at o)) (sym c.with.ensures) (noted seen c.args.key all owners are at c.index.result.now c.requires.ordered here own)

pub returns-in_default-clause-owners : goal.returns-in_default-clause-owners
returns-in_default-clause-owners c seen are =
    let all = c.args.all.now in
    unnoted seen c.args.key all c.args.owners.now.items are
    (not_among all c.args.key.1 c.in_default.field-0 (c.in_default.ensures.position (searchable all c.args.key.1 c.requires.ordered)))
