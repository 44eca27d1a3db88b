use Rattle.std.proofs.Common.{◌++◌, List, [], ◌∷◌, map, take, sym, ap, ◌∙◌}
use Rattle.std.proofs.lemmas.List.{map_more, take_all}
use Rattle.nc_types.specs.declared.prefix.Prefix.{Prefix}
use Rattle.nc_policy.proofs.statements.prefixes_of.Goals as goal

pub items-init : goal.items-init
items-init g c = c.in_ok-prefixes.ensures.items

pub items-preserved : goal.items-preserved
items-preserved g c =
    let of = g.T.Prefixed.prefix_of in
    let items = c.args.items.now in
    let i = c.items.item-index in
    let item = c.item-item.result in
    c.in_ok-push.ensures.items
    ∙ ap (λ (ps : List Prefix). ps ++ c.prefix.result ∷ []) c.items.invariant
    ∙ ap (λ (p : Prefix). map of (take i items) ++ p ∷ []) (c.prefix.ensures ∙ ap of c.item-item.is)
    ∙ sym (map_more of items i item c.items-test.true)

pub returns : goal.returns
returns g c = c.items.invariant ∙ ap (map g.T.Prefixed.prefix_of) (take_all c.items.item-index c.args.items.now c.items-test.false)
