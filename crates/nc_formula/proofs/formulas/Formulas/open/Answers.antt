use Rattle.std.proofs.Common.{[], ◌∷◌, ◌++◌, map, inr, sym, ap, ◌∙◌}
use Rattle.nc_formula.specs.declared.walk.Task.TheVariants.{Need, Make}
use Rattle.std.proofs.lemmas.Option.{get_or_from_slice_get}
use Rattle.nc_formula.proofs.formulas.Formulas.open.Goals as goal

pub returns : goal.returns
returns g c =
    inr (c.in_ok-need_all.ensures ∙ ap (λ ts. ts ++ map Need c.parents.result.now) c.in_ok-push.ensures.items
    ∙ ap (λ ps. (c.args.tasks.now.items ++ Make c.args.node ∷ []) ++ map Need ps) (sym (get_or_from_slice_get c.args.graph.now.parents c.args.node.0 c.parents.result.now [] c.parents.ensures.parents)))
