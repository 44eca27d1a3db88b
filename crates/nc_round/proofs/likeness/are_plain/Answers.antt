use Rattle.std.proofs.Common.{◌≡◌, ◌+◌, ◌++◌, ◌∷◌, [], All, take, sym, ap, subst, ◌∙◌, arith}
use Rattle.std.proofs.lemmas.List.{take_all, take_more}
use Rattle.std.proofs.lemmas.List.Elements.{All-push}
use Rattle.nc_types.specs.declared.config.RouterConfig.{RouterConfig}
use Rattle.nc_round.proofs.BegunAlone.{plain_by, IsPlainAt}
use Rattle.nc_round.proofs.likeness.are_plain.Goals as goal

pub routers-preserved : goal.routers-preserved
routers-preserved c =
    let routers = c.args.routers.now in
    let index = c.routers.config-index in
    let router : RouterConfig = c.config-item.result in
    let next : take index routers ++ router ∷ [] ≡ take (index + 1) routers = ap (λ (r : RouterConfig). take index routers ++ r ∷ []) c.config-item.is ∙ sym (take_more routers index router (omega arith)) in
    subst (All IsPlainAt) next (All-push IsPlainAt (take index routers) router c.routers.invariant (c.is_plain_at.ensures c.if-not-is_plain_at.false))

pub returns : goal.returns
returns c e =
    let routers = c.args.routers.now in
    plain_by routers (subst (All IsPlainAt) (take_all c.routers.config-index routers (omega arith)) c.routers.invariant)
