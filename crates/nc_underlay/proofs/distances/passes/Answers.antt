use Rattle.std.proofs.Common.{sym, ap, ◌∙◌}
use Rattle.std.specs.List.{list_any}
use Rattle.nc_types.specs.declared.config.RouterId.{RouterId}
use Rattle.nc_underlay.specs.Distances.{is_earlier}
use Rattle.nc_underlay.proofs.Nexts.{any_map}
use Rattle.nc_underlay.proofs.Found.{by_nexts, by_owner}
use Rattle.nc_underlay.proofs.distances.passes.Goals as goal

pub returns-then-is_owner : goal.returns-then-is_owner
returns-then-is_owner c routers tables addr is = by_owner routers tables addr c.args.toward.now is (is_earlier c.args.fewest.now c.args.hops) c.args.router.0 (sym c.is_owner.ensures ∙ c.if-is_owner.true)

pub returns : goal.returns
returns c routers tables addr is =
    let from = is_earlier c.args.fewest.now c.args.hops in
    c.some_earlier.ensures ∙ sym (any_map from (λ (next : RouterId). next.0) c.nexts.result.now)
    ∙ ap (list_any from) (c.nexts.ensures ∙ is.nexts c.args.router.0)
    ∙ by_nexts routers tables addr c.args.toward.now is from c.args.router.0 (sym c.is_owner.ensures ∙ c.if-is_owner.false)
