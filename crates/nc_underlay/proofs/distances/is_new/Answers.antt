use Rattle.std.proofs.Common.{◌&&◌, ◌<◌, suc, length, Bool, ap, sym, ◌∙◌, arith}
use Rattle.std.proofs.lemmas.Bool.{lt-ltb, le-ltb}
use Rattle.std.proofs.lemmas.List.{get_or_default}
use Rattle.nc_types.specs.declared.TheConstants.{HOP_LIMIT}
use Rattle.nc_underlay.specs.Distances.{fewest_of, within}
use Rattle.nc_underlay.proofs.Fewest.{level}
use Rattle.nc_underlay.proofs.Nexts.{stepped}
use Rattle.nc_underlay.proofs.distances.is_new.Goals as goal

pub returns-then-fewest-router : goal.returns-then-fewest-router
returns-then-fewest-router c routers tables addr is right =
    let there : c.args.router.0 < length c.args.fewest.now = omega (arith, c.told-fewest, c.requires.router) in
    let same = get_or_default c.args.fewest.now c.args.router.0 0 (suc HOP_LIMIT) there in
    sym (ap (λ (b : Bool). b && within routers tables addr c.args.hops c.args.router.0) (le-ltb c.args.hops (fewest_of c.args.fewest.now c.args.router.0) (omega (arith, same, c.if-fewest-router.true))))

pub returns : goal.returns
returns c routers tables addr is right =
    let there : c.args.router.0 < length c.args.fewest.now = omega (arith, c.told-fewest, c.requires.router) in
    let same = get_or_default c.args.fewest.now c.args.router.0 0 (suc HOP_LIMIT) there in
    c.passes.ensures routers tables addr is
    ∙ level (within routers tables addr) _ (stepped routers tables addr) c.args.hops c.args.fewest.now right c.args.router.0
    ∙ ap (λ (b : Bool). b && within routers tables addr c.args.hops c.args.router.0) (sym (lt-ltb c.args.hops (fewest_of c.args.fewest.now c.args.router.0) (omega (arith, same, c.if-fewest-router.false))))
