use Rattle.std.proofs.Common.{None, ◌<◌, ◌&&◌, suc, length, Bool, ap, sym, ◌∙◌, arith}
use Rattle.std.proofs.lemmas.Bool.{lt-ltb}
use Rattle.std.proofs.lemmas.List.{get_or_default}
use Rattle.nc_types.specs.declared.TheConstants.{HOP_LIMIT}
use Rattle.nc_underlay.specs.Distances.{fewest_of}
use Rattle.nc_underlay.proofs.Fewest.{level}
use Rattle.nc_trace.specs.Levels.{over}
use Rattle.nc_trace.proofs.Marking.{all_stepped}
use Rattle.nc_trace.proofs.levels.is_new.Goals as goal

pub returns : goal.returns
returns c =
    let asked = c.args.asked in
    let reached = over asked.state.now asked.by asked.addr.0 None in
    let within : c.args.router.0 < length c.args.fewest.now = omega (arith, c.told-fewest, c.requires.router, c.requires.few) in
    let same = get_or_default c.args.fewest.now c.args.router.0 0 (suc HOP_LIMIT) within in
    c.passes.ensures
    ∙ level reached _ (all_stepped asked.state.now asked.by asked.addr.0 c.requires.asked.none) c.args.hops c.args.fewest.now c.requires.known c.args.router.0
    ∙ ap (λ (b : Bool). b && reached c.args.hops c.args.router.0) (sym (lt-ltb c.args.hops (fewest_of c.args.fewest.now c.args.router.0) (omega (arith, same, c.if-fewest-router.false))))
