use Rattle.std.proofs.Common.{◌<◌, ◌≤◌, suc, Bool, Some, ◌&&◌, length, sym, ap, ◌∙◌, arith}
use Rattle.std.proofs.lemmas.Bool.{and_parts, le-leb, leb-true}
use Rattle.std.proofs.lemmas.List.{get_or_default}
use Rattle.nc_types.specs.declared.TheConstants.{HOP_LIMIT}
use Rattle.nc_underlay.specs.Distances.{fewest_of, is_earlier}
use Rattle.nc_trace.specs.Found.{covers}
use Rattle.nc_trace.specs.Levels.{over, step, passes_as}
use Rattle.nc_trace.proofs.Finding.{some_within}
use Rattle.nc_trace.proofs.Marking.{found_stepped}
use Rattle.nc_trace.proofs.Numbers.{still_backed, sum_smaller}
use Rattle.nc_trace.proofs.counting.lower.Goals as goal

pub returns-then-fewest-router-clause-least : goal.returns-then-fewest-router-clause-least
returns-then-fewest-router-clause-least c same hops few e =
    let asked = c.args.asked in
    let router = c.args.router.0 in
    let within : router < length c.args.fewest.now = omega (arith, some_within c.args.found.now router c.requires.this, c.requires.room) in
    let passes = (and_parts (covers c.args.found.now router) (passes_as asked.state.now asked.by asked.addr.0 (is_earlier c.args.fewest.now hops) router) e).1 in
    let told : c.hops_from-hops.result ≤ hops = leb-true c.hops_from-hops.result hops (c.hops_from-hops.ensures hops few ∙ passes) in
    le-leb (fewest_of c.args.fewest.now router) hops (omega (arith, get_or_default c.args.fewest.now router 0 (suc HOP_LIMIT) within, told, c.if-fewest-router.true))

pub returns-clause-backed : goal.returns-clause-backed
returns-clause-backed c =
    let asked = c.args.asked in
    let router = c.args.router.0 in
    let found = c.args.found.now in
    let steps = found_stepped asked.state.now asked.by asked.addr.0 c.requires.asked.none found c.requires.found in
    let within : router < length c.args.fewest.now = omega (arith, some_within c.args.found.now router c.requires.this, c.requires.room) in
    let less : c.hops_from-hops.result < fewest_of c.args.fewest.now router = omega (arith, get_or_default c.args.fewest.now router 0 (suc HOP_LIMIT) within, c.if-fewest-router.false) in
    still_backed (over asked.state.now asked.by asked.addr.0 (Some found)) (step asked.state.now asked.by asked.addr.0 (Some found)) steps c.args.fewest.now router c.hops_from-hops.result within less c.requires.backed
    (λ k few e. ap (λ (b : Bool). b && passes_as asked.state.now asked.by asked.addr.0 (is_earlier c.args.fewest.now k) router) c.requires.this ∙ sym (c.hops_from-hops.ensures k few) ∙ e)

pub returns-clause-smaller : goal.returns-clause-smaller
returns-clause-smaller c same =
    let asked = c.args.asked in
    let router = c.args.router.0 in
    let found = c.args.found.now in
    let steps = found_stepped asked.state.now asked.by asked.addr.0 c.requires.asked.none found c.requires.found in
    let within : router < length c.args.fewest.now = omega (arith, some_within c.args.found.now router c.requires.this, c.requires.room) in
    let less : c.hops_from-hops.result < fewest_of c.args.fewest.now router = omega (arith, get_or_default c.args.fewest.now router 0 (suc HOP_LIMIT) within, c.if-fewest-router.false) in
    sum_smaller (over asked.state.now asked.by asked.addr.0 (Some found)) (step asked.state.now asked.by asked.addr.0 (Some found)) steps c.args.fewest.now router c.hops_from-hops.result within less

pub bounds-fewest-router : goal.bounds-fewest-router
bounds-fewest-router c = omega (arith, some_within c.args.found.now c.args.router.0 c.requires.this, c.requires.room)
