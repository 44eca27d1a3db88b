use Rattle.std.proofs.Common.{◌<◌, ◌≤◌, length, refl, sym, subst, arith}
use Rattle.nc_reader.specs.Gathering.{sketch}
use Rattle.nc_reader.proofs.GatherLemmas.{IsSoFar, begins_blank, one_more, all_gathered}
use Rattle.nc_reader.proofs.gather.gather.Goals as goal

pub loop-above-init : goal.loop-above-init
loop-above-init c = subst (IsSoFar c.args.lines.now 0) (sym c.new-draft.ensures) (begins_blank c.args.lines.now)

pub loop-above-preserved : goal.loop-above-preserved
loop-above-preserved c =
    let some : c.loop-above.above < length c.args.lines.now = omega (arith, c.count-above-end.ensures, c.loop-above-test.true) in
    subst (IsSoFar c.args.lines.now _) (sym c.in_ok-take.ensures) (one_more c.args.lines.now c.loop-above.above (sketch c.loop-above.draft) some c.loop-above.invariant)

pub returns : goal.returns
returns c =
    let none : length c.args.lines.now ≤ c.loop-above.above = omega (arith, c.count-above-end.ensures, c.loop-above-test.false) in
    all_gathered c.args.lines.now c.loop-above.above c.loop-above.draft _ none c.loop-above.invariant refl refl refl refl
