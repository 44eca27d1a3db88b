use Rattle.std.proofs.Common.{None, ℕ, List, sym, subst, arith, inr}
use Rattle.nc_underlay.specs.Distances.{fewest_of, IsMarked}
use Rattle.nc_underlay.proofs.Fewest.{never, no_more}
use Rattle.nc_trace.specs.Levels.{over}
use Rattle.nc_trace.proofs.Marking.{all_stepped}
use Rattle.nc_trace.proofs.levels.fewest_hops.Goals as goal

pub levels-init : goal.levels-init
levels-init c = record { marked = λ r. record { right = λ k lt. absurd (omega (arith, lt)); known = inr (never 256 r) }; upto = omega arith }

pub returns-then-not-mark_level : goal.returns-then-not-mark_level
returns-then-not-mark_level c =
    let asked = c.args.asked in
    let reached = over asked.state.now asked.by asked.addr.0 None in
    let kept = c.mark_level.ensures.same c.if-not-mark_level.true in
    no_more reached _ (all_stepped asked.state.now asked.by asked.addr.0 c.requires.none) c.levels.hops c.mark_level.new.fewest c.levels-test.true
    (λ r. subst (λ (fs : List ℕ). IsMarked reached c.levels.hops (fewest_of fs r) r) (sym kept) (c.levels.invariant.marked r)) c.mark_level.ensures.marked
