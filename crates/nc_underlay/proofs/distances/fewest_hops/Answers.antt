use Rattle.std.proofs.Common.{List, ℕ, sym, subst, arith, inr}
use Rattle.nc_underlay.specs.Distances.{fewest_of, within, IsMarked}
use Rattle.nc_underlay.proofs.Fewest.{never, no_more, all_tried}
use Rattle.nc_underlay.proofs.Nexts.{stepped}
use Rattle.nc_underlay.proofs.distances.fewest_hops.Goals as goal

pub levels-init : goal.levels-init
levels-init c = record { marked = λ routers tables addr is r. record { right = λ k lt. absurd (omega (arith, lt)); known = inr (never 256 r) }; upto = omega arith }

pub levels-preserved : goal.levels-preserved
levels-preserved c = record { marked = λ routers tables addr is. c.mark_level.ensures.marked routers tables addr is (c.levels.invariant.marked routers tables addr is); upto = omega arith }

pub returns-then-not-mark_level : goal.returns-then-not-mark_level
returns-then-not-mark_level c routers tables addr is =
    let kept = c.mark_level.ensures.same c.if-not-mark_level.true in
    let before = c.levels.invariant.marked routers tables addr is in
    no_more (within routers tables addr) _ (stepped routers tables addr) c.levels.hops c.mark_level.new.fewest c.levels-test.true
    (λ r. subst (λ (fs : List ℕ). IsMarked (within routers tables addr) c.levels.hops (fewest_of fs r) r) (sym kept) (before r)) (c.mark_level.ensures.marked routers tables addr is before)

pub returns : goal.returns
returns c routers tables addr is = all_tried (within routers tables addr) _ (stepped routers tables addr) c.levels.hops c.levels.fewest (omega arith) (c.levels.invariant.marked routers tables addr is)
