use Rattle.std.proofs.Common.{◌≡◌, refl, sym, subst, ◌∙◌}
use Rattle.nc_cut.specs.Known.{known_in}
use Rattle.nc_cut.specs.Cuts.{is_free}
use Rattle.nc_cut.specs.Sizes.{begins, entry}
use Rattle.nc_cut.proofs.WalkLemmas.{IsWalk, begins_read, walks_low, walks_high, walk_ends}
use Rattle.nc_cut.proofs.cut.walk.Goals as goal
use Rattle.nc_cut.proofs.cut.walk.Goals.{After-begins}

-- what was read of the sizes
read : (c : After-begins) → begins (is_free c.args.free.now c.in-Some.parts.variable) (entry (known_in c.args.sizes.now) c.in-Some.parts.low) (entry (known_in c.args.sizes.now) c.in-Some.parts.high) ≡ c.begins.result
read c =
    let known = known_in c.args.sizes.now in
    begins_read c.begins.result c.is_free.result (is_free c.args.free.now c.in-Some.parts.variable) c.size_at-low.result (entry known c.in-Some.parts.low) c.size_at-high.result (entry known c.in-Some.parts.high)
    c.begins.ensures c.is_free.ensures c.size_at-low.ensures c.size_at-high.ensures

pub walk-preserved-then-begins : goal.walk-preserved-then-begins
walk-preserved-then-begins c =
    let at = goal.at.walk-preserved-then-begins c in
    let known = known_in c.args.sizes.now in
    subst (IsWalk c.args.store.now.nodes c.args.free.now c.args.r known c.in-Some.parts.low) (sym c.in_ok-push.ensures.items)
    (walks_low c.args.store.now.nodes c.args.free.now c.args.r known c.requires.sizes c.walk.at c.walk.cut.items c.walk.invariant c.in-Some.parts c.in-Some.ensures.splits (read at.After-begins ∙ c.if-begins.true))

pub walk-preserved : goal.walk-preserved
walk-preserved c =
    let at = goal.at.walk-preserved c in
    walks_high c.args.store.now.nodes c.args.free.now c.args.r (known_in c.args.sizes.now) c.requires.sizes c.walk.at c.walk.cut.items c.walk.invariant c.in-Some.parts c.in-Some.ensures.splits (read at.After-begins ∙ c.if-begins.false)

pub returns : goal.returns
returns c =
    walk_ends c.args.store.now.nodes c.args.free.now c.args.r (known_in c.args.sizes.now) c.requires.sizes c.walk.at c.walk.cut.items c.walk.invariant (c.in_default.ensures.place.0 refl)
