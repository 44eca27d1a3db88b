use Rattle.std.proofs.Common.{◌≡◌, ◌-◌, sym, ◌∙◌, arith}
use Rattle.nc_underlay.proofs.Steps.{first, found, passed, last_level}
use Rattle.nc_underlay.proofs.reach.reaches.Goals as goal

pub levels-init : goal.levels-init
levels-init c = record {
  answer = first c.args.network.now c.args.base.now c.args.addr.0 c.args.hops c.args.router.0 c.flag_alone-level.result c.requires.router c.flag_alone-level.ensures.flags;
  size = c.flag_alone-level.ensures.len;
}

pub returns-then-has_owner : goal.returns-then-has_owner
returns-then-has_owner c =
    sym (c.levels.invariant.answer ∙ found c.args.network.now c.args.base.now c.args.addr.0 c.levels.left c.levels.level (sym c.has_owner.ensures ∙ c.if-has_owner.true))

pub levels-preserved : goal.levels-preserved
levels-preserved c = record {
  answer = c.levels.invariant.answer ∙ passed c.args.network.now c.args.base.now c.args.addr.0 c.levels.left (c.levels.left - 1) c.levels.level c.next_level-level.result (omega arith) (sym c.has_owner.ensures ∙ c.if-has_owner.false) c.next_level-level.ensures.flags;
  size = c.next_level-level.ensures.len;
}

pub returns : goal.returns
returns c =
    let none : c.levels.left ≡ 0 = omega arith in
    c.has_owner-2.ensures ∙ sym (c.levels.invariant.answer ∙ last_level c.args.network.now c.args.base.now c.args.addr.0 c.levels.left c.levels.level none)
