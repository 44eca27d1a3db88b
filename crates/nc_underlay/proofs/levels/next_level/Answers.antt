use Rattle.std.proofs.Common.{length, ap, sym, ◌∙◌}
use Rattle.nc_underlay.specs.Levels.{flag, is_next}
use Rattle.nc_underlay.proofs.Flagging.{none_flagged}
use Rattle.nc_underlay.proofs.Marks.{one_flagged, none_more}
use Rattle.nc_underlay.proofs.levels.next_level.Goals as goal
use Rattle.nc_underlay.proofs.levels.next_level.Goals.{then-level-router, else-level-router}

pub routers-init : goal.routers-init
routers-init c = record { flags = λ other. c.no_flags-next.ensures.flags other ∙ sym (none_flagged c.args.level.now (λ r. is_next c.args.network.now c.args.base.now r c.args.addr.0 other)); size = c.no_flags-next.ensures.len }

pub routers-preserved : goal.routers-preserved
routers-preserved c =
    let network = c.args.network.now in
    let level = c.args.level.now in
    elim c.if-level-router.branch [
      | then-level-router w ↦ record {
        flags = λ other.
            ap (λ fs. flag fs other) w.next-is
            ∙ one_flagged level (λ r. is_next network c.args.base.now r c.args.addr.0 other) c.routers.router (flag c.routers.next other) (flag w.flag_next.new.flags other) (c.routers.invariant.flags other) w.if-level-router.true (w.flag_next.ensures.flags other);
        size = ap length w.next-is ∙ w.flag_next.ensures.len ∙ c.routers.invariant.size;
      }
      | else-level-router w ↦ record {
        flags = λ other.
            ap (λ fs. flag fs other) w.next-is
            ∙ none_more level (λ r. is_next network c.args.base.now r c.args.addr.0 other) c.routers.router (flag c.routers.next other) (c.routers.invariant.flags other) w.if-level-router.false;
        size = ap length w.next-is ∙ c.routers.invariant.size;
      }
    ]
