use Rattle.std.proofs.Common.{◌∙◌, arith, true, false, ◌≤◌}
use Rattle.nc_diagram.specs.Diagrams.{IsReduced}
use Rattle.nc_diagram.proofs.PairLemmas.{IsEndAt-ends, meaning-fixing_top, one_falls}
use Rattle.nc_diagram.proofs.store.Store.cofactors.Goals as goal

pub returns : goal.returns
returns c =
    let nodes = c.args.self.now.nodes in
    let o : IsReduced nodes = c.checked.ensures in
    let p = c.args.pair in
    let v = c.min-variable.result in
    let l = c.node-left.ensures in
    let r = c.node-right.ensures in
    let left : v ≤ c.node-left.result.variable = omega (arith, c.min-variable.ensures) in
    let right : v ≤ c.node-right.result.variable = omega (arith, c.min-variable.ensures) in
    let left_low = IsEndAt-ends nodes o p.left c.node-left.result l v left false c.ends-low_left.result.0 c.ends-low_left.ensures.low in
    let left_high = IsEndAt-ends nodes o p.left c.node-left.result l v left true c.ends-low_left.result.1 c.ends-low_left.ensures.high in
    let right_low = IsEndAt-ends nodes o p.right c.node-right.result r v right false c.ends-low_right.result.0 c.ends-low_right.ensures.low in
    let right_high = IsEndAt-ends nodes o p.right c.node-right.result r v right true c.ends-low_right.result.1 c.ends-low_right.ensures.high in
    record {
      top = record {
        narrow = omega (arith, l.narrow);
        left_value = meaning-fixing_top nodes o p.left c.requires.belong.0 v (omega (arith, l.asks));
        right_value = meaning-fixing_top nodes o p.right c.requires.belong.1 v (omega (arith, r.asks));
      };
      low = record {
        left_no_newer = left_low.no_newer;
        right_no_newer = right_low.no_newer;
        older = one_falls c.node-left.result.variable c.node-right.result.variable v c.min-variable.ensures c.ends-low_left.result.0 c.ends-low_right.result.0 p.left p.right left_low.no_newer right_low.no_newer (λ e. left_low.older (l.asks ∙ e)) (λ e. right_low.older (r.asks ∙ e));
        left_value = left_low.value;
        right_value = right_low.value;
      };
      high = record {
        left_no_newer = left_high.no_newer;
        right_no_newer = right_high.no_newer;
        older = one_falls c.node-left.result.variable c.node-right.result.variable v c.min-variable.ensures c.ends-low_left.result.1 c.ends-low_right.result.1 p.left p.right left_high.no_newer right_high.no_newer (λ e. left_high.older (l.asks ∙ e)) (λ e. right_high.older (r.asks ∙ e));
        left_value = left_high.value;
        right_value = right_high.value;
      };
    }
