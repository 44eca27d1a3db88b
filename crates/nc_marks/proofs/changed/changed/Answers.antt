use Rattle.std.proofs.Common.{◌<◌, arith}
use Rattle.nc_marks.proofs.ChangedLemmas.{within-more, others-more}
use Rattle.nc_marks.proofs.changed.changed.Goals as goal

pub elements-preserved : goal.elements-preserved
elements-preserved c =
    let old = c.args.before.now in
    let new = c.args.after.now in
    let list = c.elements.list.items in
    let next = c.list_changed.new.list.items in
    let k = c.elements.element in
    let here : k < c.args.elements = omega (arith, c.elements-test.true, c.elements.auto.element-end) in
    record {
      within = within-more old new c.args.elements k list next here c.in_ok-list_changed.ensures c.elements.invariant.within;
      others = others-more old new c.args.elements k list next here c.in_ok-list_changed.ensures c.elements.invariant.others;
    }
