use Rattle.std.proofs.Common.{◌+◌, get_or, refl}
use Rattle.nc_types.specs.Network.{owner_at}
use Rattle.nc_report.proofs.Showing.{fresh-more, fresh-first, fresh-all, owned-more, owned-none}
use Rattle.nc_report.proofs.shown.Shown.refresh.Goals as goal

pub touched-init : goal.touched-init
touched-init c = λ before count touches same. fresh-first c.args.network.now c.args.marks.now before c.args.touched.now c.args.self.now count touches same

pub touched-preserved : goal.touched-preserved
touched-preserved c = λ before count touches same.
    fresh-more c.args.network.now c.args.marks.now _ _ c.put_element.new.self
    (λ r k h. owned-more c.args.touched.now c.touched.element-index (get_or c.args.touched.now c.touched.element-index 0) (owner_at c.args.network.now r (k + 1)) c.touched-test.true refl h)
    (c.put_element.ensures _ (c.touched.invariant before count touches same))

pub returns : goal.returns
returns c = λ before count touches same.
    fresh-all c.args.network.now c.args.marks.now _ c.touched.self
    (λ r k. owned-none c.args.touched.now c.touched.element-index (owner_at c.args.network.now r (k + 1)) c.touched-test.false) (c.touched.invariant before count touches same)
