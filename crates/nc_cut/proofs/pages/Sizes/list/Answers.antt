use Rattle.std.proofs.Common.{◌+◌, is_ok, arith}
use Rattle.nc_cut.proofs.PageLemmas.{resized_same, listed_paged}
use Rattle.nc_cut.proofs.pages.Sizes.list.Goals as goal

pub invariant_of-self : goal.invariant_of-self
invariant_of-self c = record {
  paged = listed_paged c.args.self.now.starts.items c.resize.new.self.items c.args.self.now.slots.items
      (resized_same c.args.self.now.starts.items c.resize.new.self.items (c.args.page + 1) _ (is_ok c.resize.result) (omega (arith, c.if-page-len.false, c.len.ensures)) c.resize.ensures.items)
      c.args.self.now.paged;
}
