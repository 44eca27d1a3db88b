use Rattle.std.proofs.Common.{arith}
use Rattle.nc_cut.proofs.PageLemmas.{resized_paged}
use Rattle.nc_cut.proofs.pages.Sizes.make.Goals as goal

pub invariant_of-self-2 : goal.invariant_of-self-2
invariant_of-self-2 c = record {
  paged = resized_paged c.args.self.now.starts.items c.args.self.now.slots.items c.args.self.now.paged
      c.args.page c.requires.listed c.requires.missing c.len-start.result _ c.resize.new.self.items
      (omega (arith, c.len-start.ensures)) (omega (arith, c.len-start.ensures)) c.in_ok-resize.ensures.items;
}
