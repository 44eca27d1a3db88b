use Rattle.std.proofs.Common.{refl, sym, ap, ◌∙◌}
use Rattle.nc_marks.specs.declared.mark.Mark.TheVariants.{Weak}
use Rattle.nc_suite.specs.Counts.{mark_in, marked_if, over}
use Rattle.nc_suite.proofs.TouchLemmas.{over-none, no-leaf}
use Rattle.nc_suite.proofs.listing.Listing.add_leaf.Goals as goal

pub returns-in_default : goal.returns-in_default
returns-in_default g c = record {
  width = refl;
  marks = λ e lt.
      let k = no-leaf c.args.graph.now.kinds c.args.node.0 c.kind.result c.kind.ensures c.in_default.not-Leaf e in
      sym (over-none c.args.self.now.touches e) ∙ sym (ap (λ b. over (mark_in c.args.self.now.touches e) (marked_if b Weak)) k);
}
