use Rattle.std.proofs.Common.{◌∙◌, ◌<◌, sym, subst}
use Rattle.nc_marks.specs.Reach.{is_leaf_of}
use Rattle.nc_marks.specs.Sets.{flag}
use Rattle.nc_suite.proofs.DeadLemmas.{flags-more}
use Rattle.nc_suite.proofs.unmet.flag_elements.Goals as goal

pub nodes-preserved : goal.nodes-preserved
nodes-preserved g c = record {
  len = c.flag_element.ensures.len ∙ c.nodes.invariant.len;
  flags = λ e lt. flags-more (is_leaf_of e) c.args.graph.now.kinds c.nodes.number c.kind.result c.kind.ensures (flag c.args.flags.now.items e) (flag c.nodes.flags.items e) (flag c.flag_element.new.flags.items e)
      (c.nodes.invariant.flags e lt) (c.flag_element.ensures.flags e (subst (λ n. e < n) (sym c.nodes.invariant.len) lt));
}
