use Rattle.std.proofs.Common.{arith, ◌∙◌, subst, List}
use Rattle.std.specs.List.{flat_map}
use Rattle.std.proofs.lemmas.List.{take_all}
use Rattle.nc_cut.specs.Cuts as plain
use Rattle.nc_graph.specs.declared.node.NodeId.{NodeId}
use Rattle.nc_marks.specs.Kept.{strong_at}
use Rattle.nc_engine.proofs.Single.{sets_more}
use Rattle.nc_engine.proofs.cuts.first_strong.Goals as goal

pub nodes-preserved : goal.nodes-preserved
nodes-preserved c =
    sets_more c.args.free.now (λ (p : NodeId). strong_at c.args.marks.now p.0) c.args.nodes.now c.nodes.node-index _ c.deref.result.now c.first_free-first.result c.nodes-test.true
    (c.deref.ensures.value ∙ c.in_ok-strong.ensures) (c.first_free-first.ensures _ c.nodes.invariant)

pub returns : goal.returns
returns c =
    subst (λ (ids : List NodeId). plain.IsFirstFree c.args.free.now (flat_map (λ p. strong_at c.args.marks.now p.0) ids) c.nodes.first)
    (take_all c.nodes.node-index c.args.nodes.now (omega (arith, c.nodes-test.false))) c.nodes.invariant
