use Rattle.nc_rules.specs.Seen.{state_of}
use Rattle.nc_engine.proofs.Drawing.{has-references}
use Rattle.nc_engine.proofs.work.Work.references_are_kept.Goals as goal

pub returns : goal.returns
returns c = λ files.
    let w = c.args.self.now in
    has-references files w c.requires (c.rules_make_a_flow.ensures (state_of w.rules) c.requires.state) c.len-facts.ensures.graph
