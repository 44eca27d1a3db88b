use Rattle.nc_fact.specs.Roots.{roots_of}
use Rattle.nc_fact.proofs.Adding.{numbered_part_more}
use Rattle.nc_fact.proofs.all.roots.Goals as goal

pub routers-preserved : goal.routers-preserved
routers-preserved c = numbered_part_more (roots_of c.args.state.now) c.routers.facts.items c.add_roots.new.facts.items c.routers.router c.routers.invariant c.in_ok-add_roots.ensures
