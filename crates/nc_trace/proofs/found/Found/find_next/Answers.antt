use Rattle.std.proofs.Common.{length, ap, inl}
use Rattle.std.specs.Option.{is_some}
use Rattle.nc_trace.proofs.Growing.{more, ways_right, leads_on}
use Rattle.nc_trace.proofs.found.Found.find_next.Goals as goal

pub returns-clause-ways : goal.returns-clause-ways
returns-clause-ways c = ways_right c.args.state.now c.args.packet c.args.self.now c.find.new.self c.args.router.0 c.in_ok-find.ensures.found c.in_ok-find.ensures.others c.requires.ways

pub returns-clause-leads : goal.returns-clause-leads
returns-clause-leads c =
    leads_on c.args.state.now c.args.packet c.args.self.now c.find.new.self c.args.router.0 c.in_ok-find.ensures.found c.in_ok-find.ensures.others (length c.args.state.now.routers) c.args.list.now.items c.find.new.list.items c.find.ensures.kept
    c.requires.leads c.in_ok-find.ensures.listed

pub returns-clause-more : goal.returns-clause-more
returns-clause-more c = more c.args.state.now c.args.packet c.args.self.now c.find.new.self c.args.router.0 c.in_ok-find.ensures.found c.in_ok-find.ensures.others

pub returns-clause-done : goal.returns-clause-done
returns-clause-done c = inl (ap is_some c.in_ok-find.ensures.found)
