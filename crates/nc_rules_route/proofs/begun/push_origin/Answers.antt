use Rattle.std.proofs.Common.{sym}
use Rattle.nc_types.specs.Config.{process_view}
use Rattle.nc_rules_route.proofs.ElementFacts.{origin_pushed, no_origin, without_origin, router_exists, process_exists, network_exists}
use Rattle.nc_rules_route.proofs.begun.push_origin.Goals as goal

pub returns-in_default-network_at-clause-ok : goal.returns-in_default-network_at-clause-ok
returns-in_default-network_at-clause-ok c = no_origin c.args.state.now c.args.router c.args.place (process_view c.in-Some.process.now) (sym c.in-Some.ensures.process) c.args.into.now.items (sym c.in_default-network_at.ensures)

pub push_begun-requires-clause-router : goal.push_begun-requires-clause-router
push_begun-requires-clause-router c = router_exists c.args.state.now c.process_of.ensures.state c.args.router.0 (process_view c.in-Some.process.now) (sym c.in-Some.ensures.process)

pub push_begun-requires-clause-process : goal.push_begun-requires-clause-process
push_begun-requires-clause-process c = process_exists c.args.state.now c.process_of.ensures.state c.args.router.0 (process_view c.in-Some.process.now) (sym c.in-Some.ensures.process)

pub push_begun-requires-clause-statement : goal.push_begun-requires-clause-statement
push_begun-requires-clause-statement c = network_exists c.args.state.now c.process_of.ensures.state c.args.router.0 (process_view c.in-Some.process.now) (sym c.in-Some.ensures.process) c.args.place c.in-Some-network_at.network (sym c.in-Some-network_at.ensures)

pub returns-in_default-clause-ok : goal.returns-in_default-clause-ok
returns-in_default-clause-ok c = without_origin c.args.state.now c.args.router c.args.place (sym c.in_default.ensures.process) c.args.into.now.items

pub returns-clause-ok : goal.returns-clause-ok
returns-clause-ok c =
    origin_pushed c.args.state.now c.args.router c.args.place (process_view c.in-Some.process.now) (sym c.in-Some.ensures.process) c.args.into.now.items c.in-Some-network_at.network (sym c.in-Some-network_at.ensures) c.push_begun.new.into.items c.in_ok-push_begun.ensures.ok
