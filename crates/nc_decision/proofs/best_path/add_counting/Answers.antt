use Rattle.std.proofs.Common.{◌∙◌}
use Rattle.nc_decision.proofs.Standing.{stands_or_none}
use Rattle.nc_decision.proofs.best_path.add_counting.Goals as goal

pub leaves_best_path-requires-clause-peering : goal.leaves_best_path-requires-clause-peering
leaves_best_path-requires-clause-peering c =
    let i = c.args.inputs.now in
    stands_or_none i.network.now i.base.now i.sessions.now c.args.router.0 c.args.peerings.now c.requires.peerings c.args.place _ c.get-peering.ensures

pub leaves_best_path-requires-clause-process : goal.leaves_best_path-requires-clause-process
leaves_best_path-requires-clause-process c = c.process-process.ensures ∙ c.requires.peerings.process
