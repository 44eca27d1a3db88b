use Rattle.std.proofs.Common.{◌≡◌, ◌++◌, drop, map}
use Rattle.nc_round.specs.Likeness.{moved, network_at}
use Rattle.nc_round.proofs.expansion.moved_each.Given as goal

-- what is moved so far and what is left to be moved are all
abbrev pub invariant-entries : goal.invariant-entries
invariant-entries l =
    l.entries.items ++ map (moved l.prefix (network_at l.inputs.network.now l.router.0 l.prefix)) (drop l.entry-index l.chosen) ≡ map (moved l.prefix (network_at l.inputs.network.now l.router.0 l.prefix)) l.chosen
