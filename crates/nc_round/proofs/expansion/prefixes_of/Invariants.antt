use Rattle.std.proofs.Common.{◌≡◌, map, take}
use Rattle.nc_round.proofs.expansion.prefixes_of.Given as goal

abbrev pub invariant-networks : goal.invariant-networks
invariant-networks l = l.prefixes.items ≡ map (λ n. n.prefix) (take l.network-index l.networks)
