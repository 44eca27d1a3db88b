use Rattle.std.proofs.Common.{◌≡◌, ◌++◌, map, drop}
use Rattle.nc_round.proofs.waking.wake_networks.Given as goal

-- what is woken so far and the rows of the networks that are left are all
abbrev pub invariant-networks : goal.invariant-networks
invariant-networks l =
    l.woken.items ++ map (λ p. (l.router, p)) (map (λ n. n.prefix) (drop l.network-index l.networks)) ≡ l.fn.woken.items ++ map (λ p. (l.router, p)) (map (λ n. n.prefix) l.networks)
