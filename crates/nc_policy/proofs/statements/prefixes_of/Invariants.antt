use Rattle.std.proofs.Common.{◌≡◌, map, take}
use Rattle.nc_policy.proofs.statements.prefixes_of.Given as goal

-- the prefixes so far
abbrev pub invariant-items : goal.invariant-items
invariant-items g l = l.prefixes.items ≡ map g.T.Prefixed.prefix_of (take l.item-index l.items)
