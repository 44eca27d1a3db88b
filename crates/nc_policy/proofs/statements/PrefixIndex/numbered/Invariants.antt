use Rattle.std.proofs.Common.{◌≡◌, drop}
use Rattle.std.specs.Prelude.{position}
use Rattle.std.specs.List.{position_from}
use Rattle.std.specs.Option.{option_or}
use Rattle.nc_types.specs.Cidr.{Cidr, same_prefix}
use Rattle.nc_policy.specs.Placing.{prefix_place_at}
use Rattle.nc_policy.proofs.statements.PrefixIndex.numbered.Given as goal

-- the first so far that has a prefix, or else that of those that are left, is the first of all
abbrev pub invariant-prefixes : goal.invariant-prefixes
invariant-prefixes l = (p : Cidr) → option_or (prefix_place_at p l.placed.items) (position_from (λ q. same_prefix q p) l.place (drop l.place l.prefixes)) ≡ position (λ q. same_prefix q p) l.prefixes
