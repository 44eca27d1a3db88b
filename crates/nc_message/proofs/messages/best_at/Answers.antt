use Rattle.std.proofs.Common.{◌≡◌, List, [], ◌∷◌, IfSome, Option, Some, None, map, slice_get, ap, ◌∙◌}
use Rattle.std.specs.Option.{option_map, option_map_or}
use Rattle.nc_types.specs.Cidr.{Cidr}
use Rattle.nc_tables.specs.declared.bgp.Chosen.{Chosen}
use Rattle.nc_tables.specs.declared.rib_route.RibRoute.{RibRoute}
use Rattle.nc_tables.specs.Spread.{with_prefix}
use Rattle.nc_tables.specs.SpreadView.{route_view}
use Rattle.nc_message.proofs.messages.best_at.Goals as goal

-- the first one in a row is of the row's prefix
first_own : (p q : Cidr) (xs : List Chosen) (o : Option RibRoute) → option_map route_view o ≡ slice_get (map (with_prefix p) xs) 0 → p ≡ q → IfSome o (λ b. (route_view b).route.prefix ≡ q)
first_own p q xs None e same = tt
first_own p q [] (Some b) e same = absurd cc
first_own p q (x ∷ xs) (Some b) e same = ap (λ (o : Option Chosen). option_map_or (λ y. y.route.prefix) o p) e ∙ same

pub returns-clause-own : goal.returns-clause-own
returns-clause-own c =
    let row = c.in_ok-chosen.field-0 in
    first_own row.prefix.now c.args.prefix row.held.now c.get.result c.get.ensures c.in_ok-chosen.ensures.prefix
