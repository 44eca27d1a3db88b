-- The administrative distance of what BGP learnt (Cisco IOS IP Routing: BGP Command Reference, `distance bgp`).
use Rattle.std.specs.Prelude.{ℕ, List, [], ◌∷◌, Option, Some, None, if◌then◌else◌}
use Rattle.nc_tables.specs.declared.TheConstants.{EXTERNAL_DISTANCE, INTERNAL_DISTANCE}
use Rattle.nc_tables.specs.declared.bgp.Chosen.{Chosen}
use Rattle.nc_tables.specs.Choice.{is_learnt}

-- the distance of what is learnt: from another system, or from the own one
abbrev pub distance_of : Chosen → ℕ
distance_of best = if best.internal then INTERNAL_DISTANCE else EXTERNAL_DISTANCE

-- the distance of a prefix by what is chosen of it, where the best was learnt
abbrev pub learnt_distance : List Chosen → Option ℕ
learnt_distance [] = None
learnt_distance (best ∷ others) = if is_learnt best.from then Some (distance_of best) else None
