-- Prefixes for which another one stands: their rows are those of that one, but for the prefix, and a router's own row goes before.
use Rattle.std.specs.Prelude.{◌≡◌, false, List, [], ◌∷◌, map, refl}
use Rattle.nc_types.specs.Cidr.{Cidr}
use Rattle.nc_types.specs.declared.config.OriginCode.TheVariants.{Igp}
use Rattle.nc_tables.specs.declared.bgp.Chosen.{Chosen}
use Rattle.nc_tables.specs.declared.bgp.BgpFrom.TheVariants.{Origin, Entry}
use Rattle.nc_tables.specs.Rounds.{BgpRowView, begun, chosen_in}
use Rattle.nc_tables.specs.Spread.{with_prefix, spread_rows}
use Rattle.nc_tables.specs.Cases.{address, prefix, candidate}

-- three prefixes, of which the first stands for the second; nothing is chosen of the third
abbrev pub one : Cidr
one = prefix 10 1 0 0 24

abbrev pub two : Cidr
two = prefix 10 2 0 0 24

abbrev pub three : Cidr
three = prefix 10 3 0 0 24

abbrev pub learnt : Chosen
learnt = with_prefix one (candidate (Entry 0) 100 (65001 ∷ []) Igp 0 false 1 (address 10 0 0 1))

abbrev pub row : Cidr → List Chosen → BgpRowView
row p chosen = record { prefix = p; chosen = chosen }

abbrev pub rows : List BgpRowView → List BgpRowView
rows own = spread_rows own ((learnt ∷ []) ∷ [] ∷ []) (one ∷ two ∷ three ∷ []) (0 ∷ 0 ∷ 1 ∷ [])

pub of_a_router_that_learns : rows [] ≡ row one (learnt ∷ []) ∷ row two (with_prefix two learnt ∷ []) ∷ []
of_a_router_that_learns = refl

-- a router that begins the second itself has that row
abbrev pub own : Chosen
own = begun two (Origin 1)

pub of_a_router_that_begins_one : rows (row two (own ∷ []) ∷ []) ≡ row one (learnt ∷ []) ∷ row two (own ∷ []) ∷ []
of_a_router_that_begins_one = refl

pub found : map (chosen_in (rows [])) (two ∷ three ∷ []) ≡ (with_prefix two learnt ∷ []) ∷ [] ∷ []
found = refl
