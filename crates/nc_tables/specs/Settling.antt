-- The stable state of a network, computed over a bounded number of rounds.
use Rattle.std.specs.Prelude.{ℕ, zero, suc, Bool, true, false, ◌&&◌, ◌==◌, List, [], ◌∷◌, Option, Some, None, option_map, if◌then◌else◌}
use Rattle.std.specs.Str.{bytes_eq}
use Rattle.nc_types.specs.Config.{ConfigView}
use Rattle.nc_tables.specs.declared.base.BaseRow.{BaseRow}
use Rattle.nc_tables.specs.declared.bgp.SessionRow.{SessionRow}
use Rattle.nc_tables.specs.declared.bgp.Route.{Route}
use Rattle.nc_tables.specs.declared.bgp.Chosen.{Chosen}
use Rattle.nc_tables.specs.declared.bgp.BgpFrom.{BgpFrom}
use Rattle.nc_tables.specs.declared.bgp.BgpFrom.TheVariants.{Origin, Aggregate, Entry}
use Rattle.nc_tables.specs.Base.{same_prefix, base_tables}
use Rattle.nc_tables.specs.Sessions.{sessions}
use Rattle.nc_tables.specs.Choice.{class_of, origin_rank, internal_rank}
use Rattle.nc_tables.specs.Rounds.{BgpRowView, no_routes, round}
use Rattle.nc_tables.specs.State.{StateView, state_at}

-- ---- whether two tables are the same

-- lists are the same: item by item, by a test of two items
abbrev pub same_list : {A : Type 0} → (A → A → Bool) → List A → List A → Bool
same_list same [] [] = true
same_list same [] (y ∷ ys) = false
same_list same (x ∷ xs) [] = false
same_list same (x ∷ xs) (y ∷ ys) = same x y && same_list same xs ys

abbrev pub same_route : Route → Route → Bool
same_route a b =
    same_prefix a.prefix b.prefix && (bytes_eq a.path b.path && ((a.next_hop.0 == b.next_hop.0) && ((a.preference == b.preference)
    && ((a.metric == b.metric) && ((origin_rank a.origin == origin_rank b.origin) && bytes_eq a.communities b.communities)))))

abbrev pub place_of : BgpFrom → ℕ
place_of (Origin place) = place
place_of (Aggregate place) = place
place_of (Entry place) = place

abbrev pub same_from : BgpFrom → BgpFrom → Bool
same_from a b = (class_of a == class_of b) && (place_of a == place_of b)

abbrev pub same_candidate : Chosen → Chosen → Bool
same_candidate a b =
    same_route a.route b.route && (same_from a.from b.from && ((internal_rank a.internal == internal_rank b.internal)
    && ((a.sender_id.0 == b.sender_id.0) && (a.sender.0 == b.sender.0))))

abbrev pub same_row : BgpRowView → BgpRowView → Bool
same_row a b = same_prefix a.prefix b.prefix && same_list same_candidate a.chosen b.chosen

abbrev pub same_table : List (List BgpRowView) → List (List BgpRowView) → Bool
same_table a b = same_list (same_list same_row) a b

-- ---- rounds

module _ (routers : List ConfigView) (tables : List (List BaseRow)) (sessions : List (List SessionRow)) where
  -- from a table on, the first that a round leaves as it is, if it comes within so many rounds
  unfoldable pub settled_from : ℕ → List (List BgpRowView) → Option (List (List BgpRowView))
  settled_from zero table = None
  settled_from (suc rounds) table =
      let next = round routers tables sessions table in if same_table next table then Some table else settled_from rounds next

  -- the stable table that no more than so many rounds need
  abbrev pub settled_table : ℕ → Option (List (List BgpRowView))
  settled_table rounds = settled_from rounds (no_routes routers)

-- the stable state of routers that no more than so many rounds need
unfoldable pub settled : ℕ → List ConfigView → Option StateView
settled rounds routers = option_map (state_at routers) (settled_table routers (base_tables routers) (sessions routers (base_tables routers)) rounds)
