-- What a neighbor says of a prefix leaves what is chosen as it is.
use Rattle.std.specs.Prelude.{◌≡◌, ◌⊎◌, ℕ, ◌≤◌, Bool, true, false, not, ◌&&◌, ◌||◌, ◌==◌, List, [], ◌∷◌, length, Option, Some, None, if◌then◌else◌}
use Rattle.std.specs.List.{list_any}
use Rattle.std.specs.Option.{option_map_or}
use Rattle.std.specs.Ordering.{is_gt, is_lt}
use Rattle.nc_types.specs.Cidr.{Cidr}
use Rattle.nc_types.specs.Config.{ConfigView, ProcessView}
use Rattle.nc_tables.specs.declared.base.BaseRow.{BaseRow}
use Rattle.nc_tables.specs.declared.bgp.SessionRow.{SessionRow}
use Rattle.nc_tables.specs.declared.bgp.Chosen.{Chosen}
use Rattle.nc_tables.specs.declared.bgp.BgpFrom.{BgpFrom}
use Rattle.nc_tables.specs.declared.bgp.BgpFrom.TheVariants.{Origin, Aggregate, Entry}
use Rattle.nc_tables.specs.Choice.{is_equal_to, is_learnt, preference_cmp}
use Rattle.nc_tables.specs.Rounds.{BgpRowView, Link, chosen_at, entry_at}
use Rattle.nc_tables.specs.Order.{in_order}
use Rattle.nc_tables.specs.Sessions.{first_of, process_of}
use Rattle.nc_decision.specs.SessionMaps.{highest_from_outside}

-- a candidate was learnt by the neighbor statement at a place
abbrev pub is_from : ℕ → BgpFrom → Bool
is_from place (Origin number) = false
is_from place (Aggregate number) = false
is_from place (Entry number) = number == place

-- the best beats another candidate: it is preferred, and the other isn't used beside it
abbrev pub is_beaten : ProcessView → Chosen → Chosen → Bool
is_beaten p best x = is_lt (preference_cmp best x) && ((p.max_paths == 1) || not (is_equal_to p.relax best x))

-- something is chosen, nothing of it comes from the neighbor, and the neighbor says nothing now, or what the best beats
abbrev pub leaves_best_beside : ProcessView → ℕ → Option Chosen → List Chosen → Bool
leaves_best_beside p place entry [] = false
leaves_best_beside p place entry (best ∷ others) =
    not (list_any (λ x. is_from place x.from) (best ∷ others)) && option_map_or (is_beaten p best) entry true

module _ (routers : List ConfigView) (tables : List (List BaseRow)) (sessions : List (List SessionRow)) (table : List (List BgpRowView)) where
  -- what a router learns now by a neighbor statement leaves its choice of a prefix as it stands
  unfoldable pub leaves_best_path : ℕ → ℕ → Cidr → Bool
  leaves_best_path router place prefix =
      option_map_or (λ p. leaves_best_beside p place (entry_at routers tables sessions table router place prefix) (chosen_at table router prefix)) (process_of routers router) false

-- whatever the maps on its way, what is learnt of a peer's candidate is beaten by the best that stands: it comes from another system, its path
-- gets longer, and the best that stands was begun, or has a preference above which nothing is accepted over the session
pub record IsOutranked (best : Chosen) (k : Link) (sent : Chosen) : Type 0 where
  pub outside : k.session.internal ≡ false
  pub path : length best.route.path ≤ length sent.route.path
  pub preference : (is_learnt best.from ≡ false) ⊎ (highest_from_outside k ≤ best.route.preference)

-- the best of some candidates
abbrev pub best_among : List Chosen → Option Chosen
best_among candidates = first_of (in_order preference_cmp candidates)

-- a candidate or the best of those behind it: of equal ones the first
abbrev pub better_of : Chosen → Option Chosen → Chosen
better_of x None = x
better_of x (Some best) = if is_gt (preference_cmp x best) then best else x

-- the best so far stays: there is nothing beside it, or it is preferred
abbrev pub stays_beside : Option Chosen → Option Chosen → Bool
stays_beside None best = true
stays_beside (Some x) best = option_map_or (λ b. is_gt (preference_cmp x b)) best false

-- the best, where there may be one more candidate before the others
abbrev pub best_with : Option Chosen → Option Chosen → Option Chosen
best_with None best = best
best_with (Some x) best = Some (better_of x best)

-- or a list of them
abbrev pub best_from : List Chosen → Option Chosen → Option Chosen
best_from [] best = best
best_from (x ∷ xs) best = Some (better_of x (best_from xs best))
