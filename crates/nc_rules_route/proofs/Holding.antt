-- Facts from which others follow hold.
use Rattle.std.proofs.Common.{◌≡◌, ℕ, ◌<◌, ◌≤◌, true, List, length, All, Option, Some, sym, ap, subst, ◌∙◌, arith}
use Rattle.std.specs.List.{slice_get, position}
use Rattle.std.specs.Option.{option_and_then, is_some}
use Rattle.std.proofs.lemmas.Bool.{lt-ltb}
use Rattle.std.proofs.lemmas.List.Elements.{All-nil}
use Rattle.std.proofs.lemmas.Option.{option_and_then_some}
use Rattle.nc_types.specs.declared.addr.Addr.{Addr}
use Rattle.nc_types.specs.declared.config.RouterId.{RouterId}
use Rattle.nc_types.specs.declared.config.StaticRoute.{StaticRoute}
use Rattle.nc_types.specs.Config.{ConfigView}
use Rattle.nc_types.specs.Network.{up_of, has_address}
use Rattle.nc_tables.specs.declared.base.BaseRow.{BaseRow}
use Rattle.nc_tables.specs.declared.base.BaseFrom.{BaseFrom}
use Rattle.nc_tables.specs.declared.base.BaseFrom.TheVariants as row
use Rattle.nc_tables.specs.Base.{static_row, static_at}
use Rattle.nc_tables.specs.Reach.{own_place}
use Rattle.nc_tables.specs.State.{StateView, IsState}
use Rattle.nc_fact.specs.declared.fact.Fact.{Fact}
use Rattle.nc_fact.specs.declared.fact.Fact.TheVariants.{Connected, Static, Base}
use Rattle.nc_fact.specs.Facts.{base_rows, holds, rank}
use Rattle.nc_rules_route.specs.Parents.{element_in, connected_by, route_of}
use Rattle.nc_types.proofs.Members.{In}
use Rattle.nc_rules_route.proofs.Members.{all_of_one}
use Rattle.nc_types.proofs.Offsets.{number_within}
use Rattle.nc_rules_route.proofs.BaseRows.{IsUp, LeadsBy, IsMadeBy, connected, static, row_leads, row_is_made, found_up, address_up}
use Rattle.nc_rules_route.proofs.Tables.{router_of_row}

module _ (s : StateView) where
  pub element_holds : (router : ℕ) (c : ConfigView) (place : ℕ) → slice_get s.routers router ≡ Some c → place < length c.elements → holds s (element_in s router place) ≡ true
  unfolding holds
  element_holds router c place at lt = lt-ltb _ _ (number_within s.routers router place c at lt)

  pub connected_holds : (router : RouterId) (c : ConfigView) (place : ℕ) → slice_get s.routers router.0 ≡ Some c → IsUp c.interfaces place → holds s (Connected router (record { 0 = place })) ≡ true
  unfolding holds
  connected_holds router c place at up =
      ap (λ (o : Option ConfigView). is_some (option_and_then (λ c. option_and_then up_of (slice_get c.interfaces place)) o)) at ∙ ap (λ o. is_some (option_and_then up_of o)) up.at ∙ up.up

  pub static_is : (router : ℕ) (c : ConfigView) (place : ℕ) (route : StaticRoute) (row : BaseRow) → slice_get s.routers router ≡ Some c → slice_get c.statics place ≡ Some route → static_row c.interfaces place route ≡ Some row → static_at s.routers router place ≡ Some row
  static_is router c place route row at at_route made =
      ap (λ (o : Option ConfigView). option_and_then (λ c. option_and_then (λ r. static_row c.interfaces place r) (slice_get c.statics place)) o) at
      ∙ ap (λ (o : Option StaticRoute). option_and_then (λ r. static_row c.interfaces place r) o) at_route ∙ made

  pub static_holds : (router : RouterId) (place : ℕ) (row : BaseRow) → static_at s.routers router.0 place ≡ Some row → holds s (Static router place) ≡ true
  unfolding holds
  static_holds router place row at = ap is_some at

  pub base_holds : (router : RouterId) (place : ℕ) → place < length (base_rows s router.0) → holds s (Base router place) ≡ true
  unfolding holds
  base_holds router place lt = lt-ltb place (length (base_rows s router.0)) lt

  -- a fact that holds and has a lower rank
  abbrev pub IsBelow : ℕ → Fact → Type 0
  IsBelow most p = (holds s p ≡ true) × (rank s p < most)

  -- the router's own interface that has an address
  pub own_below : (router : RouterId) (addr : Addr) (iface : ℕ) → own_place s.routers router.0 addr.0 ≡ Some iface → IsBelow 2 (Connected router (record { 0 = iface }))
  unfolding rank
  own_below router addr iface found =
      option_and_then_some (λ (c : ConfigView). position (has_address addr.0) c.interfaces) (slice_get s.routers router.0) iface found (λ c at is_own.
      (connected_holds router c iface at (found_up (has_address addr.0) (address_up addr.0) c.interfaces iface is_own), omega arith))

  -- it stays below what is above that rank
  pub all_higher : (low high : ℕ) → low ≤ high → (ps : List Fact) → All (IsBelow low) ps → All (IsBelow high) ps
  all_higher low high le ps each k d lt = let here = each k d lt in (here.0, (let less : rank s _ < low = here.1 in omega arith))

  -- the interface through which a static route leads
  pub connected_below : (router : RouterId) (c : ConfigView) (place : ℕ) (from : BaseFrom) → slice_get s.routers router.0 ≡ Some c → LeadsBy c.interfaces place from → All (IsBelow 2) (connected_by router from)
  unfolding rank
  connected_below router c place (row.Connected iface) at leads = absurd leads
  connected_below router c place (row.Static k iface) at leads = all_of_one (IsBelow 2) (Connected router iface) (connected_holds router c iface.0 at leads.1, omega arith)
  connected_below router c place (row.Null k) at leads = All-nil (IsBelow 2)

  static_route_below : (router : RouterId) (c : ConfigView) (place : ℕ) (from : BaseFrom) → holds s (Static router place) ≡ true → LeadsBy c.interfaces place from → IsBelow 3 (route_of router from)
  unfolding rank
  static_route_below router c place (row.Connected iface) holding leads = absurd leads
  static_route_below router c place (row.Static k iface) holding leads = (subst (λ (n : ℕ). holds s (Static router n) ≡ true) (sym leads.0) holding, omega arith)
  static_route_below router c place (row.Null k) holding leads = (subst (λ (n : ℕ). holds s (Static router n) ≡ true) (sym leads) holding, omega arith)

  -- the route that a base row is of
  pub route_below : IsState s → (router : RouterId) (row : BaseRow) → In row (base_rows s router.0) → IsBelow 3 (route_of router row.from)
  unfolding rank
  route_below is router row i = let r = router_of_row s is router.0 row i in by_made r.0 r.1 row (row_is_made r.0 row r.2)
    where
      by_made : (c : ConfigView) → slice_get s.routers router.0 ≡ Some c → (r : BaseRow) → IsMadeBy c r → IsBelow 3 (route_of router r.from)
      by_made c at _ (connected r place up from) = subst (λ (f : BaseFrom). IsBelow 3 (route_of router f)) (sym from) (connected_holds router c place at up, omega arith)
      by_made c at _ (static r place route at_route made) =
          static_route_below router c place r.from (static_holds router place r (static_is router.0 c place route r at at_route made)) (row_leads c.interfaces place route r made)
