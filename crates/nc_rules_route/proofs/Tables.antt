-- The tables of a state by router.
use Rattle.std.proofs.Common.{◌≡◌, ℕ, ◌+◌, ◌<◌, List, [], length, map, Option, Some, None, refl, sym, ap, subst, ◌∙◌, arith}
use Rattle.std.specs.List.{range_with_len, slice_get, slice_index_or}
use Rattle.std.specs.Option.{option_map, unwrap_or}
use Rattle.std.proofs.lemmas.Option.{slice_get-map, get_or_from_slice_get, unwrap_or-slice_get}
use Rattle.nc_types.specs.Config.{ConfigView}
use Rattle.nc_tables.specs.declared.base.BaseRow.{BaseRow}
use Rattle.nc_tables.specs.declared.bgp.MainRow.{MainRow}
use Rattle.nc_tables.specs.Base.{base_table, base_tables}
use Rattle.nc_tables.specs.Main.{main_table}
use Rattle.nc_tables.specs.State.{StateView, state_at, IsState}
use Rattle.nc_tables.specs.CaseRelations.{state_base}
use Rattle.nc_fact.specs.Facts.{base_rows, main_rows}
use Rattle.nc_types.proofs.Members.{In}
use Rattle.nc_rules_route.proofs.Members.{get_by_range, in_by_router}
use Rattle.nc_rules_route.proofs.MainRows.{IsOf, main_sound}

module _ (s : StateView) (is : IsState s) where
  pub base_rows_at : (router : ℕ) (c : ConfigView) → slice_get s.routers router ≡ Some c → base_rows s router ≡ base_table c
  base_rows_at router c at = ap (λ (t : List (List BaseRow)). slice_index_or t router []) (state_base s is) ∙ get_or_from_slice_get (map base_table s.routers) router (base_table c) [] (slice_get-map base_table s.routers router ∙ ap (option_map base_table) at)

  pub base_rows_none : (router : ℕ) → slice_get s.routers router ≡ None → base_rows s router ≡ []
  base_rows_none router none =
      ap (λ (t : List (List BaseRow)). slice_index_or t router []) (state_base s is) ∙ sym (unwrap_or-slice_get (map base_table s.routers) router [])
      ∙ ap (λ (o : Option (List BaseRow)). unwrap_or o []) (slice_get-map base_table s.routers router ∙ ap (option_map base_table) none)

  -- a router that has a base row is one of the network
  pub router_of_row : (router : ℕ) (row : BaseRow) → In row (base_rows s router) → (c : ConfigView) × (slice_get s.routers router ≡ Some c) × (In row (base_table c))
  router_of_row router row i = by_router (slice_get s.routers router) refl
    where
      by_router : (o : Option ConfigView) → slice_get s.routers router ≡ o → (c : ConfigView) × (slice_get s.routers router ≡ Some c) × (In row (base_table c))
      by_router None at = absurd (subst (In row) (base_rows_none router at) i)
      by_router (Some c) at = (c, at, subst (In row) (base_rows_at router c at) i)

  -- the main table of a router is as it is defined
  abbrev Mains : ℕ → List MainRow
  Mains router = main_table s.routers (base_tables s.routers) s.bgp router

  main_is : s.main ≡ map Mains (range_with_len 0 (length s.routers))
  unfolding state_at
  main_is = ap (λ (t : StateView). t.main) is.tables

  -- so are the main rows of a router of the network
  pub main_rows_are : (router : ℕ) → router < length s.routers → main_rows s router ≡ main_table s.routers s.base s.bgp router
  main_rows_are router lt =
      let here : 0 + router ≡ router = omega arith in
      ap (λ (t : List (List MainRow)). slice_index_or t router []) main_is
      ∙ get_or_from_slice_get (map Mains (range_with_len 0 (length s.routers))) router (Mains (0 + router)) [] (get_by_range Mains 0 (length s.routers) router lt) ∙ ap Mains here
      ∙ ap (λ (t : List (List BaseRow)). main_table s.routers t s.bgp router) (sym (state_base s is))

  in_main : (router : ℕ) (m : MainRow) → In m (main_rows s router) → In m (Mains router)
  in_main router m i = in_by_router Mains (length s.routers) router m (subst (λ (t : List (List MainRow)). In m (slice_index_or t router [])) main_is i)

  -- what a main row is of exists
  pub main_is_of : (router : ℕ) (m : MainRow) → In m (main_rows s router) → IsOf s.routers s.base s.bgp router m.prefix m.from
  main_is_of router m i =
      subst (λ (t : List (List BaseRow)). IsOf s.routers t s.bgp router m.prefix m.from) (sym (state_base s is)) (main_sound s.routers (base_tables s.routers) s.bgp router m (in_main router m i))
