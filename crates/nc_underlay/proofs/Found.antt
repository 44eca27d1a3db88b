-- What is found of an address tells how far base tables lead.
use Rattle.std.proofs.Common.{◌≡◌, ℕ, ◌≤◌, Bool, true, false, ◌||◌, nat_eq, List, [], length, map, sym, ap, ◌∙◌, arith}
use Rattle.std.specs.List.{list_any}
use Rattle.std.specs.Option.{option_map_or}
use Rattle.std.specs.Global.{Vec}
use Rattle.std.proofs.lemmas.List.{get_or_past, length-map}
use Rattle.nc_types.specs.declared.config.RouterId.{RouterId}
use Rattle.nc_types.specs.Config.{ConfigView}
use Rattle.nc_tables.specs.declared.base.BaseRow.{BaseRow}
use Rattle.nc_underlay.specs.declared.toward.Toward.{Toward}
use Rattle.nc_underlay.specs.Distances.{nexts, nexts_view, passes, within}
use Rattle.nc_underlay.specs.Toward.{IsToward}
use Rattle.nc_underlay.proofs.Nexts.{not_within}

module _ (routers : List ConfigView) (tables : List (List BaseRow)) (addr : ℕ) (toward : Toward) (is : IsToward routers tables addr toward) where
  -- by the routers to which a router's hits lead, where it isn't the owner
  pub by_nexts : (from : ℕ → Bool) (router : ℕ) → option_map_or (λ (o : RouterId). nat_eq o.0 router) toward.owner false ≡ false → list_any from (nexts routers tables addr router) ≡ passes routers tables addr from router
  by_nexts from router other = ap (λ (b : Bool). b || list_any from (nexts routers tables addr router)) (sym (sym (is.owner router) ∙ other))

  -- the owner
  pub by_owner : (from : ℕ → Bool) (router : ℕ) → option_map_or (λ (o : RouterId). nat_eq o.0 router) toward.owner false ≡ true → true ≡ passes routers tables addr from router
  by_owner from router own = sym (ap (λ (b : Bool). b || list_any from (nexts routers tables addr router)) (sym (is.owner router) ∙ own))

  -- a number that no router has
  pub beyond : (hops router : ℕ) → length toward.nexts.items ≤ router → within routers tables addr hops router ≡ false
  beyond hops router past =
      let size = length-map toward.nexts.items (λ (found : Vec RouterId). map (λ (next : RouterId). next.0) found.items) in
      not_within routers tables addr hops router (omega (arith, is.count, past)) (sym (is.nexts router) ∙ get_or_past (nexts_view toward.nexts.items) router [] (omega (arith, size, past)))
