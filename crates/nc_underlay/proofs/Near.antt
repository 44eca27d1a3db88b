-- The owner of an address reaches it, and so does a router whose hit leads to the owner.
use Rattle.std.proofs.Common.{◌≡◌, ℕ, ◌-◌, ◌<◌, true, false, nat_eq, List, map, Option, Some, ap, subst, ◌∙◌, arith}
use Rattle.std.specs.List.{range_with_len}
use Rattle.std.specs.Option.{option_map_or}
use Rattle.std.proofs.lemmas.Bool.{eq-eqb}
use Rattle.nc_types.specs.Config.{ConfigView}
use Rattle.nc_types.specs.Joining.{IsValid}
use Rattle.nc_types.specs.Network.{PlaceIn, owner_of}
use Rattle.nc_tables.specs.declared.base.BaseRow.{BaseRow}
use Rattle.nc_tables.specs.Longest.{longest}
use Rattle.nc_tables.specs.Reach.{rows_of, leads_to, owns, reaches}
use Rattle.nc_underlay.specs.Levels.{leads_there, is_next}
use Rattle.nc_underlay.proofs.Flagging.{any_in}
use Rattle.nc_underlay.proofs.Hits.{next_by_rows}
use Rattle.nc_underlay.proofs.Owners.{owned_by}
use Rattle.nc_underlay.proofs.Steps.{by_owner, by_next}

module _ (routers : List ConfigView) (valid : IsValid routers) (tables : List (List BaseRow)) (addr hops router : ℕ) (owner : PlaceIn) (is : owner_of routers addr ≡ Some owner) where
  owns_it : (r : ℕ) → owner.router ≡ r → owns routers r addr ≡ true
  owns_it r same = owned_by routers valid addr (Some owner) r is ∙ eq-eqb owner.router r same

  pub owner_reaches : owner.router ≡ router → reaches routers tables hops router addr ≡ true
  owner_reaches same = by_owner routers tables addr hops router (owns_it router same)

  pub near_reaches : (from to : ℕ) (next : PlaceIn) → longest (map (λ row. row.prefix) (rows_of tables router)) addr ≡ range_with_len from (to - from) → from < to → 0 < hops
      → leads_to routers tables router addr from ≡ Some next → next.router ≡ owner.router → reaches routers tables hops router addr ≡ true
  near_reaches from to next rows some hop leads same =
      let led : leads_there routers tables router addr owner.router from ≡ true = ap (λ (o : Option PlaceIn). option_map_or (λ (n : PlaceIn). nat_eq n.router owner.router) o false) leads ∙ eq-eqb next.router owner.router same in
      let there : is_next routers tables router addr owner.router ≡ true = next_by_rows routers tables router addr owner.router from (to - from) rows ∙ any_in (leads_there routers tables router addr owner.router) from (to - from) from (omega arith) (omega arith) led in
      subst (λ (n : ℕ). reaches routers tables n router addr ≡ true) (omega arith) (by_next routers tables addr (hops - 1) router owner.router there (by_owner routers tables addr (hops - 1) owner.router (owns_it owner.router (omega arith))))
