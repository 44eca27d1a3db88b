-- The owner of an address is one of the routers, and so is where a row leads.
use Rattle.std.proofs.Common.{◌≡◌, ℕ, suc, ◌+◌, ◌<◌, ◌≤◌, Bool, true, false, cond, not, ◌&&◌, nat_eq, List, [], ◌∷◌, length, Option, Some, None, option_and_then, position, refl, ap, ◌∙◌, arith}
use Rattle.std.specs.Option.{option_map_or}
use Rattle.nc_types.specs.Config.{ConfigView}
use Rattle.nc_types.specs.Network.{PlaceIn, has_address, owner_from, owner_of}
use Rattle.nc_tables.specs.declared.base.BaseRow.{BaseRow}
use Rattle.nc_tables.specs.Reach.{Exit, exit_of, is_linked, exit_leads, leads_to}

pub some_is : {A : Type 0} (x y : A) → Some x ≡ Some y → x ≡ y
some_is {A} x y e = ap (λ (o : Option A). option_map_or (λ v. v) o x) e

owner_from_within : (n : ℕ) (cs : List ConfigView) (addr : ℕ) (o : PlaceIn) → owner_from n cs addr ≡ Some o → (n ≤ o.router) × (o.router < n + length cs)
owner_from_within n [] addr o e = absurd cc
owner_from_within n (c ∷ cs) addr o e = by_place (position (has_address addr) c.interfaces) e (owner_from_within (n + 1) cs addr o)
  where
    by_place : (p : Option ℕ) → option_map_or {U = Option PlaceIn} (λ place. Some (record { router = n; place = place })) p (owner_from (n + 1) cs addr) ≡ Some o
        → (owner_from (n + 1) cs addr ≡ Some o → (n + 1 ≤ o.router) × (o.router < n + 1 + length cs)) → (n ≤ o.router) × (o.router < n + suc (length cs))
    by_place (Some place) e later = let is : n ≡ o.router = ap (λ (p : PlaceIn). p.router) (some_is (record { router = n; place = place }) o e) in (omega (arith, is), omega (arith, is))
    by_place None e later = let found = later e in (omega (arith, found.0), omega (arith, found.1))

pub owner_from_low : (n : ℕ) (cs : List ConfigView) (addr : ℕ) (o : PlaceIn) → owner_from n cs addr ≡ Some o → n ≤ o.router
owner_from_low n cs addr o e = (owner_from_within n cs addr o e).0

pub owner_within : (cs : List ConfigView) (addr : ℕ) (o : PlaceIn) → owner_of cs addr ≡ Some o → o.router < length cs
owner_within cs addr o e = let found = owner_from_within 0 cs addr o e in omega (arith, found.1)

went : (b : Bool) (other next : PlaceIn) → cond b (Some other) None ≡ Some next → Some other ≡ Some next
went true other next e = e
went false other next e = absurd cc

-- where a way out leads owns its address
pub leads_owner : (routers : List ConfigView) (router : ℕ) (exit : Exit) (next : PlaceIn) → exit_leads routers router exit ≡ Some next → owner_of routers exit.addr ≡ Some next
leads_owner routers router exit next e = on (owner_of routers exit.addr) refl e
  where
    on : (o : Option PlaceIn) → owner_of routers exit.addr ≡ o → option_and_then (λ (other : PlaceIn). cond (not (nat_eq other.router router) && is_linked routers router exit.iface other) (Some other) None) o ≡ Some next
        → owner_of routers exit.addr ≡ Some next
    on None is e = absurd cc
    on (Some other) is e = is ∙ went _ other next e

pub next_within : (routers : List ConfigView) (tables : List (List BaseRow)) (router addr place : ℕ) (next : PlaceIn) → leads_to routers tables router addr place ≡ Some next → next.router < length routers
next_within routers tables router addr place next e = on (exit_of routers tables router addr place) e
  where
    on : (o : Option Exit) → option_and_then (exit_leads routers router) o ≡ Some next → next.router < length routers
    on None e = absurd cc
    on (Some exit) e = owner_within routers exit.addr next (leads_owner routers router exit next e)
