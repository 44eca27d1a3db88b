-- The table of the owners of addresses.
use Rattle.std.proofs.Common.{◌≡◌, ℕ, ◌+◌, Bool, true, false, cond, List, [], ◌∷◌, map, Option, Some, None, refl, sym, ap, subst, ◌∙◌, arith, nat_eq}
use Rattle.std.specs.List.{position_from}
use Rattle.std.specs.Option.{option_map, option_map_or, option_or}
use Rattle.std.specs.Ordering.{nat_cmp, is_eq}
use Rattle.std.proofs.lemmas.Bool.{eqb-true}
use Rattle.std.proofs.lemmas.Bool.Decides.{nat_tests}
use Rattle.std.proofs.lemmas.Iterator.Adapters.{position_from-zero}
use Rattle.nc_types.specs.declared.config.Interface.{Interface}
use Rattle.nc_types.specs.declared.config.RouterConfig.{RouterConfig}
use Rattle.nc_types.specs.declared.network.addresses.IfacePlace.{IfacePlace}
use Rattle.nc_types.specs.Config.{config_view}
use Rattle.nc_types.specs.Network.{PlaceIn, has_address, owner_from}
use Rattle.nc_types.specs.Tables.{place_in, iface_from}
use Rattle.nc_types.proofs.Options.{or_none}

-- the owner among these routers, the first of them having this number
abbrev pub ifaces_from : ℕ → List RouterConfig → ℕ → Option IfacePlace
ifaces_from router [] addr = None
ifaces_from router (c ∷ cs) addr = option_or (iface_from router 0 c.interfaces.items addr) (ifaces_from (router + 1) cs addr)

-- the first interface is asked first
pub iface_first : (router place : ℕ) (i : Interface) (is : List Interface) (addr : ℕ)
    → iface_from router place (i ∷ is) addr ≡ option_or (cond (has_address addr i) (Some (record { router = record { 0 = router }; iface = record { 0 = place } })) None) (iface_from router (place + 1) is addr)
iface_first router place i is addr = by_test (has_address addr i)
  where
    by_test : (b : Bool) → option_map {U = IfacePlace} (λ k. record { router = record { 0 = router }; iface = record { 0 = k } }) (cond b (Some place) (position_from (has_address addr) (place + 1) is))
        ≡ option_or (cond b (Some (record { router = record { 0 = router }; iface = record { 0 = place } })) None) (iface_from router (place + 1) is addr)
    by_test true = refl
    by_test false = refl

-- the owners that are found router by router are those of the network
pub owners_are : (router : ℕ) (cs : List RouterConfig) (addr : ℕ) → option_map place_in (ifaces_from router cs addr) ≡ owner_from router (map config_view cs) addr
owners_are router [] addr = refl
owners_are router (c ∷ cs) addr =
    by_place (position_from (has_address addr) 0 c.interfaces.items) (owners_are (router + 1) cs addr)
    ∙ ap (λ (o : Option ℕ). option_map_or (λ place. Some (record { router = router; place = place })) o (owner_from (router + 1) (map config_view cs) addr)) (sym (position_from-zero (has_address addr) c.interfaces.items))
  where
    by_place : (o : Option ℕ) → option_map place_in (ifaces_from (router + 1) cs addr) ≡ owner_from (router + 1) (map config_view cs) addr
        → option_map place_in (option_or (option_map {U = IfacePlace} (λ k. record { router = record { 0 = router }; iface = record { 0 = k } }) o) (ifaces_from (router + 1) cs addr))
        ≡ option_map_or {U = Option PlaceIn} (λ place. Some (record { router = router; place = place })) o (owner_from (router + 1) (map config_view cs) addr)
    by_place None rest = rest
    by_place (Some k) rest = refl

eq_by_cmp : (a b : ℕ) → is_eq (nat_cmp a b) ≡ nat_eq a b
eq_by_cmp a b = grind (arith, nat_tests)

-- an address that no interface had gets one
pub claimed_address : {T : Type 0} (f : ℕ → Option T) (key addr : ℕ) (owner : T) → f key ≡ None → cond (is_eq (nat_cmp key addr)) (Some owner) (f addr) ≡ option_or (f addr) (cond (nat_eq key addr) (Some owner) None)
claimed_address {T} f key addr owner none = ap (λ (b : Bool). cond b (Some owner) (f addr)) (eq_by_cmp key addr) ∙ by_test (nat_eq key addr) refl
  where
    by_test : (b : Bool) → nat_eq key addr ≡ b → cond b (Some owner) (f addr) ≡ option_or (f addr) (cond b (Some owner) None)
    by_test true e = let here : f addr ≡ None = subst (λ (k : ℕ). f k ≡ None) (eqb-true key addr e) none in ap (λ (o : Option T). option_or o (Some owner)) (sym here)
    by_test false e = sym (or_none (f addr))
