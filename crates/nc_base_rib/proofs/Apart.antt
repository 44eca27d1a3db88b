-- In a valid network no two interfaces of a router that are up overlap.
use Rattle.std.proofs.Common.{◌≡◌, ℕ, zero, suc, ◌+◌, ◌<◌, Bool, true, cond, List, [], ◌∷◌, ◌++◌, length, map, get_or, All, Option, Some, None, refl, sym, ap, subst, ◌∙◌, arith}
use Rattle.std.specs.List.{filter_map, flat_map, cons_option}
use Rattle.std.specs.Option.{option_map}
use Rattle.std.proofs.lemmas.List.{get_or-map, length-map}
use Rattle.nc_types.specs.declared.config.IfaceAddr.{IfaceAddr}
use Rattle.nc_types.specs.declared.config.Interface.{Interface}
use Rattle.nc_types.specs.declared.config.RouterConfig.{RouterConfig}
use Rattle.nc_types.specs.Config.{ConfigView, config_view}
use Rattle.nc_types.specs.Network.{up_of}
use Rattle.nc_types.specs.Joining.{Used, IsValid, clash_of, numbered_from, overlap, overlapping, used_by, with_later}
use Rattle.nc_base_rib.specs.Links.{up_in, AreApart, HasOwnPrefix}
use Rattle.nc_base_rib.proofs.Overlapping.{overlap_turned}

both_none : {X : Type 0} (xs ys : List X) → xs ++ ys ≡ [] → (xs ≡ []) × (ys ≡ [])
both_none [] ys e = (refl, e)
both_none (x ∷ xs) ys e = absurd (cc)

module _ (router : ℕ) where
  abbrev used_of : Interface → Option Used
  used_of i = option_map (λ a. record { router = router; line = i.address_line; address = a }) (up_of i)

  -- an address that overlaps none of these
  abbrev Avoids : IfaceAddr → List Interface → Type 0
  Avoids a is = (k : ℕ) (b : IfaceAddr) → up_in is k ≡ Some b → overlap a.prefix b.prefix ≡ true → ⊥

  avoids : (x : Used) (is : List Interface) → flat_map (overlapping x) (filter_map used_of is) ≡ [] → Avoids x.address is
  avoids x [] none k b up e = absurd (cc)
  avoids x (i ∷ is) none k b up e = by_up (up_of i) refl (λ later. avoids x is later) none k up
    where
      by_up : (o : Option IfaceAddr) → up_of i ≡ o → (flat_map (overlapping x) (filter_map used_of is) ≡ [] → Avoids x.address is)
          → flat_map (overlapping x) (cons_option (option_map (λ a. record { router = router; line = i.address_line; address = a }) o) (filter_map used_of is)) ≡ []
          → (k : ℕ) → up_in (i ∷ is) k ≡ Some b → ⊥
      by_up None is_up rest none zero up = absurd (cc)
      by_up None is_up rest none (suc k) up = rest none k b up e
      by_up (Some a) is_up rest none (suc k) up = rest (both_none (overlapping x (record { router = router; line = i.address_line; address = a })) (flat_map (overlapping x) (filter_map used_of is)) none).1 k b up e
      by_up (Some a) is_up rest none zero up =
          let y : Used = record { router = router; line = i.address_line; address = a } in
          let first : overlapping x y ≡ [] = (both_none (overlapping x y) (flat_map (overlapping x) (filter_map used_of is)) none).0 in
          let same : Some a ≡ Some b = sym is_up ∙ up in
          let value : b ≡ a = cc in
          let over : overlap x.address.prefix a.prefix ≡ true = ap (λ (z : IfaceAddr). overlap x.address.prefix z.prefix) (sym value) ∙ e in
          let some : clash_of x y ∷ [] ≡ [] = sym (ap (λ (t : Bool). cond t (clash_of x y ∷ []) []) over) ∙ first in
          absurd (cc)

  pub apart_by_none : (is : List Interface) → with_later overlapping (filter_map used_of is) ≡ [] → AreApart is
  apart_by_none [] none j k a b up up_other e = absurd (cc)
  apart_by_none (i ∷ is) none j k a b up up_other e = by_up (up_of i) refl (λ later. apart_by_none is later) none j k a b up up_other e
    where
      by_up : (o : Option IfaceAddr) → up_of i ≡ o → (with_later overlapping (filter_map used_of is) ≡ [] → AreApart is)
          → with_later overlapping (cons_option (option_map (λ a. record { router = router; line = i.address_line; address = a }) o) (filter_map used_of is)) ≡ [] → AreApart (i ∷ is)
      by_up o is_up rest none zero zero a b up up_other e = refl
      by_up None is_up rest none (suc j) (suc k) a b up up_other e = ap (λ (n : ℕ). suc n) (rest none j k a b up up_other e)
      by_up None is_up rest none zero (suc k) a b up up_other e = absurd (cc)
      by_up None is_up rest none (suc j) zero a b up up_other e = absurd (cc)
      by_up (Some c) is_up rest none (suc j) (suc k) a b up up_other e =
          let x : Used = record { router = router; line = i.address_line; address = c } in
          ap (λ (n : ℕ). suc n) (rest (both_none (flat_map (overlapping x) (filter_map used_of is)) (with_later overlapping (filter_map used_of is)) none).1 j k a b up up_other e)
      by_up (Some c) is_up rest none zero (suc k) a b up up_other e =
          let x : Used = record { router = router; line = i.address_line; address = c } in
          let same : Some c ≡ Some a = sym is_up ∙ up in
          let value : a ≡ c = cc in
          absurd
          (avoids x is (both_none (flat_map (overlapping x) (filter_map used_of is)) (with_later overlapping (filter_map used_of is)) none).0 k b up_other
          (ap (λ (z : IfaceAddr). overlap z.prefix b.prefix) (sym value) ∙ e))
      by_up (Some c) is_up rest none (suc j) zero a b up up_other e =
          let x : Used = record { router = router; line = i.address_line; address = c } in
          let same : Some c ≡ Some b = sym is_up ∙ up_other in
          let value : b ≡ c = cc in
          absurd
          (avoids x is (both_none (flat_map (overlapping x) (filter_map used_of is)) (with_later overlapping (filter_map used_of is)) none).0 j a up
          (ap (λ (z : IfaceAddr). overlap z.prefix a.prefix) (sym value) ∙ overlap_turned a.prefix b.prefix e))

-- the same for the router at a place
router_apart : (first : ℕ) (cs : List ConfigView) → flat_map (λ n. with_later overlapping (used_by n)) (numbered_from first cs) ≡ [] → (k : ℕ) (d : ConfigView) → k < length cs → AreApart (get_or cs k d).interfaces
router_apart first [] none k d lt = absurd (omega arith)
router_apart first (c ∷ cs) none zero d lt =
    apart_by_none first c.interfaces
    (both_none (with_later overlapping (used_by (record { router = first; config = c }))) (flat_map (λ n. with_later overlapping (used_by n)) (numbered_from (first + 1) cs)) none).0
router_apart first (c ∷ cs) none (suc k) d lt =
    router_apart (first + 1) cs
    (both_none (with_later overlapping (used_by (record { router = first; config = c }))) (flat_map (λ n. with_later overlapping (used_by n)) (numbered_from (first + 1) cs)) none).1 k d
    (omega arith)

module _ (routers : List RouterConfig) (valid : IsValid (map config_view routers)) (k : ℕ) (d : RouterConfig) (lt : k < length routers) where
  within : k < length (map config_view routers)
  within = omega (arith, length-map routers config_view)

  here : get_or (map config_view routers) k (config_view d) ≡ config_view (get_or routers k d)
  here = get_or-map config_view routers k d (config_view d) lt

  pub apart_at : AreApart (get_or routers k d).interfaces.items
  apart_at = subst (λ (c : ConfigView). AreApart c.interfaces) here (router_apart 0 (map config_view routers) valid.prefixes k (config_view d) within)

  pub covered_at : All HasOwnPrefix (get_or routers k d).interfaces.items
  covered_at = subst (λ (c : ConfigView). All HasOwnPrefix c.interfaces) here (valid.each k (config_view d) within).covered
