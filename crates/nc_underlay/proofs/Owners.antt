-- The owner of an address is the one router that has it, in a network that is valid.
use Rattle.std.proofs.Common.{◌≡◌, ℕ, zero, suc, ◌+◌, ◌<◌, ◌≤◌, Bool, true, false, cond, ◌||◌, nat_eq, List, [], ◌∷◌, ◌++◌, Option, Some, None, position, slice_get, refl, sym, ap, ◌∙◌, arith}
use Rattle.std.specs.List.{list_any, filter_map, flat_map, cons_option}
use Rattle.std.specs.Prelude.{option_and_then}
use Rattle.std.specs.Option.{option_map, option_map_or, is_some}
use Rattle.std.proofs.lemmas.Bool.{eqb-true, eq-eqb}
use Rattle.std.proofs.lemmas.Bool.Decides.{nat_tests}
use Rattle.nc_types.proofs.Lookups.{is_placed}
use Rattle.nc_types.specs.declared.config.Interface.{Interface}
use Rattle.nc_types.specs.declared.config.IfaceAddr.{IfaceAddr}
use Rattle.nc_types.specs.Config.{ConfigView}
use Rattle.nc_types.specs.Network.{PlaceIn, up_of, has_address, owner_from, owner_of}
use Rattle.nc_types.specs.Joining.{Clash, Numbered, Used, numbered_from, with_later, used_by, same_address, IsValid}
use Rattle.nc_tables.specs.Reach.{own_place, owns}
use Rattle.nc_tables.proofs.Owner.{owner_from_low}
use Rattle.nc_underlay.specs.Levels.{flag, any_flagged}
use Rattle.nc_types.proofs.Truth.{same_truth}
use Rattle.nc_underlay.proofs.Flagging.{not_true, not_left, flagged_in, flagged_out}

-- ---- one address, one router

module _ (addr : ℕ) where
  abbrev has : Used → Bool
  has u = nat_eq u.address.addr.0 addr

  abbrev owns_at : List ConfigView → ℕ → Bool
  owns_at cs router = option_map_or (λ c. list_any (has_address addr) c.interfaces) (slice_get cs router) false

  empty_left : {A : Type 0} (xs ys : List A) → xs ++ ys ≡ [] → xs ≡ []
  empty_left [] ys e = refl
  empty_left (x ∷ xs) ys e = absurd cc

  empty_right : {A : Type 0} (xs ys : List A) → xs ++ ys ≡ [] → ys ≡ []
  empty_right [] ys e = e
  empty_right (x ∷ xs) ys e = absurd cc

  any_used : (n : ℕ) (is : List Interface) → list_any has (filter_map (λ i. option_map (λ a. record { router = n; line = i.address_line; address = a }) (up_of i)) is) ≡ list_any (has_address addr) is
  any_used n [] = refl
  any_used n (i ∷ is) = by_up (up_of i) (any_used n is)
    where
      by_up : (o : Option IfaceAddr) → list_any has (filter_map (λ (j : Interface). option_map {U = Used} (λ (a : IfaceAddr). record { router = n; line = j.address_line; address = a }) (up_of j)) is) ≡ list_any (has_address addr) is
          → list_any has (cons_option (option_map {U = Used} (λ (a : IfaceAddr). record { router = n; line = i.address_line; address = a }) o) (filter_map (λ (j : Interface). option_map {U = Used} (λ (a : IfaceAddr). record { router = n; line = j.address_line; address = a }) (up_of j)) is))
          ≡ (option_map_or (λ (a : IfaceAddr). nat_eq a.addr.0 addr) o false || list_any (has_address addr) is)
      by_up None e = e
      by_up (Some a) e = ap (λ b. nat_eq a.addr.0 addr || b) e

  -- an address that has the number, and none with it is the same
  none_same : (x : Used) (us : List Used) → has x ≡ true → flat_map (same_address x) us ≡ [] → list_any has us ≡ true → ⊥
  none_same x [] is none any = absurd cc
  none_same x (u ∷ us) is none any =
      none_same x us is (empty_right (same_address x u) (flat_map (same_address x) us) none) (not_left (has u) (list_any has us) any (other (has u) refl))
    where
      apart : (b : Bool) (clash : Clash) → cond b (clash ∷ []) [] ≡ [] → b ≡ false
      apart true clash e = absurd cc
      apart false clash e = refl

      other : (b : Bool) → has u ≡ b → b ≡ false
      other false e = refl
      other true e =
          let mine : x.address.addr.0 ≡ addr = eqb-true x.address.addr.0 addr is in
          let its : u.address.addr.0 ≡ addr = eqb-true u.address.addr.0 addr e in
          let same : nat_eq x.address.addr.0 u.address.addr.0 ≡ true = eq-eqb x.address.addr.0 u.address.addr.0 (mine ∙ sym its) in
          let differ : nat_eq x.address.addr.0 u.address.addr.0 ≡ false = apart (nat_eq x.address.addr.0 u.address.addr.0) _ (empty_left (same_address x u) (flat_map (same_address x) us) none) in
          absurd cc

  none_shared : (xs us : List Used) → flat_map (λ x. flat_map (same_address x) us) xs ≡ [] → list_any has xs ≡ true → list_any has us ≡ true → ⊥
  none_shared [] us none mine its = absurd cc
  none_shared (x ∷ xs) us none mine its =
      by_first (has x) refl (none_shared xs us (empty_right (flat_map (same_address x) us) (flat_map (λ y. flat_map (same_address y) us) xs) none))
    where
      by_first : (b : Bool) → has x ≡ b → (list_any has xs ≡ true → list_any has us ≡ true → ⊥) → ⊥
      by_first true e later = none_same x us e (empty_left (flat_map (same_address x) us) (flat_map (λ y. flat_map (same_address y) us) xs) none) its
      by_first false e later = later (not_left (has x) (list_any has xs) mine e) its

  abbrev shared : Numbered → Numbered → List Clash
  shared a b = flat_map (λ x. flat_map (same_address x) (used_by b)) (used_by a)

  later_free : (n m : ℕ) (c : ConfigView) (cs : List ConfigView) (r : ℕ) → list_any (has_address addr) c.interfaces ≡ true → flat_map (shared (record { router = n; config = c })) (numbered_from m cs) ≡ [] → owns_at cs r ≡ true → ⊥
  later_free n m c [] r mine none its = absurd cc
  later_free n m c (d ∷ cs) zero mine none its =
      none_shared (used_by (record { router = n; config = c })) (used_by (record { router = m; config = d }))
      (empty_left (shared (record { router = n; config = c }) (record { router = m; config = d })) (flat_map (shared (record { router = n; config = c })) (numbered_from (m + 1) cs)) none)
      (any_used n c.interfaces ∙ mine) (any_used m d.interfaces ∙ its)
  later_free n m c (d ∷ cs) (suc r) mine none its =
      later_free n (m + 1) c cs r mine (empty_right (shared (record { router = n; config = c }) (record { router = m; config = d })) (flat_map (shared (record { router = n; config = c })) (numbered_from (m + 1) cs)) none) its

  -- a router has the address exactly where it is the owner
  owned_from : (n : ℕ) (cs : List ConfigView) (r : ℕ) → with_later shared (numbered_from n cs) ≡ [] → owns_at cs r ≡ option_map_or (λ o. nat_eq o.router (n + r)) (owner_from n cs addr) false
  owned_from n [] r none = refl
  owned_from n (c ∷ cs) zero none = by_place (position (has_address addr) c.interfaces) (owner_from (n + 1) cs addr) (is_placed (has_address addr) c.interfaces) (λ o e. owner_from_low (n + 1) cs addr o e)
    where
      by_place : (p : Option ℕ) (q : Option PlaceIn) → is_some p ≡ list_any (has_address addr) c.interfaces → ((o : PlaceIn) → q ≡ Some o → n + 1 ≤ o.router)
          → list_any (has_address addr) c.interfaces ≡ option_map_or (λ (o : PlaceIn). nat_eq o.router (n + 0)) (option_map_or {U = Option PlaceIn} (λ place. Some (record { router = n; place = place })) p q) false
      by_place (Some place) q is low = sym is ∙ sym (eq-eqb n (n + 0) (omega arith))
      by_place None None is low = sym is
      by_place None (Some o) is low =
          let le : n + 1 ≤ o.router = low o refl in
          let far : nat_eq o.router (n + 0) ≡ false = grind (arith, nat_tests) in
          sym is ∙ sym far
  owned_from n (c ∷ cs) (suc r) none =
      by_place (position (has_address addr) c.interfaces) (is_placed (has_address addr) c.interfaces) (owned_from (n + 1) cs r (empty_right (flat_map (shared (record { router = n; config = c })) (numbered_from (n + 1) cs)) (with_later shared (numbered_from (n + 1) cs)) none))
    where
      by_place : (p : Option ℕ) → is_some p ≡ list_any (has_address addr) c.interfaces → owns_at cs r ≡ option_map_or (λ (o : PlaceIn). nat_eq o.router (n + 1 + r)) (owner_from (n + 1) cs addr) false
          → owns_at cs r ≡ option_map_or (λ (o : PlaceIn). nat_eq o.router (n + suc r)) (option_map_or {U = Option PlaceIn} (λ place. Some (record { router = n; place = place })) p (owner_from (n + 1) cs addr)) false
      by_place (Some place) is later =
          let far : nat_eq n (n + suc r) ≡ false = grind (arith, nat_tests) in
          not_true (owns_at cs r) (later_free n (n + 1) c cs r (sym is) (empty_left (flat_map (shared (record { router = n; config = c })) (numbered_from (n + 1) cs)) (with_later shared (numbered_from (n + 1) cs)) none)) ∙ sym far
      by_place None is later = let e : n + 1 + r ≡ n + suc r = omega arith in later ∙ ap (λ (k : ℕ). option_map_or (λ (o : PlaceIn). nat_eq o.router k) (owner_from (n + 1) cs addr) false) e

  -- and its interface is that of the owner
  abbrev place_at : List ConfigView → ℕ → Option ℕ
  place_at cs router = option_and_then (λ (c : ConfigView). position (has_address addr) c.interfaces) (slice_get cs router)

  abbrev pub place_by : ℕ → Option PlaceIn → Option ℕ
  place_by router q = option_and_then (λ (o : PlaceIn). cond (nat_eq o.router router) (Some o.place) None) q

  none_is : (o : Option ℕ) → is_some o ≡ false → o ≡ None
  none_is None e = refl
  none_is (Some k) e = absurd cc

  no_place : (cs : List ConfigView) (r : ℕ) → owns_at cs r ≡ false → place_at cs r ≡ None
  no_place [] r none = refl
  no_place (c ∷ cs) zero none = none_is (position (has_address addr) c.interfaces) (is_placed (has_address addr) c.interfaces ∙ none)
  no_place (c ∷ cs) (suc r) none = no_place cs r none

  placed_from : (n : ℕ) (cs : List ConfigView) (r : ℕ) → with_later shared (numbered_from n cs) ≡ [] → place_at cs r ≡ place_by (n + r) (owner_from n cs addr)
  placed_from n [] r none = refl
  placed_from n (c ∷ cs) zero none = by_place (position (has_address addr) c.interfaces) (owner_from (n + 1) cs addr) (λ o e. owner_from_low (n + 1) cs addr o e)
    where
      by_place : (p : Option ℕ) (q : Option PlaceIn) → ((o : PlaceIn) → q ≡ Some o → n + 1 ≤ o.router)
          → p ≡ place_by (n + 0) (option_map_or {U = Option PlaceIn} (λ place. Some (record { router = n; place = place })) p q)
      by_place (Some place) q low = ap (λ (b : Bool). cond b (Some place) None) (sym (eq-eqb n (n + 0) (omega arith)))
      by_place None None low = refl
      by_place None (Some o) low =
          let le : n + 1 ≤ o.router = low o refl in
          let far : nat_eq o.router (n + 0) ≡ false = grind (arith, nat_tests) in
          ap (λ (b : Bool). cond b (Some o.place) None) (sym far)
  placed_from n (c ∷ cs) (suc r) none =
      by_place (position (has_address addr) c.interfaces) (is_placed (has_address addr) c.interfaces) (placed_from (n + 1) cs r (empty_right (flat_map (shared (record { router = n; config = c })) (numbered_from (n + 1) cs)) (with_later shared (numbered_from (n + 1) cs)) none))
    where
      by_place : (p : Option ℕ) → is_some p ≡ list_any (has_address addr) c.interfaces → place_at cs r ≡ place_by (n + 1 + r) (owner_from (n + 1) cs addr)
          → place_at cs r ≡ place_by (n + suc r) (option_map_or {U = Option PlaceIn} (λ place. Some (record { router = n; place = place })) p (owner_from (n + 1) cs addr))
      by_place (Some place) is later =
          let far : nat_eq n (n + suc r) ≡ false = grind (arith, nat_tests) in
          no_place cs r (not_true (owns_at cs r) (later_free n (n + 1) c cs r (sym is) (empty_left (flat_map (shared (record { router = n; config = c })) (numbered_from (n + 1) cs)) (with_later shared (numbered_from (n + 1) cs)) none)))
          ∙ ap (λ (b : Bool). cond b (Some place) None) (sym far)
      by_place None is later = let e : n + 1 + r ≡ n + suc r = omega arith in later ∙ ap (λ (k : ℕ). place_by k (owner_from (n + 1) cs addr)) e

-- the interface of a router that has an address
pub own_is : (routers : List ConfigView) → IsValid routers → (addr router : ℕ) → own_place routers router addr ≡ place_by addr router (owner_of routers addr)
own_is routers valid addr router = let e : 0 + router ≡ router = omega arith in placed_from addr 0 routers router valid.addresses ∙ ap (λ (k : ℕ). place_by addr k (owner_of routers addr)) e

-- ---- flagged owners

module _ (routers : List ConfigView) (valid : IsValid routers) (addr : ℕ) where
  owned : (r : ℕ) → owns routers r addr ≡ option_map_or (λ o. nat_eq o.router r) (owner_of routers addr) false
  owned r = let e : 0 + r ≡ r = omega arith in owned_from addr 0 routers r valid.addresses ∙ ap (λ (k : ℕ). option_map_or (λ (o : PlaceIn). nat_eq o.router k) (owner_of routers addr) false) e

  pub owned_by : (q : Option PlaceIn) (r : ℕ) → owner_of routers addr ≡ q → owns routers r addr ≡ option_map_or (λ o. nat_eq o.router r) q false
  owned_by q r e = owned r ∙ ap (λ (p : Option PlaceIn). option_map_or (λ (o : PlaceIn). nat_eq o.router r) p false) e

  pub no_owner : (flags : List Bool) (count : ℕ) → owner_of routers addr ≡ None → any_flagged flags (λ r. owns routers r addr) count ≡ false
  no_owner flags count e = not_true (any_flagged flags (λ r. owns routers r addr) count) (λ is. let found = flagged_out flags (λ r. owns routers r addr) count is in let none : owns routers found.0 addr ≡ false = owned_by None found.0 e in let some : owns routers found.0 addr ≡ true = found.3 in absurd cc)

  pub the_owner : (flags : List Bool) (count : ℕ) (o : PlaceIn) → owner_of routers addr ≡ Some o → o.router < count → flag flags o.router ≡ any_flagged flags (λ r. owns routers r addr) count
  the_owner flags count o e lt =
      same_truth (flag flags o.router) (any_flagged flags (λ r. owns routers r addr) count)
      (λ is. flagged_in flags (λ r. owns routers r addr) count o.router lt is (owned_by (Some o) o.router e ∙ eq-eqb o.router o.router refl))
      (λ is. let found = flagged_out flags (λ r. owns routers r addr) count is in let same : o.router ≡ found.0 = eqb-true o.router found.0 (sym (owned_by (Some o) found.0 e) ∙ found.3) in ap (flag flags) same ∙ found.2)
