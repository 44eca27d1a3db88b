-- From one level to the next.
use Rattle.std.proofs.Common.{◌≡◌, ℕ, zero, suc, ◌<◌, Bool, true, false, ◌||◌, nat_eq, List, [], ◌∷◌, length, Option, Some, None, refl, sym, ap, subst, ◌∙◌}
use Rattle.std.specs.List.{list_any, filter_map, cons_option}
use Rattle.std.specs.Option.{option_map_or}
use Rattle.std.proofs.lemmas.Bool.{eqb-true, eq-eqb, or_left, or_right}
use Rattle.nc_types.specs.Config.{ConfigView}
use Rattle.nc_types.specs.Network.{PlaceIn}
use Rattle.nc_tables.specs.declared.base.BaseRow.{BaseRow}
use Rattle.nc_tables.specs.Reach.{hits, leads_to, owns, reaches}
use Rattle.nc_underlay.specs.Levels.{flag, any_flagged, is_next}
use Rattle.nc_types.proofs.Truth.{same_truth}
use Rattle.nc_underlay.proofs.Flagging.{not_left, not_true, flagged_in, flagged_out}
use Rattle.nc_tables.proofs.Owner.{next_within}

-- ---- routers to which places lead

module _ (test : ℕ → Bool) (f : ℕ → Option PlaceIn) (count : ℕ) (within : (place : ℕ) (next : PlaceIn) → f place ≡ Some next → next.router < count) where
  abbrev goes : ℕ → ℕ → Bool
  goes other place = option_map_or (λ next. nat_eq next.router other) (f place) false

  abbrev Passed : List ℕ → Type 0
  Passed places = (k : ℕ) × (k < count) × (list_any (goes k) places ≡ true) × (test k ≡ true)

  pub some_next : (places : List ℕ) → list_any (λ next. test next.router) (filter_map f places) ≡ true → Passed places
  some_next [] e = absurd cc
  some_next (p ∷ ps) e = by_place (f p) refl e (some_next ps)
    where
      later : Passed ps → Passed (p ∷ ps)
      later found = (found.0, found.1, or_right (goes found.0 p) (list_any (goes found.0) ps) found.2, found.3)

      by_first : (o : PlaceIn) → f p ≡ Some o → (b : Bool) → test o.router ≡ b → (b || list_any (λ (next : PlaceIn). test next.router) (filter_map f ps)) ≡ true
          → (list_any (λ (next : PlaceIn). test next.router) (filter_map f ps) ≡ true → Passed ps) → Passed (p ∷ ps)
      by_first o is true passes e rest =
          let here : goes o.router p ≡ true = ap (λ (q : Option PlaceIn). option_map_or (λ (next : PlaceIn). nat_eq next.router o.router) q false) is ∙ eq-eqb o.router o.router refl in
          (o.router, within p o is, or_left (goes o.router p) (list_any (goes o.router) ps) here, passes)
      by_first o is false passes e rest = later (rest e)

      by_place : (q : Option PlaceIn) → f p ≡ q → list_any (λ (next : PlaceIn). test next.router) (cons_option q (filter_map f ps)) ≡ true
          → (list_any (λ (next : PlaceIn). test next.router) (filter_map f ps) ≡ true → Passed ps) → Passed (p ∷ ps)
      by_place None is e rest = later (rest e)
      by_place (Some o) is e rest = by_first o is (test o.router) refl e rest

  pub next_some : (places : List ℕ) (k : ℕ) → list_any (goes k) places ≡ true → test k ≡ true → list_any (λ next. test next.router) (filter_map f places) ≡ true
  next_some [] k e passes = absurd cc
  next_some (p ∷ ps) k e passes = by_place (f p) e (λ later. next_some ps k later passes)
    where
      by_first : (o : PlaceIn) (b : Bool) → nat_eq o.router k ≡ b → (b || list_any (goes k) ps) ≡ true → (list_any (goes k) ps ≡ true → list_any (λ (next : PlaceIn). test next.router) (filter_map f ps) ≡ true)
          → (test o.router || list_any (λ (next : PlaceIn). test next.router) (filter_map f ps)) ≡ true
      by_first o true is e rest = or_left (test o.router) (list_any (λ (next : PlaceIn). test next.router) (filter_map f ps)) (ap test (eqb-true o.router k is) ∙ passes)
      by_first o false is e rest = or_right (test o.router) (list_any (λ (next : PlaceIn). test next.router) (filter_map f ps)) (rest e)

      by_place : (q : Option PlaceIn) → (option_map_or (λ (next : PlaceIn). nat_eq next.router k) q false || list_any (goes k) ps) ≡ true
          → (list_any (goes k) ps ≡ true → list_any (λ (next : PlaceIn). test next.router) (filter_map f ps) ≡ true)
          → list_any (λ (next : PlaceIn). test next.router) (cons_option q (filter_map f ps)) ≡ true
      by_place None e rest = rest e
      by_place (Some o) e rest = by_first o (nat_eq o.router k) refl e rest

-- ---- levels

module _ (routers : List ConfigView) (tables : List (List BaseRow)) (addr : ℕ) where
  abbrev within_hops : ℕ → ℕ → Bool
  within_hops hops router = reaches routers tables hops router addr

  abbrev owning : ℕ → Bool
  owning router = owns routers router addr

  last_hop : (router : ℕ) → within_hops 0 router ≡ owning router
  unfolding reaches
  last_hop router = refl

  -- with no hop left, only owners count
  pub last_level : (left : ℕ) (level : List Bool) → left ≡ 0 → any_flagged level (within_hops left) (length routers) ≡ any_flagged level owning (length routers)
  unfolding reaches
  last_level left level none = ap (λ (n : ℕ). any_flagged level (within_hops n) (length routers)) none

  one_hop : (hops router : ℕ) → within_hops (suc hops) router ≡ (owning router || list_any (λ next. within_hops hops next.router) (filter_map (leads_to routers tables router addr) (hits tables router addr)))
  unfolding reaches
  one_hop hops router = refl

  pub by_owner : (hops router : ℕ) → owning router ≡ true → within_hops hops router ≡ true
  by_owner zero router is = last_hop router ∙ is
  by_owner (suc hops) router is = one_hop hops router ∙ or_left (owning router) _ is

  pub by_next : (hops router k : ℕ) → is_next routers tables router addr k ≡ true → within_hops hops k ≡ true → within_hops (suc hops) router ≡ true
  unfolding is_next
  by_next hops router k next there =
      one_hop hops router ∙ or_right (owning router) _ (next_some (within_hops hops) (leads_to routers tables router addr) (length routers) (next_within routers tables router addr) (hits tables router addr) k next there)

  the_next : (hops router : ℕ) → owning router ≡ false → within_hops (suc hops) router ≡ true → (k : ℕ) × (k < length routers) × (is_next routers tables router addr k ≡ true) × (within_hops hops k ≡ true)
  unfolding is_next
  the_next hops router none is =
      some_next (within_hops hops) (leads_to routers tables router addr) (length routers) (next_within routers tables router addr) (hits tables router addr) (not_left (owning router) _ (sym (one_hop hops router) ∙ is) none)

  -- an owner among the flagged routers
  pub found : (hops : ℕ) (level : List Bool) → any_flagged level owning (length routers) ≡ true → any_flagged level (within_hops hops) (length routers) ≡ true
  found hops level is = let owner = flagged_out level owning (length routers) is in flagged_in level (within_hops hops) (length routers) owner.0 owner.1 owner.2 (by_owner hops owner.0 owner.3)

  -- no owner among them: it is as far from the next level, with one hop less
  pub passed : (left hops : ℕ) (level next : List Bool) → left ≡ suc hops → any_flagged level owning (length routers) ≡ false
      → ((other : ℕ) → flag next other ≡ any_flagged level (λ router. is_next routers tables router addr other) (length routers))
      → any_flagged level (within_hops left) (length routers) ≡ any_flagged next (within_hops hops) (length routers)
  passed left hops level next more none step =
      ap (λ (n : ℕ). any_flagged level (within_hops n) (length routers)) more
      ∙ same_truth (any_flagged level (within_hops (suc hops)) (length routers)) (any_flagged next (within_hops hops) (length routers)) there back
    where
      there : any_flagged level (within_hops (suc hops)) (length routers) ≡ true → any_flagged next (within_hops hops) (length routers) ≡ true
      there is =
          let here = flagged_out level (within_hops (suc hops)) (length routers) is in
          let not_own : owning here.0 ≡ false = not_true (owning here.0) (λ own. let some : any_flagged level owning (length routers) ≡ true = flagged_in level owning (length routers) here.0 here.1 here.2 own in absurd cc) in
          let k = the_next hops here.0 not_own here.3 in
          flagged_in next (within_hops hops) (length routers) k.0 k.1 (step k.0 ∙ flagged_in level (λ router. is_next routers tables router addr k.0) (length routers) here.0 here.1 here.2 k.2) k.3

      back : any_flagged next (within_hops hops) (length routers) ≡ true → any_flagged level (within_hops (suc hops)) (length routers) ≡ true
      back is =
          let k = flagged_out next (within_hops hops) (length routers) is in
          let here = flagged_out level (λ router. is_next routers tables router addr k.0) (length routers) (sym (step k.0) ∙ k.2) in
          flagged_in level (within_hops (suc hops)) (length routers) here.0 here.1 here.2 (by_next hops here.0 k.0 here.3 k.3)

  -- the first level has the first router alone
  pub first : (hops router : ℕ) (level : List Bool) → router < length routers → ((r : ℕ) → flag level r ≡ nat_eq r router) → within_hops hops router ≡ any_flagged level (within_hops hops) (length routers)
  first hops router level lt only =
      same_truth (within_hops hops router) (any_flagged level (within_hops hops) (length routers))
      (λ is. flagged_in level (within_hops hops) (length routers) router lt (only router ∙ eq-eqb router router refl) is)
      (λ is. let here = flagged_out level (within_hops hops) (length routers) is in subst (λ (r : ℕ). within_hops hops r ≡ true) (eqb-true here.0 router (sym (only here.0) ∙ here.2)) here.3)
