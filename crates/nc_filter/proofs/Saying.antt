-- What is kept of a list, and what a filter says by it.
use Rattle.std.proofs.Common.{◌≡◌, ◌⊎◌, ℕ, zero, suc, ◌-◌, ◌<◌, Bool, true, false, cond, ◌&&◌, nat_eq, List, [], ◌∷◌, ◌++◌, length, Option, Some, None, refl, sym, ap, subst, ◌∙◌, arith, inl, inr}
use Rattle.std.specs.Prelude.{option_and_then, position, slice_get, is_some}
use Rattle.std.specs.List.{list_any}
use Rattle.std.specs.Option.{option_map, option_map_or}
use Rattle.std.proofs.lemmas.Bool.{and_parts, eqb-true}
use Rattle.std.proofs.lemmas.Iterator.Adapters.{position_from-zero}
use Rattle.std.proofs.lemmas.Option.{same_Some, slice_get_within}
use Rattle.nc_types.proofs.Lookups.{is_placed}
use Rattle.nc_types.specs.Config.{ConfigView}
use Rattle.nc_types.specs.declared.filters.Group.{Group}
use Rattle.nc_tables.specs.Filters.{deciding, group_of, is_of, passing, passing_by, said_by}
use Rattle.nc_tables.specs.declared.filters.Passing.{Passing}
use Rattle.nc_tables.specs.declared.filters.Passing.TheVariants.{Free, Deny}
use Rattle.nc_filter.specs.Gates.{gate_for, gate_of}
use Rattle.nc_filter.specs.Tables.{AreRight, IsDeciding, IsOf}
use Rattle.nc_filter.specs.declared.gates.Gate.{Gate}
use Rattle.nc_filter.proofs.Classes.{placed}
use Rattle.nc_filter.specs.declared.tables.RouterFilters.{RouterFilters}

-- ---- what is kept

module _ (routers : List ConfigView) (from to router first : ℕ) where
  -- of the router's list that begins there
  pub of_list : (c : ConfigView) (entry : Option ℕ) → slice_get routers router ≡ Some c → ((list : List ℕ) → position (is_of list) c.filters ≡ Some first → entry ≡ deciding from to c list) → IsDeciding routers from to router first entry
  of_list c entry config is d list config_too begins =
      let same : d ≡ c = same_Some d c (sym config_too ∙ config) in
      is list (ap (λ (x : ConfigView). position (is_of list) x.filters) (sym same) ∙ begins) ∙ ap (λ (x : ConfigView). deciding from to x list) (sym same)

  pub right_more : (old new : ℕ → ℕ → Option (Option ℕ)) (entry : Option ℕ) → ((r f : ℕ) → new r f ≡ cond (nat_eq router r && nat_eq first f) (Some entry) (old r f))
      → IsDeciding routers from to router first entry → AreRight routers from to old → AreRight routers from to new
  right_more old new entry put is before r f x there = on (nat_eq router r && nat_eq first f) refl (sym (put r f) ∙ there)
    where
      on : (b : Bool) → (nat_eq router r && nat_eq first f) ≡ b → cond b (Some entry) (old r f) ≡ Some x → IsDeciding routers from to r f x
      on true same e =
          let both = and_parts (nat_eq router r) (nat_eq first f) same in
          subst (λ (o : Option ℕ). IsDeciding routers from to r f o) (same_Some entry x e)
          (subst (λ (k : ℕ). IsDeciding routers from to k f entry) (eqb-true router r both.0)
          (subst (λ (k : ℕ). IsDeciding routers from to router k entry) (eqb-true first f both.1) is))
      on false other e = before r f x e

-- ---- what a filter says

module _ (from to : ℕ) (c : ConfigView) (place : ℕ) (g : Group) (at : slice_get c.groups place ≡ Some g) where
  abbrev says : Bool → Option ℕ → Passing
  says some entry = cond some (option_map_or (said_by c place) entry Deny) Free

  said : (o : Option ℕ) (entry : Option ℕ) → o ≡ position (is_of g.list) c.filters → entry ≡ deciding from to c g.list → says (is_some o) entry ≡ option_map_or (passing_by from to c place) (slice_get c.groups place) Free
  said o entry first decided =
      ap (λ (p : Option ℕ). says (is_some p) entry) first
      ∙ ap (λ (b : Bool). says b entry) (is_placed (is_of g.list) c.filters)
      ∙ ap (says (list_any (is_of g.list) c.filters)) decided
      ∙ sym (ap (λ (h : Option Group). option_map_or (passing_by from to c place) h Free) at)

  pub nothing_said : None ≡ position (is_of g.list) c.filters → Free ≡ option_map_or (passing_by from to c place) (slice_get c.groups place) Free
  nothing_said first = said None (deciding from to c g.list) first refl

  pub entry_said : (first entry : ℕ) → Some first ≡ position (is_of g.list) c.filters → Some entry ≡ deciding from to c g.list → said_by c place entry ≡ option_map_or (passing_by from to c place) (slice_get c.groups place) Free
  entry_said first entry is decided = said (Some first) (Some entry) is decided

  pub none_said : (first : ℕ) → Some first ≡ position (is_of g.list) c.filters → None ≡ deciding from to c g.list → Deny ≡ option_map_or (passing_by from to c place) (slice_get c.groups place) Free
  none_said first is decided = said (Some first) None is decided

-- a filter with its list, and which one it is
pub record IsGateOf (c : ConfigView) (gate : Gate) (g : Group) : Type 0 where
  pub at : slice_get c.groups gate.group ≡ Some g
  pub list : gate.list ≡ position (is_of g.list) c.filters

pub gate_of_group : (c : ConfigView) (gate : Gate) → gate_for c gate.group ≡ Some gate → (g : Group) × IsGateOf c gate g
gate_of_group c gate is = by (slice_get c.groups gate.group) refl
  where
    by : (o : Option Group) → slice_get c.groups gate.group ≡ o → (g : Group) × IsGateOf c gate g
    by None none = absurd (let bad : None ≡ Some gate = sym (ap (option_map (λ (g : Group). let made : Gate = record { group = gate.group; list = position (is_of g.list) c.filters } in made)) none) ∙ is in cc)
    by (Some g) some =
        let made = same_Some (let made : Gate = record { group = gate.group; list = position (is_of g.list) c.filters } in made) gate (sym (ap (option_map (λ (g : Group). let made : Gate = record { group = gate.group; list = position (is_of g.list) c.filters } in made)) some) ∙ is) in
        (g, record { at = some; list = ap (λ (x : Gate). x.list) (sym made) })

-- of a filter that is found by its place
gate_known : (c : ConfigView) (group : ℕ) (gate : Gate) → gate_for c group ≡ Some gate → gate.group ≡ group
gate_known c group gate is = by (slice_get c.groups group) is
  where
    by : (o : Option Group) → option_map (λ (g : Group). let made : Gate = record { group = group; list = position (is_of g.list) c.filters } in made) o ≡ Some gate → gate.group ≡ group
    by None e = absurd cc
    by (Some g) e = sym (ap (λ (x : Gate). x.group) (same_Some (let made : Gate = record { group = group; list = position (is_of g.list) c.filters } in made) gate e))

pub gate_itself : (c : ConfigView) (o : Option ℕ) (gate : Gate) → option_and_then (gate_for c) o ≡ Some gate → gate_for c gate.group ≡ Some gate
gate_itself c None gate e = absurd cc
gate_itself c (Some k) gate e = ap (gate_for c) (gate_known c k gate e) ∙ e

module _ (from to : ℕ) (c : ConfigView) (iface : ℕ) (inward : Bool) where
  abbrev said_of : Option ℕ → Passing
  said_of group = option_map_or (λ place. option_map_or (passing_by from to c place) (slice_get c.groups place) Free) group Free

  -- an interface without a filter, and with one
  pub unfiltered : gate_of c iface inward ≡ None → Free ≡ passing from to c iface inward
  unfolding passing
  unfiltered none = by (group_of c iface inward) none
    where
      missing : (place : ℕ) (o : Option Group) → option_map (λ (g : Group). let made : Gate = record { group = place; list = position (is_of g.list) c.filters } in made) o ≡ None → Free ≡ option_map_or (passing_by from to c place) o Free
      missing place None e = refl
      missing place (Some g) e = absurd cc

      by : (o : Option ℕ) → option_and_then (gate_for c) o ≡ None → Free ≡ said_of o
      by None e = refl
      by (Some k) e = missing k (slice_get c.groups k) e

  pub filtered : (place : ℕ) (said : Passing) → Some place ≡ group_of c iface inward → said ≡ option_map_or (passing_by from to c place) (slice_get c.groups place) Free → said ≡ passing from to c iface inward
  unfolding passing
  filtered place said some is = is ∙ ap said_of some

  pub gated : (gate : Gate) (said : Passing) → gate_of c iface inward ≡ Some gate → said ≡ option_map_or (passing_by from to c gate.group) (slice_get c.groups gate.group) Free → said ≡ passing from to c iface inward
  gated gate said some is = by (group_of c iface inward) refl some
    where
      by : (o : Option ℕ) → group_of c iface inward ≡ o → option_and_then (gate_for c) o ≡ Some gate → said ≡ passing from to c iface inward
      by None e none = absurd cc
      by (Some k) e found = filtered gate.group said (ap (λ (n : ℕ). Some n) (gate_known c k gate found) ∙ sym e) is

  pub unnamed : None ≡ group_of c iface inward → Free ≡ passing from to c iface inward
  unfolding passing
  unnamed none = ap said_of none

-- what is found is within
pub position_within : {X : Type 0} (f : X → Bool) (xs : List X) (k : ℕ) → position f xs ≡ Some k → k < length xs
position_within f xs k e = let found = placed f 0 xs k (sym (position_from-zero f xs) ∙ e) in omega (arith, slice_get_within xs (k - 0) found.0 found.1)

-- ---- the tables of one router more

pushed_at : {A : Type 0} (xs : List A) (y : A) (k : ℕ) (z : A) → slice_get (xs ++ y ∷ []) k ≡ Some z → (slice_get xs k ≡ Some z) ⊎ ((k ≡ length xs) × (y ≡ z))
pushed_at [] y zero z e = inr (refl, same_Some y z e)
pushed_at [] y (suc k) z e = absurd (cc)
pushed_at (x ∷ xs) y zero z e = inl e
pushed_at (x ∷ xs) y (suc k) z e = elim (pushed_at xs y k z e) [
  | inl before ↦ inl before
  | inr last ↦ inr (ap suc last.0, last.1)
]

abbrev pub AreOf : List ConfigView → List RouterFilters → Type 0
AreOf routers items = (router : ℕ) (c : ConfigView) (filters : RouterFilters) → slice_get routers router ≡ Some c → slice_get items router ≡ Some filters → IsOf c filters

pub one_more : (routers : List ConfigView) (items : List RouterFilters) (one : RouterFilters) (c : ConfigView) → slice_get routers (length items) ≡ Some c → IsOf c one → AreOf routers items → AreOf routers (items ++ one ∷ [])
one_more routers items one c at is before router d filters config there = elim (pushed_at items one router filters there) [
  | inl e ↦ before router d filters config e
  | inr last ↦
      let same : c ≡ d = same_Some c d (sym at ∙ ap (slice_get routers) (sym last.0) ∙ config) in
      subst (λ (x : ConfigView). IsOf x filters) same (subst (IsOf c) last.1 is)
]
