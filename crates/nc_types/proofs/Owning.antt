-- The table of the owners of lines.
use Rattle.std.proofs.Common.{◌≡◌, ℕ, suc, ◌+◌, ◌<◌, ◌≤◌, Bool, true, false, cond, nat_eq, List, [], ◌∷◌, ◌++◌, length, map, get_or, Option, Some, None, All, refl, sym, ap, subst, ◌∙◌, arith, below_more}
use Rattle.std.specs.Global.{Vec}
use Rattle.std.specs.List.{list_any, position_from, position, slice_get}
use Rattle.std.specs.Option.{option_map}
use Rattle.std.proofs.lemmas.Bool.Decides.{nat_tests}
use Rattle.std.proofs.lemmas.Iterator.Adapters.{position_from-zero}
use Rattle.std.proofs.lemmas.List.{length-append, get_or-map, get_or_append_left, get_or_push}
use Rattle.std.proofs.lemmas.List.Quantifiers.{position-Some}
use Rattle.std.proofs.lemmas.Option.{slice_get-get_or, slice_get_within, get_or_from_slice_get, same_Some}
use Rattle.std.proofs.lemmas.List.Elements.{All-head, All-tail}
use Rattle.nc_types.specs.declared.config.RouterConfig.{RouterConfig}
use Rattle.nc_types.specs.Config.{ElementView, ConfigView, config_view}
use Rattle.nc_types.specs.WellFormed.{IsElement, IsWellFormed}
use Rattle.nc_types.specs.Joining.{IsValid}
use Rattle.nc_types.specs.Network.{number_at, place_with_line, owner_at}
use Rattle.nc_types.specs.Tables.{AreOwners, AreAllOwners, owner_in, claimed}

abbrev has_line : ℕ → ElementView → Bool
has_line line e = list_any (nat_eq line) e.lines

-- one element more is asked where none before it has the line
later : (place : ℕ) (es : List ElementView) (e : ElementView) (line : ℕ) → position_from (has_line line) place (es ++ e ∷ []) ≡ claimed (place + length es) e.lines line (Some (position_from (has_line line) place es))
later place [] e line = by_test (has_line line e)
  where
    by_test : (b : Bool) → cond b (Some place) None ≡ cond b (Some (place + 0)) None
    by_test true = let here : place ≡ place + 0 = omega arith in ap Some here
    by_test false = refl
later place (f ∷ es) e line =
    let places : (place + 1) + length es ≡ place + suc (length es) = omega arith in
    by_test (has_line line f) (later (place + 1) es e line ∙ ap (λ (k : ℕ). claimed k e.lines line (Some (position_from (has_line line) (place + 1) es))) places)
  where
    by_test : (b : Bool) → position_from (has_line line) (place + 1) (es ++ e ∷ []) ≡ claimed (place + suc (length es)) e.lines line (Some (position_from (has_line line) (place + 1) es))
        → cond b (Some place) (position_from (has_line line) (place + 1) (es ++ e ∷ [])) ≡ claimed (place + suc (length es)) e.lines line (Some (cond b (Some place) (position_from (has_line line) (place + 1) es)))
    by_test true rest = refl
    by_test false rest = rest

pub owner_in-push : (es : List ElementView) (e : ElementView) (line : ℕ) → owner_in (es ++ e ∷ []) line ≡ claimed (length es) e.lines line (Some (owner_in es line))
owner_in-push es e line =
    let count : 0 + length es ≡ length es = omega arith in
    position_from-zero (has_line line) (es ++ e ∷ []) ∙ later 0 es e line ∙ ap (λ (k : ℕ). claimed k e.lines line (Some (position_from (has_line line) 0 es))) count
    ∙ ap (λ (o : Option ℕ). claimed (length es) e.lines line (Some o)) (sym (position_from-zero (has_line line) es))

-- ---- a line behind the last

not_among : (last line : ℕ) (lines : List ℕ) → last < line → All (λ k. (0 < k) × (k ≤ last)) lines → list_any (nat_eq line) lines ≡ false
not_among last line [] past within = refl
not_among last line (k ∷ lines) past within =
    let here = All-head (λ (k : ℕ). (0 < k) × (k ≤ last)) k lines within in
    let le : k ≤ last = here.1 in
    let other : nat_eq line k ≡ false = grind (arith, nat_tests) in
    rw other (not_among last line lines past (All-tail (λ (k : ℕ). (0 < k) × (k ≤ last)) k lines within))

nowhere : (last line place : ℕ) (es : List ElementView) → last < line → All (IsElement last) es → position_from (has_line line) place es ≡ None
nowhere last line place [] past each = refl
nowhere last line place (e ∷ es) past each =
    rw (not_among last line e.lines past (All-head (IsElement last) e es each).within) (nowhere last line (place + 1) es past (All-tail (IsElement last) e es each))

-- no element has a line behind the last
pub no_owner : (last line : ℕ) (es : List ElementView) → last < line → All (IsElement last) es → position (has_line line) es ≡ None
no_owner last line es past each = position_from-zero (has_line line) es ∙ nowhere last line 0 es past each

-- ---- router by router

pub view_at : (routers : List RouterConfig) (k : ℕ) (config : RouterConfig) → k < length routers → config ≡ get_or routers k config → (d : ConfigView) → get_or (map config_view routers) k d ≡ config_view config
view_at routers k config lt here d = get_or-map config_view routers k config d lt ∙ ap config_view (sym here)

module _ (routers : List ConfigView) (done : ℕ) (c : ConfigView) (owners : List (Vec (Option ℕ))) (own : Vec (Option ℕ)) where
  -- the owners of one router more
  pub all_push : AreAllOwners routers done owners → ((d : ConfigView) → get_or routers done d ≡ c) → AreOwners c own.items → AreAllOwners routers (done + 1) (owners ++ own ∷ [])
  all_push all here more = record {
    count = omega (arith, length-append owners (own ∷ []), all.count);
    each = λ router d o lt. below_more
        (λ (j : ℕ). (d : ConfigView) (o : Vec (Option ℕ)) → AreOwners (get_or routers j d) (get_or (owners ++ own ∷ []) j o).items)
        done
        (λ j below d o. let at = get_or_append_left owners (own ∷ []) o j (omega (arith, all.count)) in subst (λ (v : Vec (Option ℕ)). AreOwners (get_or routers j d) v.items) (sym at) (all.each j d o below))
        (λ d o.
        let at = get_or_push owners own o done all.count in
        subst (λ (v : Vec (Option ℕ)). AreOwners (get_or routers done d) v.items) (sym at) (subst (λ (x : ConfigView). AreOwners x own.items) (sym (here d)) more))
        router
        lt
        d
        o;
  }

-- ---- look-ups

pub some_at : {X : Type 0} (xs : List X) (k : ℕ) → k < length xs → (x : X) × (slice_get xs k ≡ Some x)
some_at [] k lt = absurd (omega arith)
some_at (x ∷ xs) k lt = (get_or (x ∷ xs) k x, slice_get-get_or (x ∷ xs) k x lt)

-- what a table says of a router that it has
module _ (routers : List ConfigView) (owners : List (Vec (Option ℕ))) (all : AreAllOwners routers (length routers) owners) (router line : ℕ) (own : Vec (Option ℕ)) (found : slice_get owners router ≡ Some own) where
  pub router_within : router < length routers
  router_within = omega (arith, all.count, slice_get_within owners router own found)

  module _ (c : ConfigView) (there : slice_get routers router ≡ Some c) where
    own_of : AreOwners c own.items
    own_of =
        subst (λ (v : Vec (Option ℕ)). AreOwners c v.items) (get_or_from_slice_get owners router own own found)
        (subst (λ (x : ConfigView). AreOwners x (get_or owners router own).items) (get_or_from_slice_get routers router c c there) (all.each router c own router_within))

    none_past : IsWellFormed c → length own.items ≤ line → owner_at routers router line ≡ None
    none_past formed past =
        let none = no_owner c.line_count line c.elements (omega (arith, own_of.count)) formed.elements in
        rw (there, none) refl

    pub owner_is : (owner : Option ℕ) → slice_get own.items line ≡ Some owner → owner ≡ place_with_line c line
    owner_is owner has =
        let lt : line < length own.items = slice_get_within own.items line owner has in
        same_Some owner (owner_in c.elements line) (sym has ∙ own_of.each line (omega (arith, own_of.count)))

  -- behind the last line there is no owner
  pub owner_past : IsValid routers → length own.items ≤ line → owner_at routers router line ≡ None
  owner_past valid past =
      let r = some_at routers router router_within in
      none_past r.0 r.1 (subst IsWellFormed (get_or_from_slice_get routers router r.0 r.0 r.1) (valid.each router r.0 router_within)) past

  -- the table has the place of the owner
  pub owner_found : (owner : Option ℕ) → slice_get own.items line ≡ Some owner → option_map (number_at routers router) owner ≡ owner_at routers router line
  owner_found owner has =
      let r = some_at routers router router_within in
      let same : owner ≡ place_with_line r.0 line = owner_is r.0 r.1 owner has in
      rw (r.1, same) refl

  -- and an element is there
  pub place_found : (place : ℕ) → slice_get own.items line ≡ Some (Some place) → (c : ConfigView) → slice_get routers router ≡ Some c → place < length c.elements
  place_found place has c there = by_elements c.elements refl
    where
      first : ElementView → place < length c.elements
      first e = (position-Some (has_line line) c.elements place e (sym (owner_is c there (Some place) has))).0

      by_elements : (es : List ElementView) → c.elements ≡ es → place < length c.elements
      by_elements [] none = let no_place : None ≡ Some place = sym (ap (λ (es : List ElementView). position (has_line line) es) none) ∙ sym (owner_is c there (Some place) has) in absurd cc
      by_elements (e ∷ es) some = first e
