-- The best clause so far, the clauses that it beats, and the one that decides.
use Rattle.std.proofs.Common.{◌≡◌, ◌⊎◌, ℕ, zero, suc, ◌+◌, ◌<◌, ◌≤◌, Bool, true, false, cond, nat_eq, nat_lt, ◌&&◌, ◌||◌, List, [], ◌∷◌, length, map, filter, get_or, Option, Some, None, IfSome, refl, sym, ap, subst, ◌∙◌, arith, inl, inr}
use Rattle.std.specs.Prelude.{slice_get}
use Rattle.std.specs.Option.{option_map}
use Rattle.std.specs.Str.{bytes_eq}
use Rattle.std.proofs.lemmas.Bool.{cases_eq, cases_lt, ltb-true, ltb-false}
use Rattle.std.proofs.lemmas.Bool.Decides.{nat_tests}
use Rattle.std.proofs.lemmas.Cmp.{nat_list_eq_equiv}
use Rattle.std.proofs.lemmas.List.{length-map}
use Rattle.std.proofs.lemmas.Option.{get_or_from_slice_get, slice_get-map, slice_get_cases, slice_get_within}
use Rattle.nc_types.specs.Communities.{has}
use Rattle.nc_types.specs.declared.config.RouterConfig.{RouterConfig}
use Rattle.nc_types.specs.Config.{ClauseView, ConfigView, clause_view, config_view}
use Rattle.nc_types.specs.WellFormed.{IsWellFormed}
use Rattle.nc_types.proofs.Sameness.{same_bytes_is}
use Rattle.nc_tables.specs.declared.bgp.Route.{Route}
use Rattle.nc_tables.specs.Policy.{Placed, placed_from, least, is_matching, deciding}
use Rattle.nc_policy.specs.Views.{is_lower, map_names}
use Rattle.nc_policy.specs.Walks.{IsOfMap}
use Rattle.nc_policy.proofs.Deciding.{lower_of}

-- ---- one clause more

-- the best one so far, or a clause that takes its place
abbrev pub with_this : Bool → ℕ → ClauseView → Option Placed → Option Placed
with_this takes place k best = cond takes (Some (record { place = place; clause = k })) best

below_none : (x : ℕ) → nat_lt x x ≡ false
below_none x = grind (arith, nat_tests)

not_below : (x y : ℕ) → y ≤ x → nat_lt x y ≡ false
not_below x y le = grind (arith, nat_tests)

-- what the best one beats is beaten by what takes its place
pub still_beaten : (x k : ClauseView) (place : ℕ) (matches : Bool) (best : Option Placed) → is_lower x best ≡ false → is_lower x (with_this (is_lower k best && matches) place k best) ≡ false
still_beaten x k place matches None e = absurd (let wrong : true ≡ false = e in cc)
still_beaten x k place matches (Some b) e = on (nat_lt k.number b.clause.number) matches refl
  where
    on : (low m : Bool) → nat_lt k.number b.clause.number ≡ low → is_lower x (with_this (low && m) place k (Some b)) ≡ false
    on true true lt =
        let one = ltb-true k.number b.clause.number lt in
        let two = ltb-false x.number b.clause.number e in
        not_below x.number k.number (omega arith)
    on true false lt = e
    on false m lt = e

-- and a clause that matches is beaten by the better one
pub own_beaten : (k : ClauseView) (place : ℕ) (matches : Bool) (best : Option Placed) → matches ≡ true → is_lower k (with_this (is_lower k best && matches) place k best) ≡ false
own_beaten k place matches best e = on (is_lower k best) matches refl e
  where
    on : (low m : Bool) → is_lower k best ≡ low → m ≡ true → is_lower k (with_this (low && m) place k best) ≡ false
    on true true is e = below_none k.number
    on true false is e = absurd (cc)
    on false m is e = is

-- what takes the place of one of a map, and is of the map
pub named_with : (name : List ℕ) (place : ℕ) (k : ClauseView) (takes : Bool) (best : Option Placed) → bytes_eq name k.map_name ≡ true → IsOfMap name best → IsOfMap name (with_this takes place k best)
named_with name place k true best named is = named
named_with name place k false best named is = is

-- the clause at a place
pub there_is : (config : RouterConfig) (place : ℕ) → place < length config.clauses.items → (k : ClauseView) × (slice_get (config_view config).clauses place ≡ Some k)
there_is config place lt = elim (slice_get_cases (map clause_view config.clauses.items) place).1 [
  | inl r ↦ (r.0, r.2)
  | inr r ↦ absurd (omega (arith, r.0, length-map config.clauses.items clause_view))
]

pub clause_at : (c : ConfigView) (place : ℕ) (name : List ℕ) → slice_get (map_names c) place ≡ Some name → (k : ClauseView) × ((slice_get c.clauses place ≡ Some k) × (bytes_eq name k.map_name ≡ true))
clause_at c place name own = on (slice_get c.clauses place) refl (sym (slice_get-map (λ (k : ClauseView). k.map_name) c.clauses place) ∙ own)
  where
    on : (o : Option ClauseView) → slice_get c.clauses place ≡ o → option_map (λ (k : ClauseView). k.map_name) o ≡ Some name → (k : ClauseView) × ((slice_get c.clauses place ≡ Some k) × (bytes_eq name k.map_name ≡ true))
    on None is e = absurd (cc)
    on (Some k) is e = (k, (is, (let same : k.map_name ≡ name = cc in ap (bytes_eq name) same ∙ nat_list_eq_equiv.refl name)))

-- a number among others stands at a place
pub has_at : (n : ℕ) (xs : List ℕ) → has n xs ≡ true → (i : ℕ) × ((i < length xs) × ((d : ℕ) → nat_eq n (get_or xs i d) ≡ true))
has_at n [] e = absurd (cc)
has_at n (x ∷ xs) e = on (nat_eq n x) refl (λ rest. has_at n xs rest) e
  where
    on : (b : Bool) → nat_eq n x ≡ b → (has n xs ≡ true → (i : ℕ) × ((i < length xs) × ((d : ℕ) → nat_eq n (get_or xs i d) ≡ true))) → (b || has n xs) ≡ true
        → (i : ℕ) × ((i < length (x ∷ xs)) × ((d : ℕ) → nat_eq n (get_or (x ∷ xs) i d) ≡ true))
    on true is rest e = (zero, ((omega arith), λ d. is))
    on false is rest e = let found = rest e in (suc found.0, ((let lt : found.0 < length xs = found.1.0 in omega arith), found.1.1))

-- ---- the least of those that pass

-- it beats each of them
pub least_beats : (test : Placed → Bool) (xs : List Placed) (i : ℕ) (x : Placed) → slice_get xs i ≡ Some x → test x ≡ true → is_lower x.clause (least (filter test xs)) ≡ false
least_beats test [] i x at is = absurd (cc)
least_beats test (y ∷ ys) zero x at is =
    let same : y ≡ x = cc in
    let own : test y ≡ true = ap test same ∙ is in
    subst (λ (z : Placed). is_lower z.clause (least (filter test (y ∷ ys))) ≡ false) same
    (ap (λ (b : Bool). is_lower y.clause (least (cond b (y ∷ filter test ys) (filter test ys)))) own ∙ head (least (filter test ys)))
  where
    head : (o : Option Placed) → is_lower y.clause (lower_of (Some y) o) ≡ false
    head None = below_none y.clause.number
    head (Some o) = on (nat_lt o.clause.number y.clause.number) refl
      where
        on : (b : Bool) → nat_lt o.clause.number y.clause.number ≡ b → nat_lt y.clause.number (cond b o y).clause.number ≡ false
        on true lt = let less = ltb-true o.clause.number y.clause.number lt in not_below y.clause.number o.clause.number (omega arith)
        on false lt = below_none y.clause.number
least_beats test (y ∷ ys) (suc i) x at is = on (test y) (least_beats test ys i x at is)
  where
    tail : (o : Option Placed) → is_lower x.clause o ≡ false → is_lower x.clause (lower_of (Some y) o) ≡ false
    tail None e = absurd (let wrong : true ≡ false = e in cc)
    tail (Some o) e = low (nat_lt o.clause.number y.clause.number) refl
      where
        low : (b : Bool) → nat_lt o.clause.number y.clause.number ≡ b → nat_lt x.clause.number (cond b o y).clause.number ≡ false
        low true lt = e
        low false lt =
            let one = ltb-false o.clause.number y.clause.number lt in
            let two = ltb-false x.clause.number o.clause.number e in
            not_below x.clause.number y.clause.number (omega arith)

    on : (b : Bool) → is_lower x.clause (least (filter test ys)) ≡ false → is_lower x.clause (least (cond b (y ∷ filter test ys) (filter test ys))) ≡ false
    on true e = tail (least (filter test ys)) e
    on false e = e

-- what is so of each of them is so of it
pub least_is : (P : Placed → Type 0) (test : Placed → Bool) (xs : List Placed) → ((i : ℕ) (x : Placed) → slice_get xs i ≡ Some x → test x ≡ true → P x) → IfSome (least (filter test xs)) P
least_is P test [] each = tt
least_is P test (y ∷ ys) each = on (test y) refl (least_is P test ys (λ i x at. each (suc i) x at))
  where
    among : (o : Option Placed) → IfSome o P → P y → IfSome (lower_of (Some y) o) P
    among None is own = own
    among (Some o) is own = low (nat_lt o.clause.number y.clause.number)
      where
        low : (b : Bool) → P (cond b o y)
        low true = is
        low false = own

    on : (b : Bool) → test y ≡ b → IfSome (least (filter test ys)) P → IfSome (least (cond b (y ∷ filter test ys) (filter test ys))) P
    on true is rest = among (least (filter test ys)) rest (each 0 y refl is)
    on false is rest = rest

-- of two that don't beat each other both are the same one, where no other has its number
found_is : (best l : Option Placed) → IfSome l (λ x. (is_lower x.clause best ≡ false) × IfSome best (λ b. x.clause.number ≡ b.clause.number → x ≡ b)) → IfSome best (λ b. is_lower b.clause l ≡ false) → best ≡ l
found_is None None each own = refl
found_is None (Some m) each own = absurd (let wrong : true ≡ false = each.0 in cc)
found_is (Some b) None each own = absurd (let wrong : true ≡ false = own in cc)
found_is (Some b) (Some m) each own =
    let one = ltb-false m.clause.number b.clause.number each.0 in
    let two = ltb-false b.clause.number m.clause.number own in
    let same : m.clause.number ≡ b.clause.number = omega arith in
    ap (λ (x : Placed). Some x) (sym (each.1 same))

-- ---- clauses with their places

pub placed_at : (ks : List ClauseView) (from i : ℕ) (x : Placed) → slice_get (placed_from from ks) i ≡ Some x → (x.place ≡ from + i) × (slice_get ks i ≡ Some x.clause)
placed_at [] from i x at = absurd (cc)
placed_at (k ∷ ks) from zero x at =
    let same : record { place = from; clause = k } ≡ x = cc in
    (sym (ap (λ (y : Placed). y.place) same) ∙ (let none : from ≡ from + 0 = omega arith in none), ap (λ (y : Placed). Some y.clause) same)
placed_at (k ∷ ks) from (suc i) x at =
    let rest = placed_at ks (from + 1) i x at in
    (rest.0 ∙ (let more : from + 1 + i ≡ from + suc i = omega arith in more), rest.1)

pub at_placed : (ks : List ClauseView) (from i : ℕ) (k : ClauseView) → slice_get ks i ≡ Some k → slice_get (placed_from from ks) i ≡ Some (record { place = from + i; clause = k })
at_placed [] from i k at = absurd (cc)
at_placed (x ∷ ks) from zero k at =
    let same : x ≡ k = cc in
    let none : from ≡ from + 0 = omega arith in
    ap (λ (y : ClauseView). Some (record { place = from; clause = y })) same ∙ ap (λ (n : ℕ). Some (record { place = n; clause = k })) none
at_placed (x ∷ ks) from (suc i) k at =
    let more : from + 1 + i ≡ from + suc i = omega arith in
    at_placed ks (from + 1) i k at ∙ ap (λ (n : ℕ). Some (record { place = n; clause = k })) more

-- two clauses of a map that have the same number stand at the same place
pub one_place : (c : ConfigView) → IsWellFormed c → (i j : ℕ) (a b : ClauseView) → slice_get c.clauses i ≡ Some a → slice_get c.clauses j ≡ Some b → a.map_name ≡ b.map_name → a.number ≡ b.number → i ≡ j
one_place c formed i j a b here there names numbers = elim (cases_eq i j) [
  | inl same ↦ same
  | inr other ↦ elim (cases_lt i j) [
    | inl less ↦ absurd (apart (formed.clauses i j a less (slice_get_within c.clauses j b there)))
    | inr back ↦ absurd (behind (formed.clauses j i a (omega arith) (slice_get_within c.clauses i a here)))
  ]
]
  where
    one : get_or c.clauses i a ≡ a
    one = get_or_from_slice_get c.clauses i a a here

    two : get_or c.clauses j a ≡ b
    two = get_or_from_slice_get c.clauses j b a there

    apart : (((get_or c.clauses i a).map_name ≡ (get_or c.clauses j a).map_name → ⊥) ⊎ ((get_or c.clauses i a).number ≡ (get_or c.clauses j a).number → ⊥)) → ⊥
    apart (inl e) = e (ap (λ (k : ClauseView). k.map_name) one ∙ names ∙ sym (ap (λ (k : ClauseView). k.map_name) two))
    apart (inr e) = e (ap (λ (k : ClauseView). k.number) one ∙ numbers ∙ sym (ap (λ (k : ClauseView). k.number) two))

    behind : (((get_or c.clauses j a).map_name ≡ (get_or c.clauses i a).map_name → ⊥) ⊎ ((get_or c.clauses j a).number ≡ (get_or c.clauses i a).number → ⊥)) → ⊥
    behind (inl e) = e (ap (λ (k : ClauseView). k.map_name) two ∙ sym names ∙ sym (ap (λ (k : ClauseView). k.map_name) one))
    behind (inr e) = e (ap (λ (k : ClauseView). k.number) two ∙ sym numbers ∙ sym (ap (λ (k : ClauseView). k.number) one))

-- ---- the clause that decides

both_true : (a b : Bool) → a ≡ true → b ≡ true → (a && b) ≡ true
both_true true b e f = f
both_true false b e f = absurd (cc)

pub first_true : (a b : Bool) → (a && b) ≡ true → a ≡ true
first_true true b e = refl
first_true false b e = e

pub second_true : (a b : Bool) → (a && b) ≡ true → b ≡ true
second_true true b e = e
second_true false b e = absurd (cc)

module _ (c : ConfigView) (name : List ℕ) (r : Route) where
  abbrev pub passes : Placed → Bool
  passes k = bytes_eq name k.clause.map_name && is_matching c r k.clause

  -- a clause of a map that matches is beaten by the one that decides
  pub beaten_by_deciding : (j : ℕ) (k : ClauseView) → slice_get c.clauses j ≡ Some k → bytes_eq name k.map_name ≡ true → is_matching c r k ≡ true → is_lower k (deciding c name r) ≡ false
  beaten_by_deciding j k at named matches =
      least_beats passes (placed_from 0 c.clauses) j (record { place = 0 + j; clause = k }) (at_placed c.clauses 0 j k at) (both_true (bytes_eq name k.map_name) (is_matching c r k) named matches)

  -- nothing of the map is lower than the best one, and none but it has its number
  abbrev pub Known : Option Placed → Placed → Type 0
  Known best x = (is_lower x.clause best ≡ false) × IfSome best (λ b. x.clause.number ≡ b.clause.number → x ≡ b)

  -- the best one is of the map, and matches
  abbrev pub Own : Option Placed → Type 0
  Own best = IfSome best (λ b. (slice_get c.clauses b.place ≡ Some b.clause) × (bytes_eq name b.clause.map_name ≡ true) × (is_matching c r b.clause ≡ true))

  -- one of a map that matches, and beats all of it that match, decides
  pub best_decides : IsWellFormed c → (best : Option Placed) → Own best
      → ((j : ℕ) (k : ClauseView) → slice_get c.clauses j ≡ Some k → bytes_eq name k.map_name ≡ true → is_matching c r k ≡ true → is_lower k best ≡ false) → best ≡ deciding c name r
  best_decides formed best own beats = found_is best (deciding c name r) (least_is (Known best) passes (placed_from 0 c.clauses) (each best own beats)) (mine best own)
    where
      mine : (best : Option Placed) → Own best → IfSome best (λ b. is_lower b.clause (deciding c name r) ≡ false)
      mine None own = tt
      mine (Some b) own = beaten_by_deciding b.place b.clause own.0 own.1 own.2

      single : (best : Option Placed) → Own best → (x : Placed) → slice_get c.clauses x.place ≡ Some x.clause → bytes_eq name x.clause.map_name ≡ true → IfSome best (λ b. x.clause.number ≡ b.clause.number → x ≡ b)
      single None own x at named = tt
      single (Some b) own x at named = λ same.
          let names : x.clause.map_name ≡ b.clause.map_name = sym (same_bytes_is name x.clause.map_name named) ∙ same_bytes_is name b.clause.map_name own.1 in
          let place : x.place ≡ b.place = one_place c formed x.place b.place x.clause b.clause at own.0 names same in
          let one : Some x.clause ≡ Some b.clause = sym at ∙ ap (slice_get c.clauses) place ∙ own.0 in
          let clause : x.clause ≡ b.clause = cc in
          ap (λ (n : ℕ). record { place = n; clause = x.clause }) place ∙ ap (λ (k : ClauseView). record { place = b.place; clause = k }) clause

      each : (best : Option Placed) → Own best → ((j : ℕ) (k : ClauseView) → slice_get c.clauses j ≡ Some k → bytes_eq name k.map_name ≡ true → is_matching c r k ≡ true → is_lower k best ≡ false)
          → (i : ℕ) (x : Placed) → slice_get (placed_from 0 c.clauses) i ≡ Some x → passes x ≡ true → Known best x
      each best own beats i x at is =
          let read = placed_at c.clauses 0 i x at in
          let place : i ≡ x.place = sym (let none : 0 + i ≡ i = omega arith in read.0 ∙ none) in
          let here : slice_get c.clauses x.place ≡ Some x.clause = ap (slice_get c.clauses) (sym place) ∙ read.1 in
          let named = first_true (bytes_eq name x.clause.map_name) (is_matching c r x.clause) is in
          let matches = second_true (bytes_eq name x.clause.map_name) (is_matching c r x.clause) is in
          (beats x.place x.clause here named matches, single best own x here named)
