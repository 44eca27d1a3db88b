-- How high a preference a route leaves a map with.
use Rattle.std.proofs.Common.{◌≡◌, ℕ, ◌+◌, ◌≤◌, ◌<◌, length, Bool, true, false, cond, ◌&&◌, nat_lt, List, [], ◌∷◌, filter, Option, Some, None, IfSome, refl, sym, ap, ◌∙◌, arith}
use Rattle.std.specs.Prelude.{nat_eq, position, slice_get, slice_index_or, unwrap_or}
use Rattle.std.specs.List.{position_from}
use Rattle.std.specs.Option.{option_map_or}
use Rattle.std.specs.Str.{bytes_eq}
use Rattle.std.proofs.lemmas.Bool.Decides.{nat_tests}
use Rattle.std.proofs.lemmas.Bool.{eqb-true}
use Rattle.std.proofs.lemmas.Iterator.Adapters.{position_from-zero}
use Rattle.std.proofs.lemmas.Option.{slice_get_within}
use Rattle.std.proofs.lemmas.Slice.Eq.{bytes_eq-Decides}
use Rattle.nc_types.specs.Config.{ClauseView, ConfigView}
use Rattle.nc_types.specs.declared.config.Reference.{Reference}
use Rattle.nc_tables.specs.Policy.{Deny, Permit, Placed, Verdict, deciding, is_matching, is_over, least, names_of, placed_from, set_by, verdict, verdict_by}
use Rattle.nc_tables.specs.Rounds.{passed, passed_by}
use Rattle.nc_tables.specs.declared.bgp.Route.{Route}
use Rattle.nc_tables.specs.declared.policy.Names.{Names}
use Rattle.nc_types.proofs.Sameness.{same_bytes_is}
use Rattle.nc_policy.specs.Passing.{map_place}
use Rattle.nc_policy.specs.Preferences.{higher_of, highest_in, highest_preference, is_at_first, set_in, AreHighest}
use Rattle.nc_policy.proofs.Deciding.{named_at}
use Rattle.nc_policy.proofs.Permitting.{position_map}

pub first_upto : (a b : ℕ) → a ≤ higher_of a b
first_upto a b = grind (arith, nat_tests)

pub second_upto : (a b : ℕ) → b ≤ higher_of a b
second_upto a b = grind (arith, nat_tests)

-- where no clause is of a map none sets anything
none_from : (name : List ℕ) (place : ℕ) (ks : List ClauseView) → position_from (λ k. bytes_eq name k.map_name) place ks ≡ None → highest_in name ks ≡ 0
none_from name place [] e = refl
none_from name place (k ∷ ks) e = on (bytes_eq name k.map_name) (none_from name (place + 1) ks) e
  where
    on : (b : Bool) → (position_from (λ (k : ClauseView). bytes_eq name k.map_name) (place + 1) ks ≡ None → highest_in name ks ≡ 0)
        → cond b (Some place) (position_from (λ (k : ClauseView). bytes_eq name k.map_name) (place + 1) ks) ≡ None
        → higher_of (highest_in name ks) (cond b (unwrap_or k.preference 0) 0) ≡ 0
    on true later e = absurd cc
    on false later e = ap (λ (n : ℕ). higher_of n 0) (later e)

pub none_set : (name : List ℕ) (ks : List ClauseView) → position (λ k. bytes_eq name k.map_name) ks ≡ None → highest_in name ks ≡ 0
none_set name ks e = none_from name 0 ks (sym (position_from-zero (λ (k : ClauseView). bytes_eq name k.map_name) ks) ∙ e)

-- where a statement has no map, or its router none of the name, nothing is set
pub none_high : (c : ConfigView) (o : Option Reference) → map_place c o ≡ None → 0 ≡ highest_preference c o
none_high c None e = refl
none_high c (Some reference) e = sym (none_set reference.name c.clauses e)

-- else what is noted at its place
pub high_at : (c : ConfigView) (o : Option Reference) (highest : List ℕ) (first : ℕ) → AreHighest c highest → Some first ≡ map_place c o → slice_index_or highest first 0 ≡ highest_preference c o
high_at c None highest first are e = absurd cc
high_at c (Some reference) highest first are e =
    are first reference.name (position_map (λ (k : ClauseView). k.map_name) (bytes_eq reference.name) c.clauses ∙ sym e)

-- ---- the clause that decides

abbrev IsUpTo : ℕ → Placed → Type 0
IsUpTo bound k = unwrap_or k.clause.preference 0 ≤ bound

weaker : (n bound : ℕ) → n ≤ bound → (o : Option Placed) → IfSome o (IsUpTo n) → IfSome o (IsUpTo bound)
weaker n bound le None is = tt
weaker n bound le (Some k) is = omega (arith, le, is)

picked : (bound : ℕ) (k : Placed) → IsUpTo bound k → (o : Option Placed) → IfSome o (IsUpTo bound) → IsUpTo bound (option_map_or (λ other. cond (nat_lt other.clause.number k.clause.number) other k) o k)
picked bound k is None others = is
picked bound k is (Some other) others = on (nat_lt other.clause.number k.clause.number)
  where
    on : (b : Bool) → IsUpTo bound (cond b other k)
    on true = others
    on false = is

least_upto : (name : List ℕ) (test : Placed → Bool) (place : ℕ) (ks : List ClauseView)
    → IfSome (least (filter (λ k. bytes_eq name k.clause.map_name && test k) (placed_from place ks))) (IsUpTo (highest_in name ks))
least_upto name test place [] = tt
least_upto name test place (k ∷ ks) = on (bytes_eq name k.map_name) (test here) (least_upto name test (place + 1) ks)
  where
    here : Placed
    here = record { place = place; clause = k }

    rest : List Placed
    rest = filter (λ (k : Placed). bytes_eq name k.clause.map_name && test k) (placed_from (place + 1) ks)

    on : (b t : Bool) → IfSome (least rest) (IsUpTo (highest_in name ks))
        → IfSome (least (cond (b && t) (here ∷ rest) rest)) (IsUpTo (higher_of (highest_in name ks) (cond b (unwrap_or k.preference 0) 0)))
    on true true others =
        let both = higher_of (highest_in name ks) (unwrap_or k.preference 0) in
        picked both here (second_upto (highest_in name ks) (unwrap_or k.preference 0)) (least rest)
        (weaker (highest_in name ks) both (first_upto (highest_in name ks) (unwrap_or k.preference 0)) (least rest) others)
    on true false others = weaker (highest_in name ks) (higher_of (highest_in name ks) (unwrap_or k.preference 0)) (first_upto (highest_in name ks) (unwrap_or k.preference 0)) (least rest) others
    on false t others = weaker (highest_in name ks) (higher_of (highest_in name ks) 0) (first_upto (highest_in name ks) 0) (least rest) others

-- ---- the route behind it

set_upto : (o : Option ℕ) (before bound : ℕ) → unwrap_or o 0 ≤ bound → before ≤ bound → unwrap_or o before ≤ bound
set_upto None before bound set le = le
set_upto (Some n) before bound set le = set

abbrev LeavesUpTo : ℕ → Verdict → Type 0
LeavesUpTo bound Deny = Unit {0}
LeavesUpTo bound (Permit route clause names) = route.preference ≤ bound

verdict_upto : (c : ConfigView) (name : List ℕ) (r : Route) (bound : ℕ) → highest_in name c.clauses ≤ bound → r.preference ≤ bound → LeavesUpTo bound (verdict c name r)
unfolding verdict
verdict_upto c name r bound high le =
    on_clause (deciding c name r) (weaker (highest_in name c.clauses) bound high (deciding c name r) (least_upto name (λ (k : Placed). is_matching c r k.clause) 0 c.clauses))
  where
    by_size : (k : Placed) (names : Names) → IsUpTo bound k → (over : Bool) → LeavesUpTo bound (cond over Deny (Permit (set_by k.clause r) k.place names))
    by_size k names is true = tt
    by_size k names is false = set_upto k.clause.preference r.preference bound is le

    by_clause : (k : Placed) (names : Names) → IsUpTo bound k → (permit : Bool) → LeavesUpTo bound (cond permit (cond (is_over (set_by k.clause r)) Deny (Permit (set_by k.clause r) k.place names)) Deny)
    by_clause k names is true = by_size k names is (is_over (set_by k.clause r))
    by_clause k names is false = tt

    on_names : (k : Placed) → IsUpTo bound k → (o : Option Names) → LeavesUpTo bound (option_map_or (verdict_by r k) o Deny)
    on_names k is None = tt
    on_names k is (Some names) = by_clause k names is k.clause.permit

    on_clause : (o : Option Placed) → IfSome o (IsUpTo bound) → LeavesUpTo bound (option_map_or (λ k. option_map_or (verdict_by r k) (names_of c r k.clause) Deny) o Deny)
    on_clause None is = tt
    on_clause (Some k) is = on_names k is (names_of c r k.clause)

-- a route whose preference is up to a bound, as what the map sets is, leaves the map with one up to it
pub leaves_upto : (c : ConfigView) (o : Option Reference) (r : Route) (bound : ℕ) → highest_preference c o ≤ bound → r.preference ≤ bound → IfSome (passed c o r) (λ p. p.route.preference ≤ bound)
leaves_upto c None r bound high le = le
leaves_upto c (Some reference) r bound high le = on (verdict c reference.name r) (verdict_upto c reference.name r bound high le)
  where
    on : (v : Verdict) → LeavesUpTo bound v → IfSome (passed_by v) (λ p. p.route.preference ≤ bound)
    on Deny is = tt
    on (Permit route clause names) is = is

-- ---- noted clause by clause

module _ (names : List (List ℕ)) (name : List ℕ) (first : ℕ) (found : position (bytes_eq name) names ≡ Some first) where
  here : slice_get names first ≡ Some name
  here = named_at name names 0 first (sym (position_from-zero (bytes_eq name) names) ∙ found)

  pub first_within : first < length names
  first_within = slice_get_within names first name here

  other : (own : List ℕ) (o : Option ℕ) → position (bytes_eq own) names ≡ o → bytes_eq name own ≡ false → is_at_first o first ≡ false
  other own None e apart = refl
  other own (Some f) e apart = on (nat_eq f first) refl
    where
      on : (b : Bool) → nat_eq f first ≡ b → b ≡ false
      on false same = refl
      on true same =
          let place : f ≡ first = eqb-true f first same in
          let at : slice_get names f ≡ Some own = named_at own names 0 f (sym (position_from-zero (bytes_eq own) names) ∙ e) in
          let both : Some name ≡ Some own = sym here ∙ ap (slice_get names) (sym place) ∙ at in
          let one : name ≡ own = cc in
          let yes : bytes_eq name own ≡ true = (bytes_eq-Decides name own).1 one in
          absurd cc

  -- the place of its first clause is that of another clause's map where both are one
  pub first_is : (own : List ℕ) (o : Option ℕ) → o ≡ position (bytes_eq own) names → is_at_first o first ≡ bytes_eq name own
  first_is own o is = on (bytes_eq name own) refl
    where
      on : (b : Bool) → bytes_eq name own ≡ b → is_at_first o first ≡ b
      on true e =
          ap (λ (p : Option ℕ). is_at_first p first) (is ∙ ap (λ (q : List ℕ). position (bytes_eq q) names) (sym (same_bytes_is name own e)) ∙ found)
          ∙ itself first
        where
          itself : (n : ℕ) → nat_eq n n ≡ true
          itself n = grind (arith, nat_tests)
      on false e = other own o (sym is) e

-- a clause of the same map raises it, one of another leaves it
pub noted : (name : List ℕ) (k : ClauseView) (ks : List ClauseView) (at : Bool) (old new : ℕ) → at ≡ bytes_eq name k.map_name → old ≡ highest_in name ks
    → new ≡ cond at (higher_of old (unwrap_or k.preference 0)) old → new ≡ highest_in name (k ∷ ks)
noted name k ks at old new same is e = e ∙ ap (λ (b : Bool). cond b (higher_of old (unwrap_or k.preference 0)) old) same ∙ on (bytes_eq name k.map_name) ∙ ap (λ (n : ℕ). higher_of n (set_in name k)) is
  where
    on : (b : Bool) → cond b (higher_of old (unwrap_or k.preference 0)) old ≡ higher_of old (cond b (unwrap_or k.preference 0) 0)
    on true = refl
    on false = grind (arith, nat_tests)
