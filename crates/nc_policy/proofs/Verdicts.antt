-- What is made of a route, by the clause that decides.
use Rattle.std.proofs.Common.{◌≡◌, ℕ, ◌-◌, ◌<◌, ◌≤◌, ◌++◌, Bool, true, false, cond, ◌||◌, nat_lt, List, length, Option, Some, None, refl, sym, ap, ◌∙◌, arith}
use Rattle.std.specs.Option.{is_some, option_map_or}
use Rattle.std.proofs.lemmas.Bool.Decides.{nat_tests}
use Rattle.std.proofs.lemmas.List.{length-append}
use Rattle.nc_types.specs.Cidr.{Cidr}
use Rattle.nc_types.specs.Communities.{limited}
use Rattle.nc_types.specs.Config.{ConfigView, ClauseView}
use Rattle.nc_types.specs.Setting.{set_all}
use Rattle.nc_types.specs.declared.TheConstants.{PATH_LIMIT, COMMUNITY_LIMIT}
use Rattle.nc_tables.specs.declared.bgp.Route.{Route}
use Rattle.nc_tables.specs.declared.policy.Names.{Names}
use Rattle.nc_tables.specs.Policy.{Placed, Verdict, Deny, Permit, deciding, names_of, set_by, is_over, verdict_by, verdict}
use Rattle.nc_policy.specs.Views.{asked}

-- what is made of a route by a clause, where one decides
abbrev by_deciding : ConfigView → Route → Option Placed → Verdict
by_deciding c r o = option_map_or (λ k. option_map_or (verdict_by r k) (names_of c r k.clause) Deny) o Deny

-- nothing decides
pub undecided : (c : ConfigView) (name : List ℕ) (r : Route) → None ≡ deciding c name r → Deny ≡ verdict c name r
unfolding verdict
undecided c name r e = ap (by_deciding c r) e

module _ (c : ConfigView) (name : List ℕ) (r : Route) (k : Placed) (names : Names) (decides : Some k ≡ deciding c name r) (matches : Some names ≡ names_of c r k.clause) where
  by_clause : verdict_by r k names ≡ verdict c name r
  unfolding verdict
  by_clause = ap (λ (o : Option Names). option_map_or (verdict_by r k) o Deny) matches ∙ ap (by_deciding c r) decides

  -- the route as it goes on, or no route where it carries too much
  abbrev permitted_as : Option Route → Verdict
  permitted_as changed = option_map_or (λ s. Permit s k.place names) changed Deny

  pub denied : k.clause.permit ≡ false → Deny ≡ verdict c name r
  denied e = sym (ap (λ (b : Bool). cond b (cond (is_over (set_by k.clause r)) Deny (permitted_as (Some (set_by k.clause r)))) Deny) e) ∙ by_clause

  pub permitted : k.clause.permit ≡ true → (changed : Option Route) → changed ≡ cond (is_over (set_by k.clause r)) None (Some (set_by k.clause r)) → permitted_as changed ≡ verdict c name r
  permitted e changed is =
      ap permitted_as is ∙ by_length (is_over (set_by k.clause r))
      ∙ sym (ap (λ (b : Bool). cond b (cond (is_over (set_by k.clause r)) Deny (permitted_as (Some (set_by k.clause r)))) Deny) e) ∙ by_clause
    where
      by_length : (b : Bool) → permitted_as (cond b None (Some (set_by k.clause r))) ≡ cond b Deny (permitted_as (Some (set_by k.clause r)))
      by_length true = refl
      by_length false = refl

-- ---- what clauses ask of a route

module _ (c : ConfigView) (r : Route) (p : Cidr) (held : List ℕ) (same_prefix : r.prefix ≡ p) (same_held : r.communities ≡ held) where
  pub decides_alike : (name : List ℕ) → deciding c name (asked p held) ≡ deciding c name r
  decides_alike name =
      ap (λ (q : Cidr). deciding c name (asked q held)) (sym same_prefix) ∙ ap (λ (l : List ℕ). deciding c name (asked r.prefix l)) (sym same_held)

  pub names_alike : (k : ClauseView) → names_of c (asked p held) k ≡ names_of c r k
  names_alike k = ap (λ (q : Cidr). names_of c (asked q held) k) (sym same_prefix) ∙ ap (λ (l : List ℕ). names_of c (asked r.prefix l) k) (sym same_held)

-- ---- routes that carry too much

-- a route that goes on by a clause, where it carries no more than it may
abbrev pub changed_by : ClauseView → Route → Option Route
changed_by k r = cond (is_over (set_by k r)) None (Some (set_by k r))

too_many : (a : Bool) (s : Route) (b : Bool) → b ≡ true → None ≡ cond (a || b) None (Some s)
too_many true s b e = refl
too_many false s b e = sym (ap (λ (t : Bool). cond t None (Some s)) e)

module _ (k : ClauseView) (r : Route) where
  pub too_long : (count : ℕ) → length r.path ≡ count → PATH_LIMIT - count < length k.prepend → None ≡ changed_by k r
  too_long count is more =
      let s = set_by k r in
      let long : nat_lt PATH_LIMIT (length (k.prepend ++ r.path)) ≡ true = (let over : PATH_LIMIT < length (k.prepend ++ r.path) = omega (arith, length-append k.prepend r.path) in grind (arith, nat_tests)) in
      sym (ap (λ (b : Bool). cond (b || nat_lt COMMUNITY_LIMIT (length s.communities)) None (Some s)) long)

  pub too_full : (held : List ℕ) → r.communities ≡ held → is_some (limited (set_all k.communities held)) ≡ false → None ≡ changed_by k r
  too_full held is none =
      let s = set_by k r in
      let left = set_all k.communities r.communities in
      let over : nat_lt COMMUNITY_LIMIT (length left) ≡ true = on (nat_lt COMMUNITY_LIMIT (length left)) left (ap (λ (l : List ℕ). is_some (limited (set_all k.communities l))) is ∙ none) in
      too_many (nat_lt PATH_LIMIT (length (k.prepend ++ r.path))) s (nat_lt COMMUNITY_LIMIT (length left)) over
    where
      on : (b : Bool) (set : List ℕ) → is_some (cond b None (Some set)) ≡ false → b ≡ true
      on true set e = refl
      on false set e = cc

  pub not_over : (count : ℕ) (held : List ℕ) → length r.path ≡ count → count ≤ PATH_LIMIT → length k.prepend ≤ PATH_LIMIT - count → r.communities ≡ held → is_some (limited (set_all k.communities held)) ≡ true
      → Some (set_by k r) ≡ changed_by k r
  not_over count held is few fits same some =
      let s = set_by k r in
      let left = set_all k.communities r.communities in
      let short : nat_lt PATH_LIMIT (length (k.prepend ++ r.path)) ≡ false = (let within : length (k.prepend ++ r.path) ≤ PATH_LIMIT = omega (arith, length-append k.prepend r.path) in grind (arith, nat_tests)) in
      let enough : nat_lt COMMUNITY_LIMIT (length left) ≡ false = on (nat_lt COMMUNITY_LIMIT (length left)) left (ap (λ (l : List ℕ). is_some (limited (set_all k.communities l))) same ∙ some) in
      sym (
      ap (λ (b : Bool). cond (b || nat_lt COMMUNITY_LIMIT (length left)) None (Some s)) short
      ∙ ap (λ (b : Bool). cond b None (Some s)) enough
      )
    where
      on : (b : Bool) (l : List ℕ) → is_some (cond b None (Some l)) ≡ true → b ≡ false
      on true l e = cc
      on false l e = refl
