-- Of a map the clause that decides on a route with communities, by the one that decides without and by those that ask for them.
use Rattle.std.proofs.Common.{◌≡◌, ℕ, List, [], Bool, true, false, nat_eq, ◌&&◌, ◌||◌, Option, Some, None, IfSome, refl, sym, ap, subst, ◌∙◌}
use Rattle.std.specs.Prelude.{slice_get, is_some}
use Rattle.std.specs.Option.{option_map}
use Rattle.std.specs.Str.{bytes_eq}
use Rattle.std.proofs.lemmas.Bool.{eqb-true}
use Rattle.nc_types.specs.Cidr.{Cidr}
use Rattle.nc_types.specs.Communities.{has}
use Rattle.nc_types.specs.Config.{ClauseView, ConfigView, clause_view}
use Rattle.nc_tables.specs.declared.bgp.Route.{Route}
use Rattle.nc_tables.specs.declared.policy.Names.{Names}
use Rattle.nc_tables.specs.Policy.{Placed, deciding, is_matching}
use Rattle.nc_policy.specs.Kept.{asks, is_asked_by, AreAskers}
use Rattle.nc_policy.specs.Views.{asked, candidate_view, is_lower, IsCandidate}
use Rattle.nc_policy.specs.Walks.{IsBeaten, IsOfMap}
use Rattle.nc_policy.specs.declared.askers.Asker.{Asker}
use Rattle.nc_policy.specs.declared.clauses.Candidate.{Candidate}
use Rattle.nc_policy.proofs.Beating.{beaten_by_deciding, first_true, second_true}
use Rattle.nc_policy.proofs.Keeping.{bare_alike, has_name, unmet_names}
use Rattle.nc_policy.proofs.Ranging.{asked_at, none_bare}

-- what decides is of the map
pub of_map_by : (c : ConfigView) (name : List ℕ) (r : Route) (o : Option Placed) → o ≡ deciding c name r → IsOfMap name o
of_map_by c name r None e = tt
of_map_by c name r (Some k) e = has_name c name r k (sym e)

-- a clause of the map that matches, with its place
pub best_known : (c : ConfigView) (name : List ℕ) (r : Route) (o : Option Candidate) → IfSome o (IsCandidate c r) → IsOfMap name (option_map candidate_view o)
    → IfSome (option_map candidate_view o) (λ b. (slice_get c.clauses b.place ≡ Some b.clause) × (bytes_eq name b.clause.map_name ≡ true) × (is_matching c r b.clause ≡ true))
best_known c name r None is named = tt
best_known c name r (Some b) is named = (is.own, named, ap (λ (o : Option Names). is_some o) (sym is.names))

-- of communities that a table doesn't have none asks for a clause
pub unheld : (c : ConfigView) (r : Route) (askers : List Asker) (communities : List ℕ) (best : Option Placed) → ((k : ℕ) (a : Asker) → slice_get askers k ≡ Some a → has a.community communities ≡ false)
    → (i : ℕ) (a : Asker) → slice_get askers i ≡ Some a → has a.community communities ≡ true → IsBeaten c r best a.place
unheld c r askers communities best none i a there own = absurd (let wrong : true ≡ false = sym own ∙ none i a there in cc)

module _ (c : ConfigView) (name : List ℕ) (p : Cidr) (held : List ℕ) (askers : List Asker) (are : AreAskers c name askers) where
  abbrev r : Route
  r = asked p held

  -- one that decides without communities asks for none, so it matches with any
  pub bare_candidate : (o : Option Candidate) → IfSome o (IsCandidate c (asked p [])) → IsOfMap name (option_map candidate_view o) → IfSome o (IsCandidate c (asked p held))
  bare_candidate None is named = tt
  bare_candidate (Some b) is named = on (asks name (clause_view b.clause.now)) refl
    where
      on : (t : Bool) → asks name (clause_view b.clause.now) ≡ t → IsCandidate c (asked p held) b
      on true e = absurd (let wrong : Some b.names ≡ None = is.names ∙ unmet_names c p [] (clause_view b.clause.now) (are.unmet b.place (clause_view b.clause.now) is.own e [] (none_bare askers b.place)) in cc)
      on false e = record { within = is.within; own = is.own; names = is.names ∙ bare_alike c name p held (clause_view b.clause.now) e named }

  module _ (first added : List ℕ) (parts : (n : ℕ) → has n held ≡ (has n first || has n added)) (bare one best : Option Placed) (decides : bare ≡ deciding c name (asked p []))
      (one_beats : (j : ℕ) → IsBeaten c r bare j → IsBeaten c r one j) (one_beaten : (i : ℕ) (a : Asker) → slice_get askers i ≡ Some a → has a.community first ≡ true → IsBeaten c r one a.place)
      (best_beats : (j : ℕ) → IsBeaten c r one j → IsBeaten c r best j) (best_beaten : (i : ℕ) (a : Asker) → slice_get askers i ≡ Some a → has a.community added ≡ true → IsBeaten c r best a.place) where
    -- a clause that asks for none
    none_asked : (j : ℕ) (k : ClauseView) → slice_get c.clauses j ≡ Some k → bytes_eq name k.map_name ≡ true → is_matching c r k ≡ true → asks name k ≡ false → is_lower k best ≡ false
    none_asked j k at named matches e =
        let bare_matches : is_matching c (asked p []) k ≡ true = ap (λ (o : Option Names). is_some o) (bare_alike c name p held k e named) ∙ matches in
        let low : is_lower k bare ≡ false = ap (is_lower k) decides ∙ beaten_by_deciding c name (asked p []) j k at named bare_matches in
        let beaten : IsBeaten c r bare j = λ x there m. (let both : Some k ≡ Some x = sym at ∙ there in let same : k ≡ x = cc in subst (λ (y : ClauseView). is_lower y bare ≡ false) same low) in
        best_beats j (one_beats j beaten) k at matches

    -- one that asks for some that the route has
    some_asked : (j : ℕ) → is_asked_by askers j held ≡ true → IsBeaten c r best j
    some_asked j e =
        let found = asked_at (λ (a : Asker). nat_eq a.place j && has a.community held) askers e in
        let a = found.1.0 in
        let here = first_true (nat_eq a.place j) (has a.community held) found.1.1.1 in
        let own = second_true (nat_eq a.place j) (has a.community held) found.1.1.1 in
        subst (IsBeaten c r best) (eqb-true a.place j here) (on a found.0 found.1.1.0 (has a.community first) refl (sym (parts a.community) ∙ own))
      where
        on : (a : Asker) (i : ℕ) → slice_get askers i ≡ Some a → (t : Bool) → has a.community first ≡ t → (has a.community first || has a.community added) ≡ true → IsBeaten c r best a.place
        on a i there true is e = best_beats a.place (one_beaten i a there is)
        on a i there false is e = best_beaten i a there (sym (ap (λ (t : Bool). t || has a.community added) is) ∙ e)

    -- each clause of the map that matches is beaten
    pub all_beaten : (j : ℕ) (k : ClauseView) → slice_get c.clauses j ≡ Some k → bytes_eq name k.map_name ≡ true → is_matching c r k ≡ true → is_lower k best ≡ false
    all_beaten j k at named matches = on (asks name k) (is_asked_by askers j held) refl refl
      where
        on : (t u : Bool) → asks name k ≡ t → is_asked_by askers j held ≡ u → is_lower k best ≡ false
        on false u e f = none_asked j k at named matches e
        on true true e f = some_asked j f k at matches
        on true false e f =
            absurd (let wrong : true ≡ false = sym matches ∙ ap (λ (o : Option Names). is_some o) (unmet_names c p held k (are.unmet j k at e held f)) in cc)
