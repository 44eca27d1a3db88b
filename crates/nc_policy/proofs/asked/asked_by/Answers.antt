use Rattle.std.proofs.Common.{◌≡◌, ◌+◌, ◌<◌, ◌≤◌, ◌&&◌, ℕ, List, Bool, [], Option, Some, true, false, not, nat_eq, nat_lt, length, map, refl, sym, ap, ◌∙◌, arith, inl, inr, rules}
use Rattle.std.specs.Prelude.{slice_get}
use Rattle.std.specs.Option.{option_map}
use Rattle.std.specs.Str.{bytes_eq}
use Rattle.std.proofs.lemmas.Bool.{cases_eq, cases_lt}
use Rattle.std.proofs.lemmas.Bool.Decides.{nat_tests}
use Rattle.std.proofs.lemmas.List.{length-map}
use Rattle.std.proofs.lemmas.Option.{slice_get-map, slice_get_within}
use Rattle.nc_types.specs.Config.{ClauseView, clause_view, config_view}
use Rattle.nc_policy.specs.Kept.{asks, is_asked_by}
use Rattle.nc_policy.proofs.Ranging.{none_bare}
use Rattle.nc_policy.specs.Indexes.{place_from}
use Rattle.nc_policy.specs.Views.{map_names}
use Rattle.nc_policy.proofs.Asking.{is_past, other_between}
use Rattle.nc_policy.proofs.Deciding.{at_some, behind_if, fewer, named_if}
use Rattle.nc_policy.proofs.asked.asked_by.Goals as goal

-- what a test of two is made of
one_of : (a b : Bool) → (a && b) ≡ true → a ≡ true
one_of true b e = refl
one_of false b e = e

other_of : (a b : Bool) → (a && b) ≡ true → b ≡ true
other_of true b e = e
other_of false b e = absurd (cc)

-- a clause that stands between a place and the next one of the map isn't of it
between : {P : Type 0} (name : List ℕ) (all : List ClauseView) (from j : ℕ) (k : ClauseView) → slice_get all j ≡ Some k → asks name k ≡ true → from < j + 1 → is_past (place_from name from (map (λ (k : ClauseView). k.map_name) all)) j ≡ true → P
between name all from j k at asked le past =
    let own : slice_get (map (λ (k : ClauseView). k.map_name) all) j ≡ Some k.map_name = slice_get-map (λ (k : ClauseView). k.map_name) all j ∙ ap (option_map (λ (k : ClauseView). k.map_name)) at in
    let wrong : true ≡ false = sym (other_of (not (nat_eq (length k.community_lists) 0)) (bytes_eq name k.map_name) asked) ∙ other_between name (map (λ (k : ClauseView). k.map_name) all) from j k.map_name own le past in
    absurd (cc)

pub clauses-init : goal.clauses-init
clauses-init c =
    let config = config_view c.args.config.now in
    let name = c.args.name.now in
    record {
      named = named_if name (map_names config) 0 (Some c.args.first) c.requires.first;
      own = λ k d lt. absurd (let none : length c.new-askers.result.items ≡ 0 = search rules in omega arith);
      past = λ j k at asked past held out. between name config.clauses 0 j k at asked (omega arith) (ap (λ (o : Option ℕ). is_past o j) (sym c.requires.first) ∙ past);
    }

pub clauses-preserved : goal.clauses-preserved
clauses-preserved c =
    let config = config_view c.args.config.now in
    let name = c.args.name.now in
    let names = map_names config in
    let place = c.in-Some.place in
    let own = at_some (λ (k : ℕ). slice_get names k ≡ Some name) c.clauses.next c.clauses.invariant.named place c.in-Some.is in
    let later = c.behind-next.result in
    let is : later ≡ place_from name (place + 1) names = c.behind-next.ensures names name c.requires.indexed.maps own in
    record {
      named = named_if name names (place + 1) later is;
      own = c.in_ok-add_clause.ensures.own names name own c.clauses.invariant.own;
      past = λ j k at asked past held out. elim (cases_eq j place) [
        | inl same ↦
            c.in_ok-add_clause.ensures.clause c.if-not-branch.false k (ap (slice_get config.clauses) (sym same) ∙ at) (one_of (not (nat_eq (length k.community_lists) 0)) (bytes_eq name k.map_name) asked) held (ap (λ (i : ℕ). is_asked_by c.add_clause.new.askers.items i held) (sym same) ∙ out)
        | inr other ↦ elim (cases_lt j place) [
          | inl front ↦
              let low : nat_lt j place ≡ true = grind (arith, nat_tests) in
              c.clauses.invariant.past j k at asked (ap (λ (o : Option ℕ). is_past o j) c.in-Some.is ∙ low) held (c.in_ok-add_clause.ensures.kept j held out)
          | inr back ↦ between name config.clauses (place + 1) j k at asked (omega arith) (ap (λ (o : Option ℕ). is_past o j) (sym is) ∙ past)
        ]
      ];
    }

pub clauses-smaller : goal.clauses-smaller
clauses-smaller c =
    let config = config_view c.args.config.now in
    let name = c.args.name.now in
    let names = map_names config in
    let place = c.in-Some.place in
    let own = at_some (λ (k : ℕ). slice_get names k ≡ Some name) c.clauses.next c.clauses.invariant.named place c.in-Some.is in
    let later = c.behind-next.result in
    let is : later ≡ place_from name (place + 1) names = c.behind-next.ensures names name c.requires.indexed.maps own in
    let inside : place < length c.args.config.now.clauses.items = omega (arith, slice_get_within names place name own, length-map config.clauses (λ (k : ClauseView). k.map_name), length-map c.args.config.now.clauses.items clause_view) in
    fewer (length c.args.config.now.clauses.items) place c.clauses.next later c.in-Some.is inside (at_some (λ (k : ℕ). place + 1 ≤ k) later (behind_if name names (place + 1) later is))

pub returns-clause-askers : goal.returns-clause-askers
returns-clause-askers c =
    let config = config_view c.args.config.now in
    let name = c.args.name.now in
    record {
      unmet = λ j k at asked held out.
          c.clauses.invariant.past j k at asked (ap (λ (o : Option ℕ). is_past o j) c.in_default.is) held (sym (c.in_ok-askers.ensures.asked j held) ∙ out);
      own = c.in_ok-askers.ensures.own (map_names config) name c.clauses.invariant.own;
    }

pub returns-clause-bare : goal.returns-clause-bare
returns-clause-bare c = λ j k at asked. c.clauses.invariant.past j k at asked (ap (λ (o : Option ℕ). is_past o j) c.in_default.is) [] (none_bare c.clauses.askers.items j)
