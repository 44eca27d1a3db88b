use Rattle.std.proofs.Common.{◌≡◌, ◌+◌, ◌<◌, ◌≤◌, ℕ, [], Option, Some, length, sym, ap, ◌∙◌, arith, inl, inr}
use Rattle.std.specs.Prelude.{slice_get}
use Rattle.std.specs.Option.{option_map}
use Rattle.std.proofs.lemmas.Option.{slice_get_cases, slice_get_within}
use Rattle.nc_types.specs.Config.{config_view}
use Rattle.nc_tables.specs.Policy.{Placed, is_matching}
use Rattle.nc_policy.specs.Indexes.{place_from}
use Rattle.nc_policy.specs.Views.{asked, candidate_view, map_names}
use Rattle.nc_policy.specs.declared.clauses.Candidate.{Candidate}
use Rattle.nc_policy.proofs.Deciding.{at_some, behind_if, fewer, lower_of, named_if, rest_of, skip_from}
use Rattle.nc_policy.proofs.Sweeping.{lower_none, none_at, none_matching, one_clause, test, within}
use Rattle.nc_policy.proofs.best.best_of_each.Goals as goal

pub clauses-init : goal.clauses-init
clauses-init c =
    let config = config_view c.args.config.now in
    let name = c.args.name.now in
    let ps = c.args.prefixes.now in
    let best = c.in_ok-best.best.items in
    record {
      named = named_if name (map_names config) 0 (Some c.args.first) c.requires.first;
      count = c.in_ok-best.ensures.count;
      deciding = λ j p b got at.
          let r = asked p [] in
          let rest = rest_of (test config name r) config.clauses in
          ap (λ (x : Option Candidate). lower_of (option_map candidate_view x) (rest (Some c.args.first))) (none_at best c.in_ok-best.ensures.none j b at)
          ∙ ap rest c.requires.first ∙ skip_from name (λ (k : Placed). is_matching config r k.clause) config.clauses 0;
      matching = none_matching config ps best c.in_ok-best.ensures.none;
    }

pub better_each-requires-clause-place : goal.better_each-requires-clause-place
better_each-requires-clause-place c =
    within c.args.config.now c.in-Some.place c.args.name.now
    (at_some (λ (k : ℕ). slice_get (map_names (config_view c.args.config.now)) k ≡ Some c.args.name.now) c.clauses.next c.clauses.invariant.named c.in-Some.place c.in-Some.is)

pub clauses-preserved : goal.clauses-preserved
clauses-preserved c =
    let config = config_view c.args.config.now in
    let name = c.args.name.now in
    let names = map_names config in
    let ps = c.args.prefixes.now in
    let place = c.in-Some.place in
    let old = c.clauses.best.items in
    let new = c.better_each.new.best.items in
    let own = at_some (λ (k : ℕ). slice_get names k ≡ Some name) c.clauses.next c.clauses.invariant.named place c.in-Some.is in
    let later = c.behind-next.result in
    let is : later ≡ place_from name (place + 1) names = c.behind-next.ensures names name c.requires.indexed.maps own in
    record {
      named = named_if name names (place + 1) later is;
      count = c.better_each.ensures.count;
      deciding = λ j p b got at.
          let r = asked p [] in
          let there = λ (a : Option Candidate) (was : slice_get old j ≡ Some a).
          one_clause config name r place later (option_map candidate_view a) (option_map candidate_view b) own is
          (λ k here. c.better_each.ensures.better k here j p a b got was at)
          (ap (λ (o : Option ℕ). lower_of (option_map candidate_view a) (rest_of (test config name r) config.clauses o)) (sym c.in-Some.is) ∙ c.clauses.invariant.deciding j p a got was) in
          elim (slice_get_cases old j).1 [
            | inl found ↦ there found.0 found.2
            | inr none ↦
                let inside : j < length new = slice_get_within new j b at in
                absurd (omega (arith, none.0, c.better_each.ensures.count, c.clauses.invariant.count))
          ];
      matching = c.better_each.ensures.best;
    }

pub clauses-smaller : goal.clauses-smaller
clauses-smaller c =
    let config = config_view c.args.config.now in
    let name = c.args.name.now in
    let names = map_names config in
    let place = c.in-Some.place in
    let own = at_some (λ (k : ℕ). slice_get names k ≡ Some name) c.clauses.next c.clauses.invariant.named place c.in-Some.is in
    let later = c.behind-next.result in
    let is : later ≡ place_from name (place + 1) names = c.behind-next.ensures names name c.requires.indexed.maps own in
    let inside : place < length c.args.config.now.clauses.items = within c.args.config.now place name own in
    fewer (length c.args.config.now.clauses.items) place c.clauses.next later c.in-Some.is inside (at_some (λ (k : ℕ). place + 1 ≤ k) later (behind_if name names (place + 1) later is))

pub returns-clause-best : goal.returns-clause-best
returns-clause-best c =
    let config = config_view c.args.config.now in
    let name = c.args.name.now in
    record {
      deciding = λ j p b got at.
          let seen = option_map candidate_view b in
          sym (lower_none seen)
          ∙ ap (λ (o : Option ℕ). lower_of seen (rest_of (test config name (asked p [])) config.clauses o)) (sym c.in_default.is)
          ∙ c.clauses.invariant.deciding j p b got at;
      matching = c.clauses.invariant.matching;
    }
