use Rattle.std.proofs.Common.{◌≡◌, ◌+◌, ◌<◌, ◌≤◌, ℕ, Bool, true, cond, ◌&&◌, List, Option, Some, length, map, sym, ap, ◌∙◌, arith, inl, inr}
use Rattle.std.specs.Prelude.{slice_get}
use Rattle.std.specs.Option.{option_map}
use Rattle.std.specs.Str.{bytes_eq}
use Rattle.std.proofs.lemmas.Cmp.{nat_list_eq_equiv}
use Rattle.std.proofs.lemmas.List.{length-map}
use Rattle.std.proofs.lemmas.Option.{slice_get-map, slice_get_cases, slice_get_within}
use Rattle.nc_types.specs.Config.{ClauseView, clause_view, config_view}
use Rattle.nc_types.specs.declared.config.RouterConfig.{RouterConfig}
use Rattle.nc_tables.specs.Policy.{Placed, is_matching, deciding}
use Rattle.nc_policy.specs.Views.{asked, candidate_view, is_lower, map_names}
use Rattle.nc_policy.proofs.Deciding.{lower_of, rest_of, of_map, one_more, skip_from, named_if, behind_if, at_some, fewer}
use Rattle.nc_policy.proofs.clauses.scanned.Goals as goal

-- a place that has a name is that of a clause
within : (config : RouterConfig) (place : ℕ) (name : List ℕ) → slice_get (map_names (config_view config)) place ≡ Some name → place < length config.clauses.items
within config place name at =
    let all = map clause_view config.clauses.items in
    omega (arith, slice_get_within (map_names (config_view config)) place name at, length-map all (λ (k : ClauseView). k.map_name), length-map config.clauses.items clause_view)

-- and the clause has it
has_name : (all : List ClauseView) (place : ℕ) (k : ClauseView) (name : List ℕ) → slice_get all place ≡ Some k → slice_get (map (λ k. k.map_name) all) place ≡ Some name → bytes_eq name k.map_name ≡ true
has_name all place k name at own =
    let one : Some k.map_name ≡ Some name = sym (slice_get-map (λ (k : ClauseView). k.map_name) all place ∙ ap (option_map (λ (k : ClauseView). k.map_name)) at) ∙ own in
    let same : k.map_name ≡ name = cc in
    ap (bytes_eq name) same ∙ nat_list_eq_equiv.refl name

pub clauses-init : goal.clauses-init
clauses-init c =
    let config = config_view c.args.config.now in
    let name = c.args.map.now in
    let matches = λ (k : Placed). is_matching config (asked c.args.prefix c.args.held.now) k.clause in
    record {
      deciding =
          c.possible_from-next.ensures.rest c.args.held.now ∙ ap (rest_of (of_map name matches) config.clauses) c.requires.first ∙ skip_from name matches config.clauses 0;
      named = at_some (λ (k : ℕ). slice_get (map_names config) k ≡ Some name) c.possible_from-next.result c.possible_from-next.ensures.named;
      best = tt;
    }

pub better-best-requires-clause-place : goal.better-best-requires-clause-place
better-best-requires-clause-place c = within c.args.config.now c.in-Some.place c.args.map.now (c.clauses.invariant.named c.in-Some.place c.in-Some.is)

pub clauses-preserved : goal.clauses-preserved
clauses-preserved c =
    let config = config_view c.args.config.now in
    let name = c.args.map.now in
    let all = config.clauses in
    let names = map_names config in
    let place = c.in-Some.place in
    let own : slice_get names place ≡ Some name = c.clauses.invariant.named place c.in-Some.is in
    let matches = λ (k : Placed). is_matching config (asked c.args.prefix c.args.held.now) k.clause in
    let test = of_map name matches in
    let best = option_map candidate_view c.clauses.best in
    let behind = rest_of test all c.possible_from-next-in-Some.result in
    let decided : (k : ClauseView) → slice_get all place ≡ Some k → lower_of (option_map candidate_view c.better-best.result) behind ≡ deciding config name (asked c.args.prefix c.args.held.now) =
    λ k at.
    let this : Placed = record { place = place; clause = k } in
    let low = is_lower k best in
    let named : bytes_eq name k.map_name ≡ true = has_name all place k name at own in
    ap (λ (o : Option Placed). lower_of o behind) (c.better-best.ensures.better k at)
    ∙ ap (λ (b : Bool). lower_of (cond (low && (b && matches this)) (Some this) best) behind) (sym named)
    ∙ ap (lower_of (cond (low && test this) (Some this) best)) (c.possible_from-next-in-Some.ensures.rest c.args.held.now ∙ ap (rest_of test all) c.clause_behind-behind.ensures ∙ skip_from name matches all (place + 1))
    ∙ sym (one_more test all place k at best)
    ∙ ap (λ (o : Option ℕ). lower_of best (rest_of test all o)) (sym c.in-Some.is)
    ∙ c.clauses.invariant.deciding in
    record {
      deciding = elim (slice_get_cases all place).1 [
        | inl r ↦ decided r.0 r.2
        | inr r ↦
            let inside : place < length names = slice_get_within names place name own in
            absurd (omega (arith, r.0, length-map all (λ (k : ClauseView). k.map_name)))
      ];
      named = at_some (λ (k : ℕ). slice_get names k ≡ Some name) c.possible_from-next-in-Some.result c.possible_from-next-in-Some.ensures.named;
      best = c.better-best.ensures.candidate;
    }

pub possible_from-next-requires-clause-named : goal.possible_from-next-requires-clause-named
possible_from-next-requires-clause-named c = named_if c.args.map.now (map_names (config_view c.args.config.now)) 0 c.args.first c.requires.first

pub possible_from-next-requires-in-Some-clause-named : goal.possible_from-next-requires-in-Some-clause-named
possible_from-next-requires-in-Some-clause-named c =
    named_if c.args.map.now (map_names (config_view c.args.config.now)) (c.in-Some.place + 1) c.clause_behind-behind.result c.clause_behind-behind.ensures

pub clauses-smaller : goal.clauses-smaller
clauses-smaller c =
    let place = c.in-Some.place in
    let names = map_names (config_view c.args.config.now) in
    let lt = within c.args.config.now place c.args.map.now (c.clauses.invariant.named place c.in-Some.is) in
    let next = c.possible_from-next-in-Some in
    let later = next.ensures.behind (place + 1) (behind_if c.args.map.now names (place + 1) c.clause_behind-behind.result c.clause_behind-behind.ensures) in
    fewer (length c.args.config.now.clauses.items) place c.clauses.next next.result c.in-Some.is lt (at_some (λ (k : ℕ). place + 1 ≤ k) next.result later)
