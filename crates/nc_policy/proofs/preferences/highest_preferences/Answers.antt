use Rattle.std.proofs.Common.{◌≡◌, ◌<◌, ◌+◌, ◌-◌, List, ◌∷◌, length, map, drop, ap, sym, ◌∙◌, arith}
use Rattle.std.specs.Prelude.{slice_index_or}
use Rattle.std.proofs.lemmas.List.{length-map, drop-map}
use Rattle.nc_types.specs.Config.{ClauseView, clause_view, config_view}
use Rattle.nc_types.proofs.Walks.{drop_back}
use Rattle.nc_policy.specs.Indexes.{named_in}
use Rattle.nc_policy.specs.Preferences.{highest_in, is_at_first}
use Rattle.nc_policy.specs.Seen.{name_table}
use Rattle.nc_policy.specs.Views.{map_names}
use Rattle.nc_policy.proofs.Raising.{first_is, first_within, noted}
use Rattle.nc_policy.proofs.preferences.highest_preferences.Goals as goal

pub clauses-preserved : goal.clauses-preserved
clauses-preserved c =
    let config = c.args.config.now in
    let xs = config.clauses.items in
    let place = c.clauses.place - 1 in
    let x = c.index.result.now in
    let within : place < length xs = omega arith in
    let next : place + 1 ≡ c.clauses.place = omega arith in
    record {
      count = omega (arith, c.raise.ensures.count, c.clauses.invariant.count);
      within = omega arith;
      noted = λ first name found.
          let names = map_names (config_view config) in
          let more : length names ≡ length (map clause_view xs) = length-map (map clause_view xs) (λ (k : ClauseView). k.map_name) in
          let all : length (map clause_view xs) ≡ length xs = length-map xs clause_view in
          let lt : first < length c.clauses.highest.items = omega (arith, first_within names name first found, c.clauses.invariant.count) in
          noted name (clause_view x) (drop c.clauses.place (map clause_view xs)) (is_at_first (named_in (name_table c.args.maps.now) x.map) first)
          (slice_index_or c.clauses.highest.items first 0) (slice_index_or c.raise.new.highest.items first 0)
          (first_is names name first found x.map (named_in (name_table c.args.maps.now) x.map) (c.requires.first x.map))
          (c.clauses.invariant.noted first name found) (c.raise.ensures.raised first lt)
          ∙ ap (highest_in name) (sym (drop-map clause_view place xs ∙ ap (map clause_view) (drop_back xs place c.clauses.place x next c.index.ensures within) ∙ ap (λ (ks : List ClauseView). clause_view x ∷ ks) (sym (drop-map clause_view c.clauses.place xs))));
    }
