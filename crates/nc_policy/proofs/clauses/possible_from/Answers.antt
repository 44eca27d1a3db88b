use Rattle.std.proofs.Common.{◌≡◌, ◌+◌, ◌<◌, ◌≤◌, ℕ, List, Option, Some, None, IfSome, length, map, sym, ap, ◌∙◌, arith, inl, inr}
use Rattle.std.specs.Prelude.{slice_get}
use Rattle.std.proofs.lemmas.List.{length-map}
use Rattle.std.proofs.lemmas.Option.{slice_get_cases, slice_get_within}
use Rattle.nc_types.specs.Config.{ClauseView, clause_view, config_view}
use Rattle.nc_tables.specs.Policy.{Placed, is_matching}
use Rattle.nc_policy.specs.Views.{asked, map_names}
use Rattle.nc_policy.proofs.Deciding.{rest_of, of_map, passed_over, named_if, behind_if, at_some, fewer}
use Rattle.nc_policy.proofs.Keeping.{unmatched}
use Rattle.nc_policy.proofs.clauses.possible_from.Goals as goal

pub clauses-preserved : goal.clauses-preserved
clauses-preserved c =
    let config = config_view c.args.config.now in
    let name = c.args.map.now in
    let all = config.clauses in
    let names = map_names config in
    let place = c.in-Some.place in
    let later = c.clause_behind-next.result in
    let own : slice_get names place ≡ Some name = at_some (λ (k : ℕ). slice_get names k ≡ Some name) c.clauses.next c.clauses.invariant.named place c.in-Some.is in
    let over : (held : List ℕ) (k : ClauseView) → slice_get all place ≡ Some k
    → rest_of (of_map name (λ (k : Placed). is_matching config (asked c.args.prefix held) k.clause)) all later ≡ rest_of (of_map name (λ (k : Placed). is_matching config (asked c.args.prefix held) k.clause)) all (Some place) =
    λ held k at. passed_over name (λ (k : Placed). is_matching config (asked c.args.prefix held) k.clause) all place k at
    (unmatched config c.args.prefix held k (c.is_missed.ensures config k c.requires.indexed at c.if-not-is_missed.false)) later c.clause_behind-next.ensures in
    record {
      named = named_if name names (place + 1) later c.clause_behind-next.ensures;
      rest = λ held.
          let matches = λ (k : Placed). is_matching config (asked c.args.prefix held) k.clause in
          elim (slice_get_cases all place).1 [
            | inl r ↦ over held r.0 r.2 ∙ ap (rest_of (of_map name matches) all) (sym c.in-Some.is) ∙ c.clauses.invariant.rest held
            | inr r ↦
                let inside : place < length names = slice_get_within names place name own in
                absurd (omega (arith, r.0, length-map all (λ (k : ClauseView). k.map_name)))
          ];
      behind = λ least from.
          let before : least ≤ place = at_some (λ (k : ℕ). least ≤ k) c.clauses.next (c.clauses.invariant.behind least from) place c.in-Some.is in
          further least place later before (behind_if name names (place + 1) later c.clause_behind-next.ensures);
    }
  where
    further : (least place : ℕ) (o : Option ℕ) → least ≤ place → IfSome o (λ k. place + 1 ≤ k) → IfSome o (λ k. least ≤ k)
    further least place None before is = tt
    further least place (Some k) before is = omega arith

pub clauses-smaller : goal.clauses-smaller
clauses-smaller c =
    let place = c.in-Some.place in
    let names = map_names (config_view c.args.config.now) in
    let own = at_some (λ (k : ℕ). slice_get names k ≡ Some c.args.map.now) c.clauses.next c.clauses.invariant.named place c.in-Some.is in
    let inside : place < length c.args.config.now.clauses.items = omega (arith, slice_get_within names place c.args.map.now own, length-map (map clause_view c.args.config.now.clauses.items) (λ (k : ClauseView). k.map_name), length-map c.args.config.now.clauses.items clause_view) in
    fewer (length c.args.config.now.clauses.items) place c.clauses.next c.clause_behind-next.result c.in-Some.is inside
    (at_some (λ (k : ℕ). place + 1 ≤ k) c.clause_behind-next.result (behind_if c.args.map.now names (place + 1) c.clause_behind-next.result c.clause_behind-next.ensures))

pub returns-then-not-is_missed-clause-rest : goal.returns-then-not-is_missed-clause-rest
returns-then-not-is_missed-clause-rest c = λ held.
    let matches = λ (k : Placed). is_matching (config_view c.args.config.now) (asked c.args.prefix held) k.clause in
    ap (rest_of (of_map c.args.map.now matches) (config_view c.args.config.now).clauses) (sym c.in-Some.is) ∙ c.clauses.invariant.rest held

pub returns-clause-rest : goal.returns-clause-rest
returns-clause-rest c = c.clauses.invariant.rest
