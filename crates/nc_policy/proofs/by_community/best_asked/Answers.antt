use Rattle.std.proofs.Common.{◌≡◌, ◌<◌, length, sym, ap, subst, ◌∙◌, arith, inl, inr, rules}
use Rattle.std.specs.Prelude.{slice_get}
use Rattle.std.specs.Option.{option_map}
use Rattle.std.proofs.lemmas.Bool.{cases_eq}
use Rattle.std.proofs.lemmas.Option.{get_or_from_slice_get}
use Rattle.nc_types.specs.Config.{config_view}
use Rattle.nc_policy.specs.declared.askers.Asker.{Asker}
use Rattle.nc_policy.specs.Views.{asked, candidate_view, map_names}
use Rattle.nc_policy.specs.Walks.{IsBeaten}
use Rattle.nc_policy.proofs.Ranging.{named_all, within_all}
use Rattle.nc_policy.proofs.by_community.best_asked.Goals as goal

pub better_within-best-requires-clause-place : goal.better_within-best-requires-clause-place
better_within-best-requires-clause-place c =
    within_all c.args.askers.now c.askers.at (length c.args.config.now.clauses.items) c.clause.result (let lt : c.askers.at < length c.args.askers.now = search rules in lt) c.requires.own c.clause.ensures

pub askers-preserved : goal.askers-preserved
askers-preserved c =
    let config = config_view c.args.config.now in
    let r = asked c.args.prefix c.args.held.now in
    let xs = c.args.askers.now in
    let step = c.better_within-best.ensures in
    record {
      candidate = step.candidate;
      named = λ name all best. step.named name (named_all xs c.askers.at (map_names config) name c.clause.result (let lt : c.askers.at < length xs = search rules in lt) all c.clause.ensures) (c.askers.invariant.named name all best);
      beats = λ j beaten. step.beats j (c.askers.invariant.beats j beaten);
      beaten = λ k a at low high. elim (cases_eq k c.askers.at) [
        | inl same ↦
            let here : c.clause.result ≡ a.place = c.clause.ensures a ∙ ap (λ (x : Asker). x.place) (get_or_from_slice_get xs c.askers.at a a (ap (slice_get xs) (sym same) ∙ at)) in
            subst (IsBeaten config r (option_map candidate_view c.better_within-best.result)) here step.beaten
        | inr other ↦ step.beats a.place (c.askers.invariant.beaten k a at low (omega arith))
      ];
    }

pub returns-clause-beaten : goal.returns-clause-beaten
returns-clause-beaten c = λ k a at same.
    c.askers.invariant.beaten k a at (c.range-from.ensures.low k a at same) (let lt : k < c.range-from.result.1 = c.range-from.ensures.high k a at same in omega arith)
