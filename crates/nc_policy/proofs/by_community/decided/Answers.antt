use Rattle.std.proofs.Common.{[], length, ◌∙◌}
use Rattle.std.specs.Option.{option_map}
use Rattle.std.proofs.lemmas.List.{length-map}
use Rattle.nc_types.specs.Config.{ClauseView, clause_view, config_view}
use Rattle.nc_policy.specs.Views.{asked, candidate_view, map_names}
use Rattle.nc_policy.proofs.AskedClauses.{all_beaten, bare_candidate, best_known, of_map_by, unheld}
use Rattle.nc_policy.proofs.Beating.{best_decides}
use Rattle.nc_policy.proofs.Ranging.{all_within}
use Rattle.nc_policy.proofs.by_community.decided.Goals as goal

pub best_asked_of-best-requires-clause-own : goal.best_asked_of-best-requires-clause-own
best_asked_of-best-requires-clause-own c =
    let config = config_view c.args.config.now in
    all_within c.args.known.askers.now (map_names config) c.args.map.now (length c.args.config.now.clauses.items)
    (length-map config.clauses (λ (k : ClauseView). k.map_name) ∙ length-map c.args.config.now.clauses.items clause_view) c.requires.known.askers.own

pub best_asked_of-best-requires-clause-best : goal.best_asked_of-best-requires-clause-best
best_asked_of-best-requires-clause-best c =
    let config = config_view c.args.config.now in
    let name = c.args.map.now in
    let p = c.args.prefix in
    let known = c.requires.known in
    let bare = c.candidate_of-bare in
    bare_candidate config name p c.args.held.now c.args.known.askers.now known.askers bare.result (bare.ensures.candidate name (asked p []) known.decided)
    (of_map_by config name (asked p []) (option_map candidate_view bare.result) (bare.ensures.decides name (asked p []) known.decided))

pub returns-clause-deciding : goal.returns-clause-deciding
returns-clause-deciding c =
    let config = config_view c.args.config.now in
    let name = c.args.map.now in
    let p = c.args.prefix in
    let held = c.args.held.now in
    let askers = c.args.known.askers.now in
    let known = c.requires.known in
    let bare = c.candidate_of-bare in
    let decides = bare.ensures.decides name (asked p []) known.decided in
    let one = c.best_asked_of-best in
    let best = c.best_asked_of in
    let named = best.ensures.named name known.askers.own (one.ensures.named name known.askers.own (of_map_by config name (asked p []) (option_map candidate_view bare.result) decides)) in
    best_decides config name (asked p held) c.requires.formed (option_map candidate_view best.result)
    (best_known config name (asked p held) best.result best.ensures.candidate named)
    (all_beaten config name p held askers known.askers c.parts.result.0.now c.parts.result.1.now c.parts.ensures (option_map candidate_view bare.result) (option_map candidate_view one.result) (option_map candidate_view best.result) decides
    one.ensures.beats one.ensures.beaten best.ensures.beats best.ensures.beaten)

pub best_asked_of-requires-clause-own : goal.best_asked_of-requires-clause-own
best_asked_of-requires-clause-own c =
    let config = config_view c.args.config.now in
    all_within c.args.known.askers.now (map_names config) c.args.map.now (length c.args.config.now.clauses.items)
    (length-map config.clauses (λ (k : ClauseView). k.map_name) ∙ length-map c.args.config.now.clauses.items clause_view) c.requires.known.askers.own

pub returns-then-are_beyond-2-clause-candidate : goal.returns-then-are_beyond-2-clause-candidate
returns-then-are_beyond-2-clause-candidate c =
    let config = config_view c.args.config.now in
    let name = c.args.map.now in
    let p = c.args.prefix in
    let known = c.requires.known in
    let bare = c.candidate_of-bare in
    bare_candidate config name p c.args.held.now c.args.known.askers.now known.askers bare.result (bare.ensures.candidate name (asked p []) known.decided)
    (of_map_by config name (asked p []) (option_map candidate_view bare.result) (bare.ensures.decides name (asked p []) known.decided))

pub returns-then-are_beyond-2-clause-deciding : goal.returns-then-are_beyond-2-clause-deciding
returns-then-are_beyond-2-clause-deciding c =
    let config = config_view c.args.config.now in
    let name = c.args.map.now in
    let p = c.args.prefix in
    let held = c.args.held.now in
    let askers = c.args.known.askers.now in
    let known = c.requires.known in
    let bare = c.candidate_of-bare in
    let seen = option_map candidate_view bare.result in
    let decides = bare.ensures.decides name (asked p []) known.decided in
    let named = of_map_by config name (asked p []) seen decides in
    let candidate = bare_candidate config name p held askers known.askers bare.result (bare.ensures.candidate name (asked p []) known.decided) named in
    best_decides config name (asked p held) c.requires.formed seen (best_known config name (asked p held) bare.result candidate named)
    (all_beaten config name p held askers known.askers c.parts.result.0.now c.parts.result.1.now c.parts.ensures seen seen seen decides
    (λ j beaten. beaten) (unheld config (asked p held) askers c.parts.result.0.now seen (c.are_beyond.ensures c.if-are_beyond.true))
    (λ j beaten. beaten) (unheld config (asked p held) askers c.parts.result.1.now seen (c.are_beyond-then-are_beyond.ensures c.if-are_beyond-2.true)))
