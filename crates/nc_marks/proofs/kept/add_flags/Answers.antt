use Rattle.std.proofs.Common.{◌+◌, [], ◌∷◌, false, length, take, ap, ◌∙◌}
use Rattle.std.proofs.lemmas.List.{length_push, take-append-le}
use Rattle.nc_graph.proofs.WalkLemmas.{prefix-length}
use Rattle.nc_marks.specs.Sets.{flag}
use Rattle.nc_marks.proofs.RaiseLemmas.{flag-push}
use Rattle.nc_marks.proofs.kept.add_flags.Goals as goal

pub nodes-preserved : goal.nodes-preserved
nodes-preserved c =
    let first = c.args.reached.now.items in
    let flags = c.nodes.reached.items in
    let pushed = c.in_ok-push.ensures.items in
    record {
      long = ap length pushed ∙ length_push flags false ∙ ap (λ m. m + 1) c.nodes.invariant.long;
      kept = ap (take (length first)) pushed ∙ take-append-le (length first) flags (false ∷ []) (prefix-length first flags c.nodes.invariant.kept) ∙ c.nodes.invariant.kept;
      flags = λ i. ap (λ fs. flag fs i) pushed ∙ flag-push flags i ∙ c.nodes.invariant.flags i;
    }
